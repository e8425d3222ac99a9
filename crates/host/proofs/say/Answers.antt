-- `host::say` meets its contract: the two numbers fill the answer buffer.
use mathlib.Core.Path.{refl, ◌∙◌}
use native.Mathlib.Omega.{arith}
use Rattle.words.specs.Words.{word_length}
use Rattle.words.proofs.Storing.{put_stores_first, put_stores}
use Rattle.host.proofs.Bytes.{both_numbers}
use Rattle.host.proofs.say.Goals as goal

pub returns : goal.returns
returns c =
    let half = c.put in
    let answer = c.args.answer.now in
    let told = c.args.told in
    let first = put_stores_first answer told.first (omega arith) half.ensures in
    let second = put_stores half.new.rest word_length told.second (omega arith) c.put-2.ensures in
    (refl, second ∙ rw first (both_numbers answer told.first told.second (omega arith)))
