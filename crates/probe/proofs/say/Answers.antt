-- `probe::say` meets its contract: two words fill a buffer of sixteen bytes.
use mathlib.Core.Path.{refl, ◌∙◌}
use mathlib.Core.List.{[], ◌∷◌}
use native.Mathlib.Omega.{arith}
use Rattle.probe.proofs.Words.{words_fill, two_words}
use Rattle.probe.proofs.say.Goals as goal

pub returns : goal.returns
returns c =
    let told = c.args.told in
    (refl, c.put_words.ensures ∙ words_fill c.args.answer.now (told.first ∷ told.second ∷ []) (omega arith) ∙ two_words told.first told.second)
