-- `due::Kept::sound` meets its contract: with at most x due times counted, the test goes over the kept ones.
use mathlib.Core.Path.{sym, ◌∙◌}
use borrow.Author.Rules.{rules}
use borrow.Author.Tests.{tests}
use lib.Dec.{leb}
use Rattle.std.proofs.lemmas.Iterator.{YieldsList-from_slice}
use Rattle.std.proofs.lemmas.Iterator.Search.{all_from_yields_List}
use Rattle.kinds.specs.Numbering.{max_time}
use Rattle.kinds.specs.declared.Tick.{Tick}
use Rattle.kinds.proofs.Lists.{length_mapped}
use Rattle.due.specs.Kept.{kept_times}
use Rattle.due.proofs.Keeping.{length-kept_times, kept_first, sound_count}
use Rattle.due.proofs.Kept.sound.Goals as goal

pub returns-then-self-row : goal.returns-then-self-row
returns-then-self-row c =
    let k = c.args.self in
    let used = length-kept_times k _ (search (rules, length_mapped)) c.min-count.ensures in
    all_from_yields_List (λ (t : Tick). leb t.0 max_time) _ _ c.all.result c.all.ensures.ran
    (YieldsList-from_slice (kept_times k) (c.iter.ensures.rest ∙ sym (kept_first k _ used)))
    (λ x b q h. search (rules, tests))
    ∙ sym (sound_count k c.args.row c.if-self-row.true)
