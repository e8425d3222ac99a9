-- `run::soundness::rows_sound` meets its contract: it tests the rows one by one, each with its kept due times.
use mathlib.Core.Path.{◌∙◌}
use mathlib.Core.Bool.{◌&&◌}
use borrow.Author.Rules.{rules}
use borrow.Author.Tests.{tests}
use Rattle.std.proofs.lemmas.Iterator.{YieldsList-from_slice, YieldsList-from_zip}
use Rattle.std.proofs.lemmas.Iterator.Search.{all_from_yields_List}
use Rattle.table.specs.declared.Row.{Row}
use Rattle.table.specs.Rows.{row_acceptable}
use Rattle.due.specs.declared.Kept.{Kept}
use Rattle.due.specs.Kept.{kept_sound}
use Rattle.run.proofs.Sound.{rows_tested}
use Rattle.run.proofs.soundness.rows_sound.Goals as goal

pub returns : goal.returns
returns c =
    all_from_yields_List (λ (p : Row × Kept). row_acceptable p.0 && kept_sound p.1 p.0) c.all.new.self _ c.all.result c.all.ensures.ran
    (YieldsList-from_zip (YieldsList-from_slice c.args.rows.now (rw c.zip.ensures.first c.iter.ensures.rest))
    (YieldsList-from_slice c.args.kept.now c.zip.ensures.second.0))
    (λ x b q h. search (rules, tests))
    ∙ rows_tested c.args.rows.now c.args.kept.now
