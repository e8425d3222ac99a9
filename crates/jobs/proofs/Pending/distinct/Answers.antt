-- `Pending::distinct` meets its contract: serials that rise are distinct.
use mathlib.Core.Path.{sym, ◌∙◌}
use Rattle.jobs.proofs.Serials.{rising_distinct}
use Rattle.jobs.proofs.Pending.distinct.Goals as goal

pub returns-then-rising : goal.returns-then-rising
returns-then-rising c = rw (← c.jobs.ensures, c.if-rising.true) (sym (rising_distinct c.jobs.result.now (sym c.rising.ensures ∙ c.if-rising.true)))
