-- `periods::period_within` meets its contract. The loop's invariant is that each number is at least 1, and `Grown`: h stands for the numbers passed, and is
-- within the limit.
use Rattle.periods.specs.Periods.{EachPositive}
use Rattle.periods.proofs.Periods.{Grown}
use Rattle.periods.proofs.period_within.Given as goal

abbrev pub invariant-loop-y : goal.invariant-loop-y
invariant-loop-y l = EachPositive l.numbers × Grown l.limit l.numbers l.h l.y-index
