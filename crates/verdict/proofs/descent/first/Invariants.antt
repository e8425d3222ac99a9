-- `verdict::descent::first` meets its contract. The lengths below `low` fit, and each stretch that is looked at ends at `high`, which is at most `hi`.
use Prim.Native.Nat.{◌+◌, ◌-◌, ◌≤◌}
use Rattle.theory.specs.Descent.{raised}
use Rattle.verdict.specs.Searched.{held_by}
use Rattle.verdict.proofs.Searches.{FitsBelow}
use Rattle.verdict.proofs.descent.first.Given as goal

abbrev pub invariant-loop-low : goal.invariant-loop-low
invariant-loop-low l = (l.stretch.lo ≤ l.low) × FitsBelow (raised (held_by l.terms) l.extra) l.stretch.lo l.low

abbrev pub decreases-loop-low : goal.decreases-loop-low
decreases-loop-low l = l.stretch.hi + 1 - l.low
