-- `verdict::descent::descend` meets its contract. The lengths above `at` fit, and each look at a length that fits passes all lengths down to its demand.
use Prim.Native.Nat.{◌≤◌}
use Rattle.theory.specs.Descent.{raised}
use Rattle.verdict.specs.Searched.{held_by}
use Rattle.verdict.proofs.Searches.{FitsAbove}
use Rattle.verdict.proofs.descent.descend.Given as goal

abbrev pub invariant-loop-at : goal.invariant-loop-at
invariant-loop-at l = (l.at ≤ l.stretch.hi) × FitsAbove (raised (held_by l.terms) l.extra) l.stretch.hi l.at

abbrev pub decreases-loop-at : goal.decreases-loop-at
decreases-loop-at l = l.at
