-- `verdict::descent::smallest` meets its contract. The length `high` fails, and those below `low` fit.
use Prim.Native.Nat.{◌-◌, ◌≤◌, ◌<◌}
use Rattle.theory.specs.Descent.{raised}
use Rattle.verdict.specs.Searched.{held_by}
use Rattle.verdict.proofs.Searches.{FitsBelow}
use Rattle.verdict.proofs.descent.smallest.Given as goal

abbrev pub invariant-loop-low : goal.invariant-loop-low
invariant-loop-low l =
    (l.fn.stretch.lo ≤ l.low) × (l.low ≤ l.high) × (l.high ≤ l.fn.stretch.hi) × (l.high < raised (held_by l.terms) l.extra l.high)
    × FitsBelow (raised (held_by l.terms) l.extra) l.fn.stretch.lo l.low

abbrev pub decreases-loop-low : goal.decreases-loop-low
decreases-loop-low l = l.high - l.low
