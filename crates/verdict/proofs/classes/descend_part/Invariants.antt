-- `verdict::classes::descend_part` meets its contract. The part and its line never fall, so that each look at a length that fits
-- passes all lengths down to the height that was found.
use Prim.Native.Nat.{◌≤◌}
use Rattle.verdict.specs.Searched.{with_line}
use Rattle.verdict.proofs.Searches.{FitsAbove}
use Rattle.verdict.proofs.classes.descend_part.Given as goal

abbrev pub invariant-loop-at : goal.invariant-loop-at
invariant-loop-at l = (l.at ≤ l.stretch.hi) × FitsAbove (with_line l.part.terms l.part.line) l.stretch.hi l.at

abbrev pub decreases-loop-at : goal.decreases-loop-at
decreases-loop-at l = l.at
