-- `verdict::lifts::least_lift` meets its contract: with the largest of the heights so far the line is above what is left out in the lengths below `at`.
use Prim.Native.Nat.{◌≤◌}
use Rattle.verdict.specs.HeldParts.{LowerLift}
use Rattle.verdict.specs.Searched.{held_by}
use Rattle.verdict.proofs.lifts.least_lift.Given as goal

abbrev pub invariant-loop-at : goal.invariant-loop-at
invariant-loop-at l =
    (l.at ≤ l.end) × LowerLift (held_by l.terms) (held_by l.part.terms) l.part.line.period l.part.line.slope l.part.line.lift l.at l.most
