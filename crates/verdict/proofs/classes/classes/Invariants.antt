-- `verdict::classes::classes` meets its contract: the classes above `top` are settled, by looks or by a walk.
use Prim.Native.Nat.{◌+◌, ◌≤◌}
use Rattle.verdict.specs.Searched.{held_by}
use Rattle.verdict.proofs.Searches.{ClassesDone}
use Rattle.verdict.proofs.classes.classes.Given as goal

abbrev pub invariant-loop-top : goal.invariant-loop-top
invariant-loop-top l =
    (l.cycle.d ≤ l.top) × (l.top ≤ l.cycle.d + l.way.step) × ClassesDone (held_by l.cycle.terms) l.cycle.d l.way.step l.part.line.period l.top l.best

abbrev pub decreases-loop-top : goal.decreases-loop-top
decreases-loop-top l = l.top
