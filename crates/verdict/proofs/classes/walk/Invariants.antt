-- `verdict::classes::walk` meets its contract: the lengths of the class before `at` fit.
use Prim.Native.Nat.{◌-◌}
use Rattle.theory.specs.Classes.{Walked}
use Rattle.verdict.specs.Searched.{held_by}
use Rattle.verdict.proofs.classes.walk.Given as goal

abbrev pub invariant-loop-at : goal.invariant-loop-at
invariant-loop-at l = Walked (held_by l.terms) l.class.step l.class.from l.at l.class.best

abbrev pub decreases-loop-at : goal.decreases-loop-at
decreases-loop-at l = l.class.best - l.at
