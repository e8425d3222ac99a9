-- `verdict::classes::settled_from` meets its contract: the lengths that are looked at are in the class.
use Prim.Native.Nat.{◌-◌}
use Rattle.verdict.proofs.Searches.{InTurn}
use Rattle.verdict.proofs.classes.settled_from.Given as goal

abbrev pub invariant-loop-at : goal.invariant-loop-at
invariant-loop-at l = InTurn l.class.step l.class.from l.at

abbrev pub decreases-loop-at : goal.decreases-loop-at
decreases-loop-at l = l.class.best - l.at
