-- `verdict::lifts::turn_of` meets its contract: nothing overflows, and the multiples come to an end.
use Prim.Native.Nat.{◌+◌, ◌-◌, ◌≤◌}
use Rattle.verdict.proofs.lifts.turn_of.Given as goal

abbrev pub invariant-loop-turn : goal.invariant-loop-turn
invariant-loop-turn l = 1 ≤ l.turn

abbrev pub decreases-loop-turn : goal.decreases-loop-turn
decreases-loop-turn l = l.most + 1 - l.turn
