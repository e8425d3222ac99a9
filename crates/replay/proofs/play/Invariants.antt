-- `replay::play` meets its contract. The loop's invariant is that the play on arrays has come as far as the play by single ticks, and leads to the same end.
-- The measure is the number of bytes of the script that are left.
use Prim.Native.Nat.{◌-◌}
use lib.ListN.{length}
use Rattle.replay.proofs.Replaying.{Plays}
use Rattle.replay.proofs.play.Given as goal

abbrev pub invariant-loop-at : goal.invariant-loop-at
invariant-loop-at l =
    Plays l.script l.table l.initial.log l.log l.going l.at

abbrev pub decreases-loop-at : goal.decreases-loop-at
decreases-loop-at l =
    length l.script - l.at
