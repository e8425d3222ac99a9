-- `replay::ticks::run_until` meets its contract. The loop's invariant is that the play that the arrays hold comes to the same with the ticks that are still to
-- come, and that `free` is the number of free ticks before the clock. The measure is the number of pending jobs.
use mathlib.Core.Path.{◌≡◌}
use Rattle.theory.specs.Ticks.{free_before, timer}
use Rattle.replay.specs.Arrays.{tick_arrays}
use Rattle.replay.proofs.Ticking.{TicksOn}
use Rattle.replay.proofs.ticks.run_until.Given as goal

abbrev pub invariant-loop-jobs : goal.invariant-loop-jobs
invariant-loop-jobs l =
    TicksOn l.timer.s l.timer.p l.until.0 (tick_arrays l.initial.jobs l.initial.log l.initial.clock.0 l.initial.logged)
    (tick_arrays l.jobs l.log l.clock.0 l.logged)
    × (l.free.0 ≡ free_before (timer l.timer.s l.timer.p) l.clock.0)

abbrev pub decreases-loop-jobs : goal.decreases-loop-jobs
decreases-loop-jobs l = l.jobs.count
