-- `Pending::look` meets its contract. The loop has seen the jobs before the place i: going on with the best of them finds the job that goes first among all, and
-- the late ones counted, with those from i on, are all.
use Prim.Native.Nat.{◌+◌, ◌≤◌}
use mathlib.Core.Path.{◌≡◌}
use lib.ListN.{drop, get_or}
use Rattle.jobs.specs.Places.{no_job}
use Rattle.jobs.specs.Choice.{first_from, first_place}
use Rattle.jobs.specs.Late.{late_count}
use Rattle.jobs.proofs.Pending.look.Given as goal

abbrev pub invariant-loop-i : goal.invariant-loop-i
invariant-loop-i l =
    (first_from l.i l.place l.best (drop l.i l.jobs) ≡ first_place l.jobs)
    × (l.best ≡ get_or l.jobs l.place no_job)
    × (l.late ≤ l.i)
    × (l.late + late_count l.clock.0 (drop l.i l.jobs) ≡ late_count l.clock.0 l.jobs)
