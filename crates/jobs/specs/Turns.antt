-- One tick, which gives a unit to the job that goes first, if one is pending; and the record of a job that finishes. (docs/RULES.md, 6.10 to 6.14.)
use Rattle.std.specs.Prelude.{ℕ, cond, eqb, get_or, Some, None}
use Rattle.kinds.specs.declared.Finish.{Finish}
use Rattle.jobs.specs.declared.Job.{Job}
use Rattle.jobs.specs.declared.Pending.{Pending}
use Rattle.jobs.specs.declared.Turned.{Turned}
use Rattle.jobs.specs.Places.{no_job, jobs_of, used}
use Rattle.jobs.specs.Choice.{first_place}
use Rattle.jobs.specs.Units.{ran_of, after}
use Rattle.jobs.specs.Late.{late_count}

-- `first_job` is the pending job that goes first. (6.11)
abbrev pub first_job : Pending → Job
first_job p = get_or p.places (first_place (jobs_of p)) no_job

-- After one tick the job that goes first has had a unit. (6.10, 6.11)
abbrev pub one_tick : Pending → Pending
one_tick p = after p (first_place (jobs_of p))

-- One tick takes the clock to `clock`. If nothing is pending it is idle, and otherwise the job that goes first gets a unit. Then the jobs that became late are
-- counted. (6.10 to 6.14)
unfoldable pub turned : Pending → (clock : ℕ) → Turned
turned p clock =
    cond (eqb (used p) 0)
    (record { pending = p; turn = None; late = 0 })
    (record { pending = one_tick p; turn = Some (ran_of (first_job p)); late = late_count clock (jobs_of (one_tick p)) })

-- For a job that finishes at `clock`, its serial, row, release, due time and finish are recorded. (6.13, 8.8)
abbrev pub finish_at : (clock : ℕ) → Job → Finish
finish_at clock j = record { serial = j.serial; row = j.row; release = j.release; due = j.due; finish = record { 0 = clock } }

-- A finish record that is not in use holds zeros.
abbrev pub no_finish : Finish
no_finish = finish_at 0 no_job
