-- One unit given to a pending job. (docs/RULES.md, section 6.)
use Rattle.std.specs.Prelude.{ℕ, ◌-◌, Bool, cond, leb, ltb, set, get_or, Some, None}
use Rattle.jobs.specs.declared.Job.{Job}
use Rattle.jobs.specs.declared.Pending.{Pending}
use Rattle.jobs.specs.declared.Given.{Given}
use Rattle.jobs.specs.declared.Finished.TheVariants as finished
use Rattle.jobs.specs.declared.Ran.{Ran}
use Rattle.jobs.specs.Places.{no_job, used, taken_out}

-- A unit is a job's last if the job has at most one left. (6.13)
abbrev pub last_unit : Job → Bool
last_unit j = leb j.left 1

-- After a unit a job has one unit less left. (1.7, 6.10)
abbrev pub worked : Job → Job
worked j = record { serial = j.serial; row = j.row; release = j.release; due = j.due; cost = j.cost; left = j.left - 1 }

-- For a job that gets a unit, its serial is answered, and whether it finished. (6.12)
abbrev pub ran_of : Job → Ran
ran_of j = record { serial = j.serial; finished = cond (last_unit j) finished.Yes finished.No }

-- After the job at a place got a unit, it has one unit less left, or it has finished and is taken out. (6.10, 6.13)
unfoldable pub after : Pending → (at : ℕ) → Pending
after p at =
    cond (last_unit (get_or p.places at no_job))
    (taken_out p at)
    (record { places = set p.places at (worked (get_or p.places at no_job)); count = used p })

-- The job at a place gets one unit. If nobody is pending there, that is the answer, and nothing changes. (6.10, 10.7)
unfoldable pub given : Pending → (at : ℕ) → Given
given p at =
    cond (ltb at (used p))
    (record { pending = after p at; answer = Some (ran_of (get_or p.places at no_job)) })
    (record { pending = p; answer = None })
