-- What one look at each pending job finds, and the job that the late count leaves out because it finishes when it is due. (docs/RULES.md, 6.11 to 6.14.)
use Rattle.std.specs.Prelude.{ℕ, Bool, ◌&&◌, List, [], ◌∷◌, Option, Some, None, get_or}
use Rattle.jobs.specs.declared.Job.{Job}
use Rattle.jobs.specs.declared.FirstJob.{FirstJob}
use Rattle.jobs.specs.declared.Look.{Look}
use Rattle.jobs.specs.Places.{no_job}
use Rattle.jobs.specs.Choice.{first_place}
use Rattle.jobs.specs.Units.{last_unit}
use Rattle.jobs.specs.Late.{is_late, late_count}

-- The job that goes first and its place, or nobody if no job is pending. (6.11)
abbrev pub first_found : List Job → Option FirstJob
first_found [] = None
first_found (j ∷ js) = let at = first_place (j ∷ js) in Some (record { place = at; job = get_or (j ∷ js) at no_job })

-- One look finds the job that goes first, and counts the jobs that become late at the clock if none of them gets a unit before. (6.11, 6.14)
abbrev pub look_of : (clock : ℕ) → List Job → Look
look_of clock js = record { first = first_found js; late = late_count clock js }

-- A job that gets a unit finishes when it is due if that unit is its last and it would become late without it. (6.13, 6.14)
abbrev pub finishes_when_due : (clock : ℕ) → Job → Bool
finishes_when_due clock j = last_unit j && is_late clock j
