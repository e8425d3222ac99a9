-- The laws of late jobs and of their count. (docs/RULES.md, section 6.)
use Rattle.std.specs.Prelude.{ℕ, ◌+◌, ◌<◌, ◌≡◌, ◌↔◌, true, cond, List, [], ◌∷◌, length, get_or}
use Rattle.jobs.specs.declared.Job.{Job}
use Rattle.jobs.specs.Places.{no_job}
use Rattle.jobs.specs.Late.{is_late, late_count}
use Rattle.jobs.specs.OneLook.{finishes_when_due}
use Rattle.jobs.specs.JobChanges.{BecomesLate, unit_at}

-- ---- late jobs

-- The test `is_late` passes exactly when the job becomes late. (6.14)
abbrev pub LateCountMeans : Type 0
LateCountMeans = (clock : ℕ) (j : Job) → (is_late clock j ≡ true) ↔ BecomesLate clock j

-- Where there are no jobs, the late count is 0. (6.14)
abbrev pub NoneLate : Type 0
NoneLate = (clock : ℕ) → late_count clock [] ≡ 0

-- A job that becomes late adds 1 to the late count. (6.14)
abbrev pub LateAddsOne : Type 0
LateAddsOne = (clock : ℕ) (j : Job) (js : List Job) → BecomesLate clock j → late_count clock (j ∷ js) ≡ 1 + late_count clock js

-- A job that does not become late adds nothing to the late count. (6.14)
abbrev pub OthersAddNone : Type 0
OthersAddNone = (clock : ℕ) (j : Job) (js : List Job) → (BecomesLate clock j → ⊥) → late_count clock (j ∷ js) ≡ late_count clock js

-- After a unit for the job at a place, the late count is what it was before, less one if that job finishes when it is due. So one look at the jobs before the
-- unit finds the choice and the late count. (6.13, 6.14)
abbrev pub LateByOneLook : Type 0
LateByOneLook = (clock : ℕ) (js : List Job) (at : ℕ) → at < length js
    → late_count clock (unit_at js at) + cond (finishes_when_due clock (get_or js at no_job)) 1 0 ≡ late_count clock js
