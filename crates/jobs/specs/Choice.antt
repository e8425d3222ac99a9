-- Which pending job goes first: the one with the earliest due time, and among equal due times the one with the lowest serial. (docs/RULES.md, 6.11.)
use Rattle.std.specs.Prelude.{ℕ, suc, Bool, true, false, cond, List, [], ◌∷◌, ltb, Option, Some, None}
use Rattle.jobs.specs.declared.Job.{Job}

-- One job goes before another if its due time is earlier, or if their due times are equal and its serial is lower. (6.11)
unfoldable pub goes_before : Job → Job → Bool
goes_before a b = cond (ltb a.due.0 b.due.0) true (cond (ltb b.due.0 a.due.0) false (ltb a.serial.0 b.serial.0))

-- This is the place of the job that goes first, once the jobs before the place i are compared. `best`, at the place `at`, goes first among those, and the list
-- holds the jobs from i on. (6.11)
abbrev pub first_from : (i at : ℕ) (best : Job) → List Job → ℕ
first_from i at best [] = at
first_from i at best (j ∷ js) = cond (goes_before j best) (first_from (suc i) i j js) (first_from (suc i) at best js)

-- The first place is that of the job that goes first. Where there is no job it is 0. (6.11)
abbrev pub first_place : List Job → ℕ
first_place [] = 0
first_place (j ∷ js) = first_from 1 0 j js

-- The choice is the place of the job that goes first, or nobody if no job is pending. (6.11)
abbrev pub choice_of : List Job → Option ℕ
choice_of [] = None
choice_of (j ∷ js) = Some (first_place (j ∷ js))
