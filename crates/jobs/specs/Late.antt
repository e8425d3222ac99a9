-- Jobs that become late: they are unfinished when the clock reaches their due time. (docs/RULES.md, 1.9 and 6.14.)
use Rattle.std.specs.Prelude.{ℕ, ◌+◌, Bool, cond, ◌&&◌, List, [], ◌∷◌, ltb, eqb}
use Rattle.jobs.specs.declared.Job.{Job}

-- A job becomes late if its due time equals the clock and it is unfinished. (1.9, 6.14)
abbrev pub is_late : (clock : ℕ) → Job → Bool
is_late clock j = eqb j.due.0 clock && ltb 0 j.left

-- The late count is the number of jobs that become late. (6.14)
unfoldable pub late_count : (clock : ℕ) → List Job → ℕ
late_count clock [] = 0
late_count clock (j ∷ js) = cond (is_late clock j) 1 0 + late_count clock js
