-- Jobs late: the number of jobs that finished after their due time. (docs/RULES.md, 8.14.)
use Rattle.std.specs.Prelude.{ℕ, ◌+◌, ◌≤◌, ◌<◌, ◌≡◌, ◌↔◌, Bool, cond, ltb}
use mathlib.Core.List.{List, [], ◌∷◌, ◌++◌, Memᴰ}
use Rattle.kinds.specs.declared.Finish.{Finish}

-- Whether the job finished after its due time. (8.14)
abbrev pub finished_late : Finish → Bool
finished_late f = ltb f.due.0 f.finish.0

-- How many jobs of a list finished after their due time. (8.14)
unfoldable pub late_finishes : List Finish → ℕ
late_finishes [] = 0
late_finishes (f ∷ fs) = cond (finished_late f) 1 0 + late_finishes fs

-- Every job of a list finished at its due time or before. (1.9)
abbrev pub AllInTime : List Finish → Type 0
AllInTime fs = (f : Finish) → Memᴰ f fs → f.finish.0 ≤ f.due.0

-- ---- what is proved about jobs late (proofs/Late.antt)

-- A job that finished after its due time counts as one job late. (8.14)
abbrev pub OneLate : Type 0
OneLate = (f : Finish) → f.due.0 < f.finish.0 → late_finishes (f ∷ []) ≡ 1

-- A job that finished at its due time or before does not count as late. (1.9, 8.14)
abbrev pub OneInTime : Type 0
OneInTime = (f : Finish) → f.finish.0 ≤ f.due.0 → late_finishes (f ∷ []) ≡ 0

-- The jobs late of two lists together are the sum of the jobs late of each. (8.14)
abbrev pub LateTogether : Type 0
LateTogether = (fs gs : List Finish) → late_finishes (fs ++ gs) ≡ late_finishes fs + late_finishes gs

-- The number of jobs late is 0 exactly where every job finished at its due time or before. (8.14)
abbrev pub NoneLateMeans : Type 0
NoneLateMeans = (fs : List Finish) → (late_finishes fs ≡ 0) ↔ AllInTime fs
