-- Jobs in the order in which they are chosen, and the same jobs in another order. Where jobs stand in that order, the first of them goes first: to work on it
-- is what single ticks on the same jobs in any order come to. (docs/RULES.md, 6.10 to 6.13.)
use Rattle.std.specs.Prelude.{ℕ, ◌-◌, ◌<◌, ◌≡◌, ◌≢◌, true, length, take, drop, get_or}
use mathlib.Core.List.{List, [], ◌∷◌, ◌++◌, Memᴰ}
use Rattle.jobs.specs.declared.Job.{Job}
use Rattle.jobs.specs.Places.{no_job, without}
use Rattle.jobs.specs.Choice.{goes_before}
use Rattle.columns.specs.Columns.{serials_of, dues_of, behind}
use Rattle.columns.specs.Ticks.{Reached, worked_for, worked_first}

-- Each job is chosen before all that stand behind it: the earlier due time first, and the lower serial among equal due times. (6.11)
abbrev pub InOrder : List Job → Type 0
InOrder [] = Unit {0}
InOrder (j ∷ js) = ((i : Job) → Memᴰ i js → goes_before j i ≡ true) × InOrder js

-- The jobs q are the jobs js in another order: the first of q stands somewhere among js, and without it the rest are the same jobs.
abbrev pub SameJobs : (q js : List Job) → Type 0
SameJobs [] js = js ≡ []
SameJobs (j ∷ q) js = (at : ℕ) × (at < length js) × (get_or js at no_job ≡ j) × SameJobs q (without js at)

-- The jobs with one more put in: behind it are the last jobs that are all chosen after it. (6.11)
abbrev pub in_place : Job → List Job → List Job
in_place j js =
    let at = length js - behind j.due.0 j.serial.0 (dues_of js) (serials_of js) in take at js ++ (j ∷ drop at js)

-- What ticks have led to on jobs in order is what they have led to on the same jobs in another order: the same clock, the same finished job, and the same jobs
-- left, which are in order.
pub record SameReached (r s : Reached) : Type 0 where
  pub clock : r.clock ≡ s.clock
  pub answer : r.answer ≡ s.answer
  pub jobs : SameJobs r.jobs s.jobs
  pub in_order : InOrder r.jobs

-- ---- what is proved about jobs in order (proofs/Ordered.antt)

-- A job that is put in keeps the order, if its serial is new. (6.11)
abbrev pub PutKeepsOrder : Type 0
PutKeepsOrder = (j : Job) (q : List Job) → InOrder q → ((i : Job) → Memᴰ i q → i.serial.0 ≢ j.serial.0) → InOrder (in_place j q)

-- Jobs with one put in are the same jobs as those with it at their end. (6.7)
abbrev pub PutKeepsJobs : Type 0
PutKeepsJobs = (j : Job) (q js : List Job) → SameJobs q js → SameJobs (in_place j q) (js ++ (j ∷ []))

-- Each of the same jobs in another order is one of them.
abbrev pub SameAreAmong : Type 0
SameAreAmong = (q js : List Job) → SameJobs q js → (i : Job) → Memᴰ i q → Memᴰ i js

-- The same jobs are as many.
abbrev pub SameAreAsMany : Type 0
SameAreAsMany = (q js : List Job) → SameJobs q js → length q ≡ length js

-- To work on the first of jobs in order is what single ticks on the same jobs in any order come to. (6.10 to 6.13)
abbrev pub FirstIsWorkedOn : Type 0
FirstIsWorkedOn = (n clock : ℕ) (q js : List Job) → InOrder q → SameJobs q js
    → SameReached (worked_first n clock q) (worked_for n clock js)
