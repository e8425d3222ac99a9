-- What it means that a job goes first, that pending jobs are well formed, that a change keeps the serials, and that a tick was given or idle. (docs/RULES.md,
-- section 6.)
use Rattle.std.specs.Prelude.{ℕ, ◌≤◌, ◌<◌, ◌≡◌, true, cond, List, [], ◌∷◌, length, set, get_or}
use Rattle.kinds.specs.Numbering.{Says, values}
use Rattle.jobs.specs.declared.Job.{Job}
use Rattle.jobs.specs.declared.Pending.{Pending}
use Rattle.jobs.specs.declared.Turned.{Turned}
use Rattle.jobs.specs.Places.{max_places, no_job, jobs_of, without}
use Rattle.jobs.specs.Choice.{first_place}
use Rattle.jobs.specs.Units.{last_unit, worked}
use Rattle.jobs.specs.Serials.{distinct_serials, rising_serials}
use Rattle.jobs.specs.Late.{late_count}
use Rattle.jobs.specs.Answers.{turn_says}

-- The job a is due no later than b, and has no higher serial if their due times are equal. (6.11)
pub record NotAfter (a b : Job) : Type 0 where
  pub due : a.due.0 ≤ b.due.0
  pub serial : a.due.0 ≡ b.due.0 → a.serial.0 ≤ b.serial.0

-- At this place stands a job with the earliest due time, and with the lowest serial among equal due times. (6.11)
pub record IsFirst (js : List Job) (place : ℕ) : Type 0 where
  pub inside : place < length js
  pub first : (i : ℕ) → i < length js → NotAfter (get_or js place no_job) (get_or js i no_job)

-- All places are there, and the count is at most their number. This holds for whatever was made from the empty places by the calls. A value that was made in
-- another way may break it. (6.1)
pub record WellFormed (p : Pending) : Type 0 where
  pub all_places : length p.places ≡ max_places
  pub in_places : p.count ≤ max_places

-- These are the jobs after the one at a place got a unit. If it was the last unit, that job is taken out, and otherwise it has one unit less left. (6.10, 6.13)
abbrev pub unit_at : List Job → (at : ℕ) → List Job
unit_at js at = cond (last_unit (get_or js at no_job)) (without js at) (set js at (worked (get_or js at no_job)))

-- `serial_at` is the serial of the job at a place. (1.5)
abbrev pub serial_at : List Job → ℕ → ℕ
serial_at js i = (get_or js i no_job).serial.0

-- If the serials rose from place to place, they still do, and if they were distinct, they still are. (6.22)
pub record KeepsSerials (js next : List Job) : Type 0 where
  pub rising : rising_serials js ≡ true → rising_serials next ≡ true
  pub distinct : distinct_serials js ≡ true → distinct_serials next ≡ true

-- A job becomes late: it is unfinished, and its due time is the clock. (6.14)
pub record BecomesLate (clock : ℕ) (j : Job) : Type 0 where
  pub due_now : j.due.0 ≡ clock
  pub unfinished : 1 ≤ j.left

-- For a job that gets a unit, its serial is said, and 1 if it had at most one unit left, or 0 if it had more. (6.12, 6.13)
pub record UnitSaid (j : Job) (s : Says) : Type 0 where
  pub last : j.left ≤ 1 → s ≡ values (j.serial.0 ∷ 1 ∷ [])
  pub more : 2 ≤ j.left → s ≡ values (j.serial.0 ∷ 0 ∷ [])

-- A tick gave a unit to the job that goes first, said so, and counted the jobs that became late. (6.10 to 6.14)
pub record TickWasGiven (p : Pending) (clock : ℕ) (t : Turned) : Type 0 where
  pub jobs : jobs_of t.pending ≡ unit_at (jobs_of p) (first_place (jobs_of p))
  pub said : UnitSaid (get_or (jobs_of p) (first_place (jobs_of p)) no_job) (turn_says t.turn)
  pub late : t.late ≡ late_count clock (jobs_of t.pending)

-- A tick was idle: it changed no pending job, said no value, and no job became late. (6.12, 6.14)
pub record TickWasIdle (p : Pending) (t : Turned) : Type 0 where
  pub pending : t.pending ≡ p
  pub said : turn_says t.turn ≡ values []
  pub late : t.late ≡ 0
