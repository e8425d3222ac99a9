-- In time. On a table that `judge` finds feasible, take any calls in any order. Once the clock is at an accepted job's due time or past it, the job has had
-- exactly its stated cost in units, if it was not ended early. A job that was ended early has had exactly what the end answered, which is less than its cost,
-- and never gets another unit. No job ever has more than its cost. The other rows may release whatever they like. Units are counted from the answers of the
-- ticks alone. (1.20, 6.26, 6.29)
use Rattle.std.specs.Prelude.{ℕ, suc, ◌-◌, ◌≤◌, ◌<◌, min, ◌≡◌, true, false, drop}
use mathlib.Core.List.{List, [], ◌∷◌, ◌++◌, Memᴰ}
use Rattle.kinds.specs.Numbering.{max_time}
use Rattle.numbers.specs.SpelledNumbers.{Bytes}
use Rattle.theory.specs.Jobs.{Job, DistinctNames}
use Rattle.theory.specs.Trace.{units}
use Rattle.verdict.specs.declared.Verdict.{Verdict}
use Rattle.verdict.specs.Verdict.{Judged, verdict_says}
use Rattle.promise.specs.Traces.{Call, Event, EndedJob, run_at, trace, clock_of, jobs_of_trace, ticks_of, units_of, ended_in, was_ended}

-- `judge` says feasible for the bytes. `Judged bytes v` is what its contract says about its answer v, and exactly one v satisfies it. (5.4, 9.5)
pub record SaidFeasible (bytes : List ℕ) : Type 0 where
  pub answer : Verdict
  pub judged : Judged bytes answer
  pub feasible : (verdict_says answer).number ≡ 20

-- Once the clock is at an accepted job's due time or past it, a job that was not ended early has had exactly its stated cost. This is the first promise of
-- demand 3. (1.20, 6.26)
abbrev pub InTime : Type 0
InTime = (bytes : List ℕ) → Bytes bytes → SaidFeasible bytes → (calls : List Call) (j : Job) → Memᴰ j (jobs_of_trace (trace bytes calls))
    → was_ended (trace bytes calls) j ≡ false → j.due ≤ clock_of (trace bytes calls) → units_of j.name (trace bytes calls) ≡ j.cost

-- What is known about a job that was ended early: it was accepted, it has had exactly the units that the end answered, and these are less than its cost. (6.27)
pub record EndedWith (es : List Event) (e : EndedJob) : Type 0 where
  pub job : Job
  pub was_accepted : Memᴰ job (jobs_of_trace es)
  pub its_serial : job.name ≡ e.serial
  pub had_these : units_of e.serial es ≡ e.units
  pub not_all : e.units < job.cost

-- Each job that was ended early has had exactly what the end answered, on any table, feasible or not. (6.26, 6.27)
abbrev pub EndedHadWhatWasSaid : Type 0
EndedHadWhatWasSaid = (bytes : List ℕ) → Bytes bytes → (calls : List Call) (e : EndedJob) → Memᴰ e (ended_in (trace bytes calls))
    → EndedWith (trace bytes calls) e

-- A job that was ended early never gets another unit, whatever calls come after. (6.29)
abbrev pub EndedNeverGetsAnother : Type 0
EndedNeverGetsAnother = (bytes : List ℕ) → Bytes bytes → (calls later : List Call) (j : Job) → Memᴰ j (jobs_of_trace (trace bytes calls))
    → was_ended (trace bytes calls) j ≡ true
    → (units_of j.name (trace bytes (later ++ calls)) ≡ units_of j.name (trace bytes calls)) × (was_ended (trace bytes (later ++ calls)) j ≡ true)

-- No job ever has more units than its stated cost, on any table, feasible or not. (6.26)
abbrev pub NeverMore : Type 0
NeverMore = (bytes : List ℕ) → Bytes bytes → (calls : List Call) (j : Job) → Memᴰ j (jobs_of_trace (trace bytes calls))
    → units_of j.name (trace bytes calls) ≤ j.cost

-- `units_of_trace_before` counts the units that a serial had in the ticks before a time. It leaves out the newest ticks, as many as the clock is past that time.
abbrev pub units_of_trace_before : (time serial : ℕ) → List Event → ℕ
units_of_trace_before time s es = units s (drop (clock_of es - time) (ticks_of es))

-- All units of an accepted job that was not ended early come before its due time. None of them comes later. (1.8, 6.26)
abbrev pub InTimeBeforeDue : Type 0
InTimeBeforeDue = (bytes : List ℕ) → Bytes bytes → SaidFeasible bytes → (calls : List Call) (j : Job) → Memᴰ j (jobs_of_trace (trace bytes calls))
    → was_ended (trace bytes calls) j ≡ false → j.due ≤ clock_of (trace bytes calls)
    → units_of_trace_before j.due j.name (trace bytes calls) ≡ j.cost

-- No two accepted jobs have the same serial, so units that are counted by serial are counted by job. (1.5)
abbrev pub OneJobASerial : Type 0
OneJobASerial = (bytes : List ℕ) → Bytes bytes → (calls : List Call) → DistinctNames (jobs_of_trace (trace bytes calls))

-- `ticks_in` is the number of ticks among the calls.
unfoldable pub ticks_in : List Call → ℕ
ticks_in [] = 0
ticks_in (Call.release row cost ∷ calls) = ticks_in calls
ticks_in (Call.tick ∷ calls) = suc (ticks_in calls)
ticks_in (Call.end serial ∷ calls) = ticks_in calls

-- The clock is the number of ticks called for, up to 2^40, and the run's own clock says the same. So whoever goes on ticking gets to every due
-- time. (1.3, 6.16)
abbrev pub ClockCountsTicks : Type 0
ClockCountsTicks = (bytes : List ℕ) → Bytes bytes → (calls : List Call)
    → (clock_of (trace bytes calls) ≡ min (ticks_in calls) max_time) × ((run_at bytes calls).clock.0 ≡ clock_of (trace bytes calls))

-- Every accepted job is due after its release, and at 2^40 or before. (4.7)
abbrev pub DueTimesCome : Type 0
DueTimesCome = (bytes : List ℕ) → Bytes bytes → (calls : List Call) (j : Job) → Memᴰ j (jobs_of_trace (trace bytes calls))
    → (suc j.release ≤ j.due) × (j.due ≤ max_time)
