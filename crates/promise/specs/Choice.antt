-- Choice. A tick is taken exactly when the timer takes it. Otherwise it runs the unfinished accepted job with the earliest due time, and the one with the
-- lowest serial among equal due times. It is idle exactly when it is not taken and every accepted job is finished. Its late count is the number of jobs that
-- became late in it, whether it was taken or not. All of this is said in terms of the table and of the answers before the tick, on the run that `start` makes
-- of any bytes. (1.19, 6.5, 6.10, 6.11, 6.12, 6.14)
use Rattle.std.specs.Prelude.{ℕ, suc, ◌+◌, ◌%◌, ◌≤◌, ◌<◌, ◌≡◌, ◌↔◌, ◌⊎◌, Bool, true, ◌&&◌, eqb}
use mathlib.Core.List.{List, ◌∷◌, Memᴰ}
use Rattle.kinds.specs.Numbering.{max_time}
use Rattle.numbers.specs.SpelledNumbers.{Bytes}
use Rattle.theory.specs.Lists.{total, weight_if}
use Rattle.theory.specs.Jobs.{Job}
use Rattle.table.specs.Tables.{table_read}
use Rattle.run.specs.Ticking.{ticked}
use Rattle.run.specs.Answers.{TickSays, idle, ran, taken, tick_says}
use Rattle.promise.specs.Traces.{Call, Event, run_at, trace, clock_of, jobs_of_trace, units_of, was_ended, unfinished}

-- `next_tick` is the answer of a tick that follows some calls. (6.12)
abbrev pub next_tick : (bytes : List ℕ) → List Call → TickSays
next_tick bytes calls = tick_says (ticked (run_at bytes calls)).answer

-- `next_late` is the late count of a tick that follows some calls. (6.14)
abbrev pub next_late : (bytes : List ℕ) → List Call → ℕ
next_late bytes calls = (ticked (run_at bytes calls)).late

-- The timer takes the tick that follows some calls: the number t of ticks so far has t mod p < s, for the table's s and p. (3.16, 6.5)
abbrev pub NextIsTaken : (bytes : List ℕ) → List Call → Type 0
NextIsTaken bytes calls = let t = (table_read bytes).table in clock_of (trace bytes calls) % t.p < t.s

-- Before the clock is at 2^40, a tick is taken exactly when the timer takes it. Whether a job is unfinished plays no part. (6.5, 6.12)
abbrev pub TakenWhenTheTimerTakes : Type 0
TakenWhenTheTimerTakes = (bytes : List ℕ) → Bytes bytes → (calls : List Call) → clock_of (trace bytes calls) < max_time
    → (next_tick bytes calls ≡ taken) ↔ NextIsTaken bytes calls

-- Before the clock is at 2^40, a tick is idle exactly when it is not taken and every accepted job has had its stated cost or was ended early. (6.12, 6.29)
abbrev pub IdleWhenAllHaveTheirCost : Type 0
IdleWhenAllHaveTheirCost = (bytes : List ℕ) → Bytes bytes → (calls : List Call) → clock_of (trace bytes calls) < max_time
    → (next_tick bytes calls ≡ idle)
    ↔ ((¬ NextIsTaken bytes calls)
    × ((j : Job) → Memᴰ j (jobs_of_trace (trace bytes calls)) → (was_ended (trace bytes calls) j ≡ true) ⊎ (units_of j.name (trace bytes calls) ≡ j.cost)))

-- A tick answers that a job ran: which one, and whether it finished. (6.12)
abbrev pub SomeJobRan : TickSays → Type 0
SomeJobRan said = (serial : ℕ) × (finished : Bool) × (said ≡ ran serial finished)

-- Before the clock is at 2^40, a tick answers that a job ran exactly when it is not taken and some accepted job is unfinished. (6.10, 6.12)
abbrev pub RunsWhenFree : Type 0
RunsWhenFree = (bytes : List ℕ) → Bytes bytes → (calls : List Call) → clock_of (trace bytes calls) < max_time
    → SomeJobRan (next_tick bytes calls)
    ↔ ((¬ NextIsTaken bytes calls) × ((j : Job) × Memᴰ j (jobs_of_trace (trace bytes calls)) × (unfinished (trace bytes calls) j ≡ true)))

-- The job goes first among the accepted jobs that are unfinished: none of them is due earlier, and none that is due at the same time has a lower serial. (6.11)
pub record GoesFirst (es : List Event) (j : Job) : Type 0 where
  pub accepted : Memᴰ j (jobs_of_trace es)
  pub not_done : unfinished es j ≡ true
  pub earliest : (i : Job) → Memᴰ i (jobs_of_trace es) → unfinished es i ≡ true → j.due ≤ i.due
  pub lowest : (i : Job) → Memᴰ i (jobs_of_trace es) → unfinished es i ≡ true → i.due ≡ j.due → j.name ≤ i.name

-- A tick ran the job that goes first, and answered that it finished exactly when this unit was the last of its stated cost. (6.11 to 6.13)
pub record RanFirst (es : List Event) (serial : ℕ) (finished : Bool) : Type 0 where
  pub job : Job
  pub its_serial : job.name ≡ serial
  pub first : GoesFirst es job
  pub finishes : (finished ≡ true) ↔ (suc (units_of serial es) ≡ job.cost)

-- Where a tick answers that a job ran, it is the job that goes first, and it finished exactly when this was its last unit. (6.11 to 6.13)
abbrev pub EarliestDueFirst : Type 0
EarliestDueFirst = (bytes : List ℕ) → Bytes bytes → (calls : List Call) (serial : ℕ) (finished : Bool)
    → next_tick bytes calls ≡ ran serial finished → RanFirst (trace bytes calls) serial finished

-- The job is due at this time and is unfinished. (1.9)
abbrev pub late_at : (time : ℕ) → List Event → Job → Bool
late_at time es j = eqb j.due time && unfinished es j

-- The late count of a tick is the number of accepted jobs that are due at the new clock and unfinished after the tick's unit, if it gave one. A taken tick
-- counts them too. Beside a refused tick the count is 0, since no job is due after 2^40. (6.14)
abbrev pub LateCountIsTheLate : Type 0
LateCountIsTheLate = (bytes : List ℕ) → Bytes bytes → (calls : List Call)
    → next_late bytes calls
    ≡ total (weight_if (late_at (clock_of (trace bytes calls) + 1) (trace bytes (Call.tick ∷ calls))) (λ _. 1)) (jobs_of_trace (trace bytes calls))
