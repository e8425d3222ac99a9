-- Refused exactly when. This page says what each release, each tick and each end is answered, in terms of the table and of the answers before it. A release
-- gets 6 or 7 by the table. It gets 8 where as many accepted jobs are unfinished as there are places, and 9 where the due time by the rules over the accepted
-- jobs of the row or server is above 2^40. A tick gets 10 after 2^40 ticks. An end gets 17 where no unfinished job has the serial: it was never given out, or
-- its job has had its cost or was ended early. An end of an unfinished job gets 18 after 2^40 ends. No call gets 11. A refused call changes nothing. (1.18,
-- 6.8, 6.16, 6.18, 6.25, 6.30)
use Rattle.std.specs.Prelude.{ℕ, ◌≤◌, ◌≡◌, ◌↔◌, cond, ◌&&◌, List, ◌∷◌, leb, ltb, length}
use Rattle.kinds.specs.Numbering.{max_time}
use Rattle.numbers.specs.SpelledNumbers.{Bytes}
use Rattle.theory.specs.DueTimes.{dues}
use Rattle.theory.specs.Sources.{own}
use Rattle.table.specs.declared.Table.{Table}
use Rattle.table.specs.Rows.{from_one_to}
use Rattle.table.specs.Tables.{table_read}
use Rattle.jobs.specs.Places.{max_places}
use Rattle.run.specs.Runs.{row_in_use, cost_limit}
use Rattle.run.specs.Release.{released}
use Rattle.run.specs.Ending.{ended}
use Rattle.run.specs.Answers.{ReleaseSays, accepted, release_says, EndingSays, ended_with, end_says}
use Rattle.run.specs.Answers as says
use Rattle.promise.specs.Traces.{Call, Event, run_at, event_of, trace, Told, tell, clock_of, jobs_of_trace, job_of_serial, units_of}
use Rattle.promise.specs.Traces.{ended_in, unfinished, unfinished_in}
use Rattle.promise.specs.Choice.{next_tick}
use Rattle.promise.specs.Sources.{source_at, source_due}

-- `next_due` is the due time of the row number's next job, released at the clock, by the rules over its jobs that were accepted so far: for a row by the paper's
-- recurrence, and for a server by its last due time and the cost. (4.2, 4.3, 4.9)
abbrev pub next_due : Table → List Event → (row cost : ℕ) → ℕ
next_due t es row cost = source_due (source_at t row) (dues (own row (jobs_of_trace es))) (clock_of es) cost

-- `release_answer` makes the tests of a release in their order: 6, 7, 8, 9. Where none refuses, it answers the next serial and the due time. (6.6, 6.8)
abbrev pub release_answer : Table → List Event → (row cost : ℕ) → ReleaseSays
release_answer t es row cost =
    cond (row_in_use t row)
    (cond (from_one_to (cost_limit t row) cost)
    (cond (ltb (unfinished_in es) max_places)
    (cond (leb (next_due t es row cost) max_time) (accepted (length (jobs_of_trace es)) (next_due t es row cost)) (says.ReleaseSays.refused 9 0))
    (says.ReleaseSays.refused 8 0))
    (says.ReleaseSays.refused 7 0))
    (says.ReleaseSays.refused 6 0)

-- After any calls, a release is answered as `release_answer` says. (6.6, 6.8)
abbrev pub ReleasesByTheTrace : Type 0
ReleasesByTheTrace = (bytes : List ℕ) → Bytes bytes → (calls : List Call) (row cost : ℕ)
    → release_says (released (run_at bytes calls) row cost).answer ≡ release_answer (table_read bytes).table (trace bytes calls) row cost

-- A tick is refused exactly when 2^40 ticks have gone by, and then with 10 at place 0. (6.16, 10.2)
abbrev pub TicksByTheTrace : Type 0
TicksByTheTrace = (bytes : List ℕ) → Bytes bytes → (calls : List Call) (number place : ℕ)
    → (next_tick bytes calls ≡ says.TickSays.refused number place) ↔ ((number ≡ 10) × (place ≡ 0) × (clock_of (trace bytes calls) ≡ max_time))

-- `end_answer` makes the tests of an end in their order: 17 where no accepted job with that serial is unfinished, then 18 where 2^40 jobs were ended. Otherwise
-- it answers the units that the ticks have given to the serial. (6.27, 6.30)
abbrev pub end_answer : List Event → (serial : ℕ) → EndingSays
end_answer es serial =
    cond (ltb serial (length (jobs_of_trace es)) && unfinished es (job_of_serial serial (jobs_of_trace es)))
    (cond (ltb (length (ended_in es)) max_time) (ended_with (units_of serial es)) (says.EndingSays.refused 18 0))
    (says.EndingSays.refused 17 0)

-- After any calls, an end is answered as `end_answer` says. (6.27, 6.30)
abbrev pub EndsByTheTrace : Type 0
EndsByTheTrace = (bytes : List ℕ) → Bytes bytes → (calls : List Call) (serial : ℕ)
    → end_says (ended (run_at bytes calls) serial).answer ≡ end_answer (trace bytes calls) serial

-- There are never more unfinished jobs than places. (6.1, 6.2)
abbrev pub PlacesAreEnough : Type 0
PlacesAreEnough = (bytes : List ℕ) → Bytes bytes → (calls : List Call) → unfinished_in (trace bytes calls) ≤ max_places

-- A call was refused where its event tells about no job and no tick.
abbrev pub Refused : Event → Type 0
Refused e = (t : Told) → tell e t ≡ t

-- A refused call leaves the run as it was. (6.18)
abbrev pub RefusedChangesNothing : Type 0
RefusedChangesNothing = (bytes : List ℕ) → Bytes bytes → (calls : List Call) (c : Call) → Refused (event_of (run_at bytes calls) c)
    → run_at bytes (c ∷ calls) ≡ run_at bytes calls
