-- The live run, as a C program sees it. The program starts a run in its own memory, makes any calls on it in any order, with any answer buffers, and has after
-- each of them a status and the bytes of its answer buffer. What it reads from these alone is a trace of the same calls. So each promise about traces is a
-- promise about what the program reads: in time, never more, share, refused exactly when. 11 never comes. (1.20, 9.9 to 9.15)
use Rattle.std.specs.Prelude.{ℕ, ◌+◌, ◌-◌, ◌≤◌, ◌<◌, ◌≡◌, ◌↔◌, ◌⊎◌, ◌≢◌, false, cond, eqb, length, take, drop}
use mathlib.Core.List.{List, [], ◌∷◌, Memᴰ}
use Rattle.kinds.specs.Numbering.{Said, refused_says, max_time}
use Rattle.numbers.specs.SpelledNumbers.{Bytes}
use Rattle.words.specs.Words.{word_length, from_lowest_first}
use Rattle.theory.specs.Jobs.{Job}
use Rattle.table.specs.Tables.{table_read}
use Rattle.verdict.specs.declared.Verdict.{Verdict}
use Rattle.verdict.specs.declared.Verdict.TheVariants as verdict
use Rattle.verdict.specs.Verdict.{Judged}
use Rattle.run.specs.declared.Run.{Run}
use Rattle.live.specs.Statuses.{release_said, end_said, release_read, tick_read, late_read, end_read}
use Rattle.host.specs.Answer.{answer_length, VerdictAnswered}
use Rattle.host.specs.Live.{answer_after, start_told, start_leaves, release_told, release_leaves, tick_told, tick_leaves, end_told, end_leaves}
use Rattle.promise.specs.Sources.{source_at, source_demand}
use Rattle.promise.specs.Traces.{Call, Event, EndedJob, run_at, trace, clock_of, jobs_of_trace, units_of, ended_in, was_ended}
use Rattle.promise.specs.InTime.{EndedWith}
use Rattle.promise.specs.Refusals.{release_answer, end_answer}
use Rattle.promise.specs.Share.{costs_in, consumed_in}

-- ---- what the program does and what it sees

-- A call on a live run: a release, a tick or an end, and the answer buffer that is lent with it, of any length and with any bytes. (9.9)
pub record LiveCall : Type 0 where
  pub call : Call
  pub buffer : List ℕ

-- What the program has after a call: the status, and the bytes of its answer buffer. (9.9)
pub record Seen : Type 0 where
  pub status : ℕ
  pub answer : List ℕ

-- The run that a call leaves with an answer buffer of so many bytes, by the contract of `run_release`, `run_tick` or `run_end`. (9.11)
abbrev pub live_left : Run → Call → (size : ℕ) → Run
live_left run (Call.release row cost) size = (release_leaves size run row cost).run
live_left run Call.tick size = (tick_leaves size run).run
live_left run (Call.end serial) size = (end_leaves size run serial).run

-- The status that a call returns, by the same contracts. (9.12, 9.13)
abbrev pub live_status : Run → Call → (size : ℕ) → ℕ
live_status run (Call.release row cost) size = (release_leaves size run row cost).status
live_status run Call.tick size = (tick_leaves size run).status
live_status run (Call.end serial) size = (end_leaves size run serial).status

-- What a call says, by the same contracts. (9.12)
abbrev pub live_told : Run → Call → Said
live_told run (Call.release row cost) = release_told run row cost
live_told run Call.tick = tick_told run
live_told run (Call.end serial) = end_told run serial

-- What the program has after a call on a run. (9.12, 9.13)
abbrev pub seen_after : Run → LiveCall → Seen
seen_after run c = record { status = live_status run c.call (length c.buffer); answer = answer_after c.buffer (live_told run c.call) }

-- The run in the program's memory after some calls, newest first. It begins as `run_start`, lent an answer buffer of 16 bytes, leaves it on a table's bytes.
-- `memory` is whatever stood there before. Nobody else writes into it: each call finds the run that the call before it left. (9.10, 9.15)
unfoldable pub live_run_at : (memory : Run) (table : List ℕ) → List LiveCall → Run
live_run_at memory table [] = (start_leaves answer_length memory table).run
live_run_at memory table (c ∷ earlier) = live_left (live_run_at memory table earlier) c.call (length c.buffer)

-- What the program has after each of some calls, newest first.
unfoldable pub seen : (memory : Run) (table : List ℕ) → List LiveCall → List Seen
seen memory table [] = []
seen memory table (c ∷ earlier) = seen_after (live_run_at memory table earlier) c ∷ seen memory table earlier

-- ---- what the program reads

-- The status and the two numbers of an answer buffer, each of eight bytes, lowest byte first. (9.4)
abbrev pub read_said : Seen → Said
read_said s = record {
  number = s.status;
  first = from_lowest_first (take word_length s.answer);
  second = from_lowest_first (take word_length (drop word_length s.answer));
}

-- The event that the program reads after a call. (9.12)
abbrev pub read_event : Call → Seen → Event
read_event (Call.release row cost) s = Event.release row cost (release_read (read_said s))
read_event Call.tick s = Event.tick (tick_read (read_said s)) (late_read (read_said s))
read_event (Call.end serial) s = Event.end serial (end_read (read_said s))

-- The events that the program reads, newest first, from the calls that it made and from what it has after each. Calls that got 13 are left out. (9.13)
abbrev pub events_read : List LiveCall → List Seen → List Event
events_read [] ss = []
events_read (c ∷ cs) [] = []
events_read (c ∷ cs) (s ∷ ss) = cond (eqb s.status 13) (events_read cs ss) (read_event c.call s ∷ events_read cs ss)

-- The events that a program reads which makes these calls on a run that it started on a table.
abbrev pub live_events : (memory : Run) (table : List ℕ) → List LiveCall → List Event
live_events memory table calls = events_read calls (seen memory table calls)

-- The calls with an answer buffer of 16 bytes.
abbrev pub calls_made : List LiveCall → List Call
calls_made [] = []
calls_made (c ∷ cs) = cond (eqb (length c.buffer) answer_length) (c.call ∷ calls_made cs) (calls_made cs)

-- ---- what is proved (proofs/LiveCalls.antt)

-- The run in the program's memory is that of a trace, and the events that the program reads are that trace: of the calls that it made with an answer buffer of
-- 16 bytes, in their order. (9.15)
abbrev pub LiveIsATrace : Type 0
LiveIsATrace = (memory : Run) (table : List ℕ) → Bytes table → (calls : List LiveCall)
    → (live_run_at memory table calls ≡ run_at table (calls_made calls)) × (live_events memory table calls ≡ trace table (calls_made calls))

-- What holds for every trace on a table holds for the events that a program reads. (9.15)
abbrev pub LivePromises : Type 1
LivePromises = (table : List ℕ) → Bytes table → (P : List Event → Type 0) → ((calls : List Call) → P (trace table calls))
    → (memory : Run) (calls : List LiveCall) → P (live_events memory table calls)

-- Where `verdict` returned 20 for the table: once the clock is at an accepted job's due time or past it, a job that was not ended early has had exactly its
-- stated cost, by what the program reads. (1.20, 6.26)
abbrev pub LiveInTime : Type 0
LiveInTime = (table : List ℕ) → Bytes table → (lent written : List ℕ) → VerdictAnswered table lent 20 written
    → (memory : Run) (calls : List LiveCall) → let es = live_events memory table calls in
    (j : Job) → Memᴰ j (jobs_of_trace es) → was_ended es j ≡ false → j.due ≤ clock_of es → units_of j.name es ≡ j.cost

-- By what the program reads, no job ever has more units than its stated cost, and one that was ended early has had exactly what the end said, on any table.
-- (6.26, 6.27)
abbrev pub LiveNeverMore : Type 0
LiveNeverMore = (table : List ℕ) → Bytes table → (memory : Run) (calls : List LiveCall) → let es = live_events memory table calls in
    ((j : Job) → Memᴰ j (jobs_of_trace es) → units_of j.name es ≤ j.cost)
    × ((e : EndedJob) → Memᴰ e (ended_in es) → EndedWith es e)

-- By what the program reads, the jobs of a row or of a server that are released and due inside a window cost and consume at most its demand. (5.12)
abbrev pub LiveShare : Type 0
LiveShare = (table : List ℕ) → Bytes table → (memory : Run) (calls : List LiveCall) → let es = live_events memory table calls in
    (row : ℕ) → row < (table_read table).table.count + (table_read table).table.serving → (a b : ℕ) → a ≤ b
    → (costs_in a b row es ≤ source_demand (source_at (table_read table).table row) (b - a))
    × (consumed_in a b row es ≤ source_demand (source_at (table_read table).table row) (b - a))

-- What the next call says, by what the program has read so far, where its answer buffer has 16 bytes: a release and an end say what `release_answer` and
-- `end_answer` make of the events; a tick returns 10 exactly when 2^40 ticks have gone by, and otherwise one of 35 to 38. (6.8, 6.16, 6.30)
abbrev pub LiveRefusedExactly : Type 0
LiveRefusedExactly = (table : List ℕ) → Bytes table → (memory : Run) (calls : List LiveCall)
    → let run = live_run_at memory table calls in
    let es = live_events memory table calls in
    ((row cost : ℕ) → release_told run row cost ≡ release_said (release_answer (table_read table).table es row cost))
    × (((tick_leaves 16 run).status ≡ 10) ↔ (clock_of es ≡ max_time))
    × (((tick_leaves 16 run).status ≡ 10) ⊎ ((35 ≤ (tick_leaves 16 run).status) × ((tick_leaves 16 run).status ≤ 38)))
    × ((serial : ℕ) → end_told run serial ≡ end_said (end_answer es serial))

-- A call returns 13 exactly when its answer buffer is not 16 bytes long. (9.13)
abbrev pub Live13Exactly : Type 0
Live13Exactly = (memory : Run) (table : List ℕ) → Bytes table → (calls : List LiveCall) (c : Call) (size : ℕ)
    → (live_status (live_run_at memory table calls) c size ≡ 13) ↔ (size ≢ 16)

-- What `run_start` says of a table, by the table's verdict: 33, 0 and 0 where the table is feasible or overloaded, and otherwise the same refusal. (6.4, 9.10)
abbrev pub start_by_verdict : Verdict → Said
start_by_verdict verdict.Feasible = record { number = 33; first = 0; second = 0 }
start_by_verdict (verdict.Overloaded w) = record { number = 33; first = 0; second = 0 }
start_by_verdict (verdict.Refused r) = refused_says r

-- A run starts exactly on the tables that get a verdict, and on all other bytes `run_start` says what `verdict` says: the refusal's number and place. (6.4, 9.10)
abbrev pub LiveStartsByTheVerdict : Type 0
LiveStartsByTheVerdict = (table : List ℕ) (v : Verdict) → Judged table v → start_told table ≡ start_by_verdict v

-- Where `verdict` returned 20 for a table, `run_start` on it returns 33. (6.4, 9.12)
abbrev pub LiveStartsFeasible : Type 0
LiveStartsFeasible = (table lent written : List ℕ) → VerdictAnswered table lent 20 written → (memory : Run) → (start_leaves 16 memory table).status ≡ 33

-- No call on a live run that was started returns 11. (6.25, 9.15)
abbrev pub LiveNever11 : Type 0
LiveNever11 = (memory : Run) (table : List ℕ) → Bytes table → (calls : List LiveCall) (c : Call) (size : ℕ)
    → live_status (live_run_at memory table calls) c size ≢ 11
