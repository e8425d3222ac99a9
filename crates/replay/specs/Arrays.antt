-- What the private functions of this crate do, for their contracts alone: a log as it is written record by record, and a play that is held in arrays of
-- numbers. (docs/RULES.md, section 8.)
use Rattle.kinds.specs.declared.RefusedAt.{RefusedAt}
use Rattle.kinds.specs.declared.Tick.{Tick}
use Rattle.kinds.specs.declared.Refusal.{Refusal}
use Rattle.std.specs.Prelude.{ℕ, ◌+◌, ◌-◌, ◌^◌, ◌≤◌, ◌<◌, ◌≡◌, true, false, cond, eqb, List, ◌++◌, length, take, drop, set, Result, Ok, Err}
use Rattle.kinds.specs.Numbering.{max_time}
use Rattle.kinds.specs.declared.Finish.{Finish}
use Rattle.table.specs.declared.Table.{Table}
use Rattle.table.specs.Costs.{cost_limits, limit_of, cost_answer}
use Rattle.table.specs.Limits.{max_servers}
use Rattle.jobs.specs.Places.{max_places, jobs_of}
use Rattle.columns.specs.declared.Columns.{Columns}
use Rattle.columns.specs.Columns.{ColumnsHold}
use Rattle.columns.specs.Ordered.{InOrder, SameJobs}
use Rattle.jobs.specs.declared.Job.{Job}
use Rattle.rings.specs.RingShapes.{RingsHold}
use Rattle.run.specs.declared.Run.{Run}
use Rattle.run.specs.Runs.{row_at, server_at}
use Rattle.run.specs.ManyTicks.{SoFar, ticks_while_pending}
use Rattle.logs.specs.Log.{written_record, rest_after}
use Rattle.logs.specs.SpelledLogs.{spelled_log, HoldsRecords}
use Rattle.records.specs.declared.Ready.{Ready}
use Rattle.play.specs.Play.{Progress, Step, goes_on, stops, ticked_to, released_at}
use Rattle.play.specs.Late.{finished_late, late_finishes}
use Rattle.play.specs.LogRecords.{OnItsWay}
use Rattle.replay.specs.declared.LateJobs.{LateJobs}
use Rattle.replay.specs.declared.Replayed.{Replayed}
use Rattle.replay.specs.declared.Replayed.TheVariants as replayed
use Rattle.replay.specs.declared.Logged.{Logged}
use Rattle.replay.specs.declared.Going.{Going}
use Rattle.replay.specs.declared.Source.{Source}
use Rattle.replay.specs.declared.Source.TheVariants as source
use Rattle.replay.specs.Outcome.{log_after}

-- ---- the log as it is written

-- The number of jobs late after one more job finished. (8.14)
abbrev pub late_or : Logged → Finish → ℕ
late_or l f = l.late + cond (finished_late f) 1 0

-- What is known about a log after one more record, given the record writer's answer. Where the record did not fit, the log is full from now on. (8.13)
abbrev pub more_written : Logged → Finish → Result ℕ Refusal → Logged
more_written l f (Ok n) = record { length = l.length + n; late = late_or l f; full = false }
more_written l f (Err r) = record { length = l.length; late = late_or l f; full = true }

-- What is known about a log after one more job finished. A full log stays full, and only the jobs late are counted. `room` is the log buffer's length. (8.13)
abbrev pub one_logged : (room : ℕ) → Logged → Finish → Logged
one_logged room l f =
    cond l.full (record { length = l.length; late = late_or l f; full = true }) (more_written l f (written_record f (room - l.length)))

-- The log buffer after one more job finished. A full log is left as it is. Otherwise the record writer gets the rest behind the last record. (8.9, 8.13)
abbrev pub with_one_written : Logged → Finish → List ℕ → List ℕ
with_one_written l f log =
    cond l.full log (take l.length log ++ rest_after (written_record f (length log - l.length)) f (drop l.length log))

-- What one call of `Logged::add` does: the job that finished is logged, the log stays within its buffer, and at most one more job is late.
pub record OneLogged (l : Logged) (f : Finish) (log after : List ℕ) (m : Logged) : Type 0 where
  pub says : m ≡ one_logged (length log) l f
  pub holds : after ≡ with_one_written l f log
  pub same_length : length after ≡ length log
  pub within : m.length ≤ length log
  pub few_late : m.late ≤ l.late + 1

-- The jobs `fs` have finished so far, and the late ones among them are counted. The log buffer holds all their records, or it is full and they do not fit into
-- it. (8.9, 8.13, 8.14)
pub record Logs (fs : List Finish) (log₀ log : List ℕ) (l : Logged) : Type 0 where
  pub late : l.late ≡ late_finishes fs
  pub within : l.length ≤ length log
  pub same_length : length log ≡ length log₀
  pub holds : l.full ≡ false → HoldsRecords fs log₀ log l.length
  pub no_room : l.full ≡ true → length log₀ < length (spelled_log fs)

-- ---- ticks on arrays

-- What ticks change: the pending jobs in arrays, the log buffer, the clock, and what is known about the log so far.
pub record TickArrays : Type 0 where
  pub jobs : Columns
  pub log : List ℕ
  pub clock : ℕ
  pub logged : Logged

-- The pending jobs, the log buffer, the clock and what is known about the log, as one value.
abbrev pub tick_arrays : Columns → (log : List ℕ) (clock : ℕ) → Logged → TickArrays
tick_arrays jobs log clock logged = record { jobs = jobs; log = log; clock = clock; logged = logged }

-- There are no more pending jobs than places, the log is not longer than its buffer, and the jobs late are few enough to go on counting without overflow.
pub record InBounds (h : TickArrays) : Type 0 where
  pub few_pending : h.jobs.count ≤ max_places
  pub within : h.logged.length ≤ length h.log
  pub few_late : h.logged.late + h.jobs.count ≤ 2 ^ 63

-- The columns hold these jobs in the order in which they are chosen. The jobs themselves may be listed in any order. (6.11)
pub record HoldsInOrder (c : Columns) (js : List Job) : Type 0 where
  pub queue : List Job
  pub held : ColumnsHold c queue
  pub in_order : InOrder queue
  pub same : SameJobs queue js

-- The arrays hold a play on its way: its pending jobs, its clock, and the records of the jobs that have finished so far.
pub record ArraysHoldRun (s : SoFar) (log₀ : List ℕ) (h : TickArrays) : Type 0 where
  pub on_its_way : OnItsWay s
  pub counts : s.run.pending.count ≡ h.jobs.count
  pub clocks : s.run.clock.0 ≡ h.clock
  pub jobs_held : HoldsInOrder h.jobs (jobs_of s.run.pending)
  pub logs : Logs s.finishes log₀ h.log h.logged

-- The timer of the run has this s and p. (3.16, 6.1)
pub record HasTimer (s p : ℕ) (run : Run) : Type 0 where
  pub same_s : run.table.s ≡ s
  pub same_p : run.table.p ≡ p

-- If the arrays hold a play whose run has this timer before the call, they hold it afterwards with its ticks until the time `until`, or until nothing is
-- pending. (8.2, 8.3)
abbrev pub LeadsTo : (s p until : ℕ) → TickArrays → TickArrays → Type 0
LeadsTo s p until h g = (x : SoFar) (log₀ : List ℕ) → HasTimer s p x.run → ArraysHoldRun x log₀ h
    → ArraysHoldRun (ticks_while_pending (until - h.clock) x) log₀ g

-- ---- a record on arrays

-- The servers' last due times after an answer. A due time that is given becomes the last due time of the server at this place. A refusal leaves them all alone.
-- (4.4, 4.9)
abbrev pub lasts_after_due : Result Tick Refusal → (lasts : List Tick) (place : ℕ) → List Tick
lasts_after_due (Ok t) lasts place = set lasts place t
lasts_after_due (Err r) lasts place = lasts

-- The part of a play's arrays and numbers that ticks change, with the log buffer.
abbrev pub tick_arrays_in : (log : List ℕ) → Going → TickArrays
tick_arrays_in log g = tick_arrays g.jobs log g.clock.0 g.logged

-- One more record can be played without overflow: the arrays are in bounds, the record's script time is at most 2^40, and the next serial is at most 2^63.
pub record CanGo (log : List ℕ) (g : Going) (ready : Ready) : Type 0 where
  pub in_bounds : InBounds (tick_arrays_in log g)
  pub in_time : ready.time.0 ≤ max_time
  pub few_serials : g.next.0 ≤ 2 ^ 63

-- The arrays hold a play that has come as far as `p`: its pending jobs, its clock, its log, its kept due times, its servers' last due times and its next
-- serial.
pub record ArraysHoldPlay (p : Progress) (log₀ log : List ℕ) (g : Going) : Type 0 where
  pub stands : ArraysHoldRun p.so_far log₀ (tick_arrays_in log g)
  pub kept : RingsHold g.rings p.so_far.run.table.count p.so_far.run.table.rows p.so_far.run.kept
  pub last_held : p.so_far.run.last ≡ g.lasts
  pub same_next : p.so_far.run.next ≡ g.next

-- A server stands at a place that a table has room for. (3.18)
abbrev pub PlaceInRange : Source → Type 0
PlaceInRange (source.Row r) = Unit {0}
PlaceInRange (source.Server o) = o.place < max_servers

-- This is the row or the server of a table that has the row number, which is in use. (1.2, 3.14)
abbrev pub SourceOf : Table → (number : ℕ) → Source → Type 0
SourceOf t number (source.Row r) = (number < t.count) × (r ≡ row_at t number)
SourceOf t number (source.Server o) =
    (t.count ≤ number) × (number < t.count + t.serving) × (o.server ≡ server_at t number) × (o.place ≡ number - t.count)

-- A record passed its tests at the point that a play has reached: `source` is its row or server, which is in use, its cost is allowed, and the clock is not
-- past its script time. The run has the timer that is handed in. (8.5, steps 4 and 6)
pub record MayRelease (ts tp : ℕ) (p : Progress) (ready : Ready) (source : Source) : Type 0 where
  pub its_timer : HasTimer ts tp p.so_far.run
  pub its_source : SourceOf p.so_far.run.table ready.row.0 source
  pub allowed : cost_answer (limit_of (cost_limits p.so_far.run.table) ready.row.0) ready.cost ≡ Ok tt
  pub ahead : p.so_far.run.clock.0 ≤ ready.time.0

-- The answer of `play_record` fits what the record does to the play. Where the play goes on, the arrays hold it. Where it stops, the answer is its refusal.
abbrev pub SteppedTo : Step → (next : ℕ) (log₀ log : List ℕ) → Going → Result (Unit {0}) RefusedAt → Type 0
SteppedTo x next log₀ log g (Ok _) = (q : Progress) × (x ≡ goes_on q next) × ArraysHoldPlay q log₀ log g
SteppedTo x next log₀ log g (Err r) = x ≡ stops r

-- If the arrays hold a play before the call and the record passed its tests, they hold it afterwards with the ticks until the record's script time and the
-- record's release, or the answer is the refusal that stops the play. (8.2)
abbrev pub RecordPlayed : (ts tp place : ℕ) → Ready → Source → (log after : List ℕ) (g h : Going) → Result (Unit {0}) RefusedAt → Type 0
RecordPlayed ts tp place ready source log after g h r = (p : Progress) (log₀ : List ℕ) → ArraysHoldPlay p log₀ log g → MayRelease ts tp p ready source
    → SteppedTo (released_at place ready (ticked_to ready.time.0 p)) ready.next log₀ after h r

-- ---- the log that a play leaves

-- The outcome that the function `play` answers with: the log's length and the number of jobs late, or a refusal. (8.15)
abbrev pub play_outcome : Result LateJobs RefusedAt → Replayed
play_outcome (Ok jobs) = cond (eqb jobs.late 0) (replayed.InTime jobs.length) (replayed.Late jobs)
play_outcome (Err r) = replayed.Refused r

-- What the function `play` leaves in the log buffer. Where nothing is refused, these are the records, and behind them the bytes that stood there. After a
-- refusal only the buffer's length is known, and the caller fills it with zeros. (8.16, 8.17)
abbrev pub LeftIn : Replayed → List Finish → (log₀ log : List ℕ) → Type 0
LeftIn (replayed.Refused r) fs log₀ log = length log ≡ length log₀
LeftIn (replayed.InTime n) fs log₀ log = log ≡ log_after (replayed.InTime n) fs log₀
LeftIn (replayed.Late l) fs log₀ log = log ≡ log_after (replayed.Late l) fs log₀
