-- Traces. A trace is what a list of calls was answered. The calls are any releases, ticks and ends in any order, refused ones included, on the run that `start`
-- makes of a table's bytes. Each call is played by the definition that its contract cites, `released`, `ticked` or `ended`. The promises speak of the clock,
-- the accepted jobs, the units that a job was given, the late counts, the finished jobs and the jobs that were ended early. One fold reads all of these from
-- the answers alone. (6.4, 6.6, 6.10, 6.27)
use Rattle.std.specs.Prelude.{ℕ, suc, ◌+◌, Bool, true, false, not, cond, ◌&&◌, List, [], ◌∷◌, ◌++◌, eqb, ltb}
use Rattle.std.proofs.Math.Option.{Option, none, some}
use Rattle.kinds.specs.declared.Finish.{Finish}
use Rattle.theory.specs.Lists.{total, weight_if}
use Rattle.theory.specs.Jobs.{Job}
use Rattle.theory.specs.Trace.{units}
use Rattle.run.specs.declared.Run.{Run}
use Rattle.run.specs.Runs.{started}
use Rattle.run.specs.Release.{released}
use Rattle.run.specs.Ticking.{ticked}
use Rattle.run.specs.Ending.{ended}
use Rattle.run.specs.Answers.{ReleaseSays, accepted, release_says, TickSays, idle, ran, taken, tick_says, EndingSays, ended_with, end_says}
use Rattle.run.specs.Answers as says

-- ---- calls and their answers

-- A call is a release of a row at a stated cost, a tick, or the end of the job with a serial. (1.3, 1.4, 6.27)
pub data Call : Type 0 where
  release : (row cost : ℕ) → Call
  tick : Call
  end : (serial : ℕ) → Call

-- An event is a call with its answer. A tick's late count stands beside its answer. (6.12, 6.14)
pub data Event : Type 0 where
  release : (row cost : ℕ) → ReleaseSays → Event
  tick : TickSays → (late : ℕ) → Event
  end : (serial : ℕ) → EndingSays → Event

-- A call results in the run after it and in its event. A new kind of call would be one more clause of `called`.
pub record Called : Type 0 where
  pub run : Run
  pub event : Event

-- A release is played by `released`, a tick by `ticked` and an end by `ended`. (6.6, 6.10, 6.27)
abbrev pub called : Run → Call → Called
called run (Call.release row cost) = let step = released run row cost in record { run = step.run; event = Event.release row cost (release_says step.answer) }
called run Call.tick = let step = ticked run in record { run = step.run; event = Event.tick (tick_says step.answer) step.late }
called run (Call.end serial) = let step = ended run serial in record { run = step.run; event = Event.end serial (end_says step.answer) }

-- `run_after` is the run after one call.
abbrev pub run_after : Run → Call → Run
run_after run c = (called run c).run

-- `event_of` is the event of one call on a run.
abbrev pub event_of : Run → Call → Event
event_of run c = (called run c).event

-- The run after some calls, which are listed newest first, begins as `start` leaves it. Every list of calls is one point of a trace, and the calls before that
-- point are its tail. (6.4)
unfoldable pub run_at : (bytes : List ℕ) → List Call → Run
run_at bytes [] = (started bytes).run
run_at bytes (c ∷ earlier) = run_after (run_at bytes earlier) c

-- A trace is the list of the calls' events, newest first.
unfoldable pub trace : (bytes : List ℕ) → List Call → List Event
trace bytes [] = []
trace bytes (c ∷ earlier) = event_of (run_at bytes earlier) c ∷ trace bytes earlier

-- ---- what the answers tell

-- A job that was ended early: its serial, and the units that the end answered. (6.27)
pub record EndedJob : Type 0 where
  pub serial : ℕ
  pub units : ℕ

-- The answers tell the clock; the accepted jobs and who had each tick, both newest first; the sum of the late counts; the finished jobs in the order of
-- finishing; and the jobs that were ended early, newest first.
pub record Told : Type 0 where
  pub clock : ℕ
  pub jobs : List Job
  pub ticks : List (Option ℕ)
  pub late : ℕ
  pub finishes : List Finish
  pub ended : List EndedJob

-- `job_of_serial` finds the accepted job with a serial. Where no job has it, this is a job of zeros. (1.5)
abbrev pub job_of_serial : (serial : ℕ) → List Job → Job
job_of_serial s [] = record { name = 0; source = 0; release = 0; due = 0; cost = 0 }
job_of_serial s (j ∷ js) = cond (eqb j.name s) j (job_of_serial s js)

-- The log record of a job that finishes at a time holds its serial, its row, its release, its due time and that time. (8.8)
abbrev pub finish_of : (time : ℕ) → Job → Finish
finish_of time j = record {
  serial = record { 0 = j.name };
  row = record { 0 = j.source };
  release = record { 0 = j.release };
  due = record { 0 = j.due };
  finish = record { 0 = time };
}

-- A release was accepted. The job's name is its serial, its source is its row and its release is the clock. Its due time is the one that was answered, and its
-- cost is the stated cost. (6.6)
abbrev pub with_released : (row cost serial due : ℕ) → Told → Told
with_released row cost serial due t = record {
  clock = t.clock;
  jobs = record { name = serial; source = row; release = t.clock; due = due; cost = cost } ∷ t.jobs;
  ticks = t.ticks;
  late = t.late;
  finishes = t.finishes;
  ended = t.ended;
}

-- A tick went by, and the clock is one higher. The job with this serial had the unit, or nobody had it, as in an idle and in a taken tick. So many jobs became
-- late, and these finished. (6.10, 6.12, 6.14)
abbrev pub with_tick : Option ℕ → (late : ℕ) → List Finish → Told → Told
with_tick who late finished t = record {
  clock = suc t.clock;
  jobs = t.jobs;
  ticks = who ∷ t.ticks;
  late = t.late + late;
  finishes = t.finishes ++ finished;
  ended = t.ended;
}

-- The job with this serial was ended, and had been given so many units. (6.27)
abbrev pub with_end_of : (serial units : ℕ) → Told → Told
with_end_of serial units t = record {
  clock = t.clock;
  jobs = t.jobs;
  ticks = t.ticks;
  late = t.late;
  finishes = t.finishes;
  ended = record { serial = serial; units = units } ∷ t.ended;
}

-- The job with this serial is listed as finished at the new clock where the tick answered that it finished. (6.13)
abbrev pub finished_now : (finished : Bool) (serial : ℕ) → Told → List Finish
finished_now finished serial t = cond finished (finish_of (suc t.clock) (job_of_serial serial t.jobs) ∷ []) []

-- `tell` adds what one more event tells. A refused call tells nothing. A new kind of answer would be one more clause here.
abbrev pub tell : Event → Told → Told
tell (Event.release row cost (accepted serial due)) t = with_released row cost serial due t
tell (Event.release row cost (says.ReleaseSays.refused n place)) t = t
tell (Event.tick idle late) t = with_tick none late [] t
tell (Event.tick (ran serial finished) late) t = with_tick (some serial) late (finished_now finished serial t) t
tell (Event.tick taken late) t = with_tick none late [] t
tell (Event.tick (says.TickSays.refused n place) late) t = t
tell (Event.end serial (ended_with units)) t = with_end_of serial units t
tell (Event.end serial (says.EndingSays.refused n place)) t = t

-- `told` is what all events of a trace tell. The events are listed newest first.
unfoldable pub told : List Event → Told
told [] = record { clock = 0; jobs = []; ticks = []; late = 0; finishes = []; ended = [] }
told (e ∷ es) = tell e (told es)

-- The clock is the number of ticks that were not refused. (1.3)
abbrev pub clock_of : List Event → ℕ
clock_of es = (told es).clock

-- `jobs_of_trace` lists the accepted jobs of a trace, newest first.
abbrev pub jobs_of_trace : List Event → List Job
jobs_of_trace es = (told es).jobs

-- `ticks_of` has an entry for each tick of a trace, newest first: the serial of the job that ran, or nobody. (6.12)
abbrev pub ticks_of : List Event → List (Option ℕ)
ticks_of es = (told es).ticks

-- `late_in` is the sum of the late counts of a trace's ticks. (6.14)
abbrev pub late_in : List Event → ℕ
late_in es = (told es).late

-- `finishes_in` lists the finished jobs of a trace, in the order of finishing. (6.13)
abbrev pub finishes_in : List Event → List Finish
finishes_in es = (told es).finishes

-- The units that a serial was given are counted from the answers of the ticks: one unit for each tick that answered that this serial ran. (6.26)
abbrev pub units_of : (serial : ℕ) → List Event → ℕ
units_of s es = units s (ticks_of es)

-- `ended_in` lists the jobs of a trace that were ended early, newest first. (6.27)
abbrev pub ended_in : List Event → List EndedJob
ended_in es = (told es).ended

-- `is_among_ended` tests whether a serial is that of one of these ended jobs.
abbrev pub is_among_ended : (serial : ℕ) → List EndedJob → Bool
is_among_ended s [] = false
is_among_ended s (e ∷ es) = cond (eqb e.serial s) true (is_among_ended s es)

-- A job was ended early where an end with its serial was answered with units. (6.27)
abbrev pub was_ended : List Event → Job → Bool
was_ended es j = is_among_ended j.name (ended_in es)

-- A job is unfinished while it has had fewer units than its stated cost and was not ended early. (1.7, 6.29)
abbrev pub unfinished : List Event → Job → Bool
unfinished es j = not (was_ended es j) && ltb (units_of j.name es) j.cost

-- `unfinished_in` is the number of accepted jobs that are unfinished.
abbrev pub unfinished_in : List Event → ℕ
unfinished_in es = total (weight_if (unfinished es) (λ _. 1)) (jobs_of_trace es)
