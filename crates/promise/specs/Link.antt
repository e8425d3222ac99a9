-- The link to the theory. After any calls the answers are a trace in the sense of `theory`, one that loses the ticks that the timer takes and no others, serves
-- the earliest due job first, and never idles while a job waits. The jobs that wait in it are the run's pending jobs, each with the units that it has left. So
-- what the theory proves about such traces holds for every run. (6.5, 6.11, 6.12)
use Rattle.std.specs.Prelude.{ℕ, ◌-◌, Bool, List, map}
use Rattle.numbers.specs.SpelledNumbers.{Bytes}
use Rattle.theory.specs.Jobs.{Job}
use Rattle.theory.specs.Ticks.{timer}
use Rattle.theory.specs.Trace.{Waiting, Trace, ServesEarliestDue, NeverIdlesInVain}
use Rattle.table.specs.declared.Table.{Table}
use Rattle.jobs.specs.declared.Job.{Job as PendingJob}
use Rattle.jobs.specs.Places.{jobs_of}
use Rattle.run.specs.declared.Run.{Run}
use Rattle.promise.specs.Traces.{Call, Event, EndedJob, run_at, trace, clock_of, jobs_of_trace, ticks_of, job_of_serial, ended_in}

-- `job_of` is a pending job in the theory's terms, as it was accepted: its name is the serial, and its source is the row. (6.1)
abbrev pub job_of : PendingJob → Job
job_of j = record { name = j.serial.0; source = j.row.0; release = j.release.0; due = j.due.0; cost = j.cost }

-- `waiting_of` is a pending job in the theory's terms, with the units that it has left. (1.7)
abbrev pub waiting_of : PendingJob → Waiting
waiting_of j = record { job = job_of j; left = j.left }

-- The jobs that wait in a run are its pending jobs. (1.7)
abbrev pub waiting_in : Run → List Waiting
waiting_in run = map waiting_of (jobs_of run.pending)

-- The ticks that a table's timer takes: the tick at t is taken when t mod p < s. (6.5)
abbrev pub taken_on : Table → ℕ → Bool
taken_on t = timer t.s t.p

-- `left_early` has the jobs of a trace that were ended early, in the theory's terms: each accepted job with that serial, with the units that it still lacked by
-- what the end answered. (6.27)
abbrev pub left_early : List Event → List Waiting
left_early es =
    map (λ (e : EndedJob). let j = job_of_serial e.serial (jobs_of_trace es) in record { job = j; left = j.cost - e.units }) (ended_in es)

-- A run and its answers so far follow the theory. The ticks that the timer takes are lost, and no others, and the jobs that leave before they have had their
-- cost are those that were ended early. (6.5, 6.11, 6.12, 6.27)
pub record Follows (run : Run) (es : List Event) : Type 0 where
  pub events : Trace (taken_on run.table) (clock_of es) (waiting_in run) (jobs_of_trace es) (ticks_of es) (left_early es)
  pub earliest_due : ServesEarliestDue events
  pub never_idle : NeverIdlesInVain events

-- After any calls, on any table, feasible or not, the run and its answers follow the theory. (6.5, 6.11, 6.12)
abbrev pub RunsFollowTheTheory : Type 0
RunsFollowTheTheory = (bytes : List ℕ) → Bytes bytes → (calls : List Call) → Follows (run_at bytes calls) (trace bytes calls)
