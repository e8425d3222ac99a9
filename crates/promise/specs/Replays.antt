-- A replay is a trace. A replay of a script does what a run does after a list of calls: for each record as many ticks as its gap and then its release, and
-- after the last record single ticks. So whatever is promised about traces is promised about replays. At the host: where a table is found feasible and a replay
-- with it ends in 22, each job of the script has had its cost by its due time. (1.20, 8.2, 8.3)
use Rattle.std.specs.Prelude.{ℕ, zero, suc, ◌+◌, ◌-◌, ◌≤◌, ◌<◌, ◌≡◌, length, drop}
use mathlib.Core.List.{List, [], ◌∷◌, ◌++◌, map, reverse, Memᴰ}
use Rattle.numbers.specs.SpelledNumbers.{Bytes}
use Rattle.theory.specs.Lists.{All}
use Rattle.theory.specs.Jobs.{Job}
use Rattle.table.specs.Tables.{table_read}
use Rattle.script.specs.declared.Record.{Record}
use Rattle.script.specs.SpelledScripts.{Reads}
use Rattle.logs.specs.SpelledLogs.{spelled_log}
use Rattle.play.specs.Play.{Progress}
use Rattle.play.specs.LogRecords.{OfWhole}
use Rattle.host.specs.Answer.{VerdictAnswered}
use Rattle.host.specs.Buffers.{ReplayLeaves}
use Rattle.promise.specs.Traces.{Call, run_at, trace, jobs_of_trace, late_in, finishes_in, unfinished_in}
use Rattle.promise.specs.Link.{job_of}
use Rattle.promise.specs.Sources.{source_at, source_demand}
use Rattle.promise.specs.InTime.{units_of_trace_before}
use Rattle.promise.specs.Refusals.{Refused}
use Rattle.promise.specs.Share.{costs_in, consumed_in}

-- ---- the calls of a script

-- `more_ticks` adds n ticks to earlier calls. The calls are listed newest first, as in every trace.
unfoldable pub more_ticks : (n : ℕ) → List Call → List Call
more_ticks zero calls = calls
more_ticks (suc n) calls = more_ticks n (Call.tick ∷ calls)

-- `calls_after` adds the calls of some records to earlier calls: for each record as many ticks as its gap, and then its release. (7.2, 8.2)
unfoldable pub calls_after : List Call → List Record → List Call
calls_after calls [] = calls
calls_after calls (r ∷ rs) = calls_after (Call.release r.row.0 r.cost ∷ more_ticks r.gap calls) rs

-- The calls of a replay are those of its records and then the final ticks. (8.2, 8.3)
abbrev pub calls_of : List Record → (final : ℕ) → List Call
calls_of rs final = more_ticks final (calls_after [] rs)

-- ---- a replay is a trace

-- A replay that came to its end is the trace of the calls of the script's records. Its run, its accepted jobs, its late counts and its finished jobs are those
-- of the trace. No call in it is refused, and at its end no accepted job is unfinished. (8.2, 8.3, 8.14)
pub record IsTheTrace (table script : List ℕ) (p : Progress) : Type 0 where
  pub records : List Record
  pub are_read : Reads script 0 records
  pub final : ℕ
  pub same_run : p.so_far.run ≡ run_at table (calls_of records final)
  pub same_jobs : map job_of p.accepted ≡ reverse (jobs_of_trace (trace table (calls_of records final)))
  pub same_late : p.so_far.late ≡ late_in (trace table (calls_of records final))
  pub same_finishes : p.so_far.finishes ≡ finishes_in (trace table (calls_of records final))
  pub none_refused : All (λ e. ¬ Refused e) (trace table (calls_of records final))
  pub none_unfinished : unfinished_in (trace table (calls_of records final)) ≡ 0

-- Every replay that comes to its end is the trace of its calls. (8.2, 8.3)
abbrev pub ReplaysAreTraces : Type 0
ReplaysAreTraces = OfWhole IsTheTrace

-- ---- at the host

-- A script was served in time. One job for each of its records was accepted, and had exactly its stated cost by its due time. Each row's jobs cost and consumed
-- at most its demand in any window. The log has the finished jobs, and the bytes past them stay as they were. (5.12, 6.26, 8.8, 8.16)
pub record ServedInTime (table script log left : List ℕ) : Type 0 where
  pub records : List Record
  pub are_read : Reads script 0 records
  pub final : ℕ
  pub none_refused : All (λ e. ¬ Refused e) (trace table (calls_of records final))
  pub one_job_each : length (jobs_of_trace (trace table (calls_of records final))) ≡ length records
  pub had_in_time : (j : Job) → Memᴰ j (jobs_of_trace (trace table (calls_of records final)))
      → units_of_trace_before j.due j.name (trace table (calls_of records final)) ≡ j.cost
  pub share : (row : ℕ) → row < (table_read table).table.count + (table_read table).table.serving → (a b : ℕ) → a ≤ b
      → (costs_in a b row (trace table (calls_of records final)) ≤ source_demand (source_at (table_read table).table row) (b - a))
      × (consumed_in a b row (trace table (calls_of records final)) ≤ source_demand (source_at (table_read table).table row) (b - a))
  pub its_log : let spelled = spelled_log (finishes_in (trace table (calls_of records final))) in left ≡ spelled ++ drop (length spelled) log

-- Where `verdict` returns 20 for a table, and `replay` with this table returns 22, the script was served in time. (1.20, 9.5)
abbrev pub ServedInTimeAtHostCalls : Type 0
ServedInTimeAtHostCalls = (table script : List ℕ) → Bytes table → Bytes script
    → (lent written : List ℕ) → VerdictAnswered table lent 20 written
    → (log answer after left : List ℕ) → ReplayLeaves table script log answer 22 after left
    → ServedInTime table script log left
