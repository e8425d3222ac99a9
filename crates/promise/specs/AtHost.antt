-- At the host. Where a table is found feasible, a replay of any script with it is never late. It never answers 23, a 22 has 0 jobs late, and its final ticks
-- never end in 10. (A 10 for a script time above 2^40 has its place inside the script; a 10 of the final ticks has the script's length for its place.) Where a
-- table is found overloaded, nobody can serve the jobs that the witness in the answer buffer names. (1.20, 8.5, 8.7, 9.5)
use Rattle.std.specs.Prelude.{ℕ, ◌^◌, ◌<◌, ◌≡◌, ◌≢◌, List, length}
use Rattle.std.proofs.Math.Option.{Option}
use Rattle.kinds.specs.Numbering.{Said}
use Rattle.numbers.specs.SpelledNumbers.{Bytes}
use Rattle.table.specs.Tables.{table_read}
use Rattle.replay.specs.Outcome.{replay_of, replay_says}
use Rattle.host.specs.Answer.{VerdictAnswered}
use Rattle.host.specs.Buffers.{Filled, ReplayLeaves}
use Rattle.promise.specs.Link.{taken_on}
use Rattle.promise.specs.InTime.{SaidFeasible}
use Rattle.promise.specs.NoOrder.{named_jobs, Serves}

-- This is said about a replay that is not late: its number is not 23, with 22 its jobs late are 0, and with 10 its place is inside the script. `end` is the
-- script's length. (8.5, 8.7, 8.15)
pub record NotLate (end : ℕ) (said : Said) : Type 0 where
  pub not_23 : said.number ≢ 23
  pub none_late : said.number ≡ 22 → said.second ≡ 0
  pub not_stopped : said.number ≡ 10 → said.first < end

-- Where `judge` says feasible for a table's bytes, a replay of any script with them, into a log buffer of any length, is not late. (1.20)
abbrev pub AtHost : Type 0
AtHost = (bytes script : List ℕ) → Bytes bytes → Bytes script → SaidFeasible bytes → (room : ℕ)
    → NotLate (length script) (replay_says (replay_of bytes script room))

-- The status and the answer buffer of the call `replay` are not those of a late replay. The status is not 23. With 22 the buffer's second number, jobs late, is
-- 0. With 10 its first number is a place inside the script. (9.5)
pub record CallNotLate (end status : ℕ) (after : List ℕ) : Type 0 where
  pub not_23 : status ≢ 23
  pub none_late : status ≡ 22 → (told : Said) × (told.second ≡ 0) × Filled told after
  pub not_stopped : status ≡ 10 → (told : Said) × (told.first < end) × Filled told after

-- Where `verdict` returns 20 for a table, `replay` with this table, any script and any buffers does not answer as a late replay does. (1.20, 9.2, 9.3)
abbrev pub AtHostCalls : Type 0
AtHostCalls = (table script : List ℕ) → Bytes table → Bytes script
    → (lent written : List ℕ) → VerdictAnswered table lent 20 written
    → (log answer : List ℕ) (status : ℕ) (after left : List ℕ) → ReplayLeaves table script log answer status after left
    → CallNotLate (length script) status after

-- Where `verdict` returns 21 for a table, nobody serves the jobs that the length L in the answer buffer names on the ticks that the timer leaves free. L and
-- the demand are the buffer's two numbers, and L has at most 64 bits. (5.11, 9.5)
abbrev pub NoOrderAtHostCalls : Type 0
NoOrderAtHostCalls = (table : List ℕ) → Bytes table → (lent written : List ℕ) → VerdictAnswered table lent 21 written
    → (L demand : ℕ) → L < 2 ^ 64 → Filled (record { number = 21; first = L; second = demand }) written
    → (who : ℕ → Option ℕ) → ¬ Serves (taken_on (table_read table).table) who (named_jobs (table_read table).table L)
