-- The laws of a play that came to its end, and of its log. (docs/RULES.md, section 8.)
use Rattle.std.specs.Prelude.{ℕ, ◌*◌, ◌≤◌, ◌<◌, ◌≡◌, ◌↔◌, true, List, [], ◌∷◌, length, get_or}
use Rattle.kinds.specs.Numbering.{max_time}
use Rattle.kinds.specs.declared.Finish.{Finish}
use Rattle.jobs.specs.Places.{no_job}
use Rattle.jobs.specs.Turns.{no_finish}
use Rattle.run.specs.declared.Run.{Run}
use Rattle.run.specs.Sound.{sound_of, Whole}
use Rattle.run.specs.ManyTicks.{finished_by}
use Rattle.script.specs.declared.Record.{Record}
use Rattle.script.specs.SpelledScripts.{Reads}
use Rattle.logs.specs.SpelledLogs.{EachInRange, ReadsAs, spelled_log}
use Rattle.play.specs.Late.{late_finishes}
use Rattle.play.specs.LogRecords.{RecordOf, AskedFor, GotItsLastUnit, SmallNumbers, OfWhole}

-- ---- what is proved (proofs/WholePlays.antt and Lengths.antt)

-- The number of jobs that finished after their due time equals the sum of the late counts of all ticks. (8.14)
abbrev pub LateIsTheSum : Type 0
LateIsTheSum = OfWhole λ t s p. late_finishes p.so_far.finishes ≡ p.so_far.late

-- The accepted jobs are exactly those that the script's records ask for, each released at its record's script time. (8.2)
abbrev pub EveryRecordIsAccepted : Type 0
EveryRecordIsAccepted = OfWhole λ t s p. (rs : List Record) × Reads s 0 rs × AskedFor 0 rs p.accepted

-- The accepted jobs have the serials 0, 1, 2 and so on, in the order in which they were accepted. (1.5)
abbrev pub SerialsCount : Type 0
SerialsCount = OfWhole λ t s p. (i : ℕ) → i < length p.accepted → (get_or p.accepted i no_job).serial.0 ≡ i

-- The log has one record for each accepted job: there are as many records as jobs, and each job has a record. (8.8)
abbrev pub OneRecordEach : Type 0
OneRecordEach = OfWhole λ t s p. (length p.so_far.finishes ≡ length p.accepted)
    × ((i : ℕ) → i < length p.accepted
    → (k : ℕ) × (k < length p.so_far.finishes) × RecordOf (get_or p.accepted i no_job) (get_or p.so_far.finishes k no_finish))

-- The records of a log are in the order of finishing, and no two jobs finish at the same time. (8.8)
abbrev pub FinishesRise : Type 0
FinishesRise = OfWhole λ t s p. (i k : ℕ) → i < k → k < length p.so_far.finishes
    → (get_or p.so_far.finishes i no_finish).finish.0 < (get_or p.so_far.finishes k no_finish).finish.0

-- A tick of a sound run with its clock below 2^40 adds a record to the log exactly where it gives a job its last unit, and the record is that job's. (6.13,
-- 8.8)
abbrev pub FinishIsTheLastUnit : Type 0
FinishIsTheLastUnit = (run : Run) (f : Finish) → Whole run → sound_of run ≡ true → run.clock.0 < max_time
    → (finished_by run ≡ f ∷ []) ↔ GotItsLastUnit run f

-- The log of a play that comes to its end reads back as its records, and every number in it has a spelling. (2.5, 8.8)
abbrev pub LogReadsBack : Type 0
LogReadsBack = OfWhole λ t s p. EachInRange p.so_far.finishes × ReadsAs (spelled_log p.so_far.finishes) 0 p.so_far.finishes

-- In every record of the log the serial is below 2^40 plus the number of places, the row number is below the limit of rows plus the limit of servers, and the
-- times are at most 2^40. (10.6)
abbrev pub LogHoldsSmallNumbers : Type 0
LogHoldsSmallNumbers = OfWhole λ t s p. (i : ℕ) → i < length p.so_far.finishes → SmallNumbers (get_or p.so_far.finishes i no_finish)

-- The log is at most ten times as long as the script: a record of the log has at most 30 bytes, and a record of the script at least 3. (8.11)
abbrev pub LogIsShort : Type 0
LogIsShort = OfWhole λ t s p. length (spelled_log p.so_far.finishes) ≤ 10 * length s
