-- The laws of runs: they stay sound, ticks and releases change what the rules say, and due times go by the whole history. (docs/RULES.md, sections 4 and 6.)
use Rattle.std.specs.Prelude.{ℕ, ◌+◌, ◌%◌, ◌≤◌, ◌<◌, ◌≡◌, ◌↔◌, true, false, cond, List, [], ltb, length, get_or, Ok, Err}
use Rattle.kinds.specs.Numbering.{max_time}
use Rattle.kinds.specs.declared.Refusal.TheVariants.{NoSuchRow, CostOutOfRange, TimeTooLate, RunNotSound}
use Rattle.numbers.specs.SpelledNumbers.{Bytes}
use Rattle.table.specs.declared.Table.{Table}
use Rattle.table.specs.Costs.{cost_limits, limit_of, cost_answer}
use Rattle.table.specs.Limits.{max_rows, max_servers}
use Rattle.table.specs.Rows.{from_one_to}
use Rattle.table.specs.Tables.{InRange}
use Rattle.jobs.specs.Places.{no_job, jobs_of, without}
use Rattle.jobs.specs.Choice.{first_place}
use Rattle.jobs.specs.JobChanges.{unit_at}
use Rattle.jobs.specs.Late.{late_count}
use Rattle.run.specs.declared.Run.{Run}
use Rattle.run.specs.Runs.{fresh_run, started, row_in_use, cost_limit}
use Rattle.run.specs.Sound.{sound_of, max_ended, Whole}
use Rattle.run.specs.Release.{released}
use Rattle.run.specs.Ticking.{refused_tick, run_with, is_taken, free_tick, ticked}
use Rattle.run.specs.Answers.{ReleaseSays, accepted, release_says, idle, taken, tick_says}
use Rattle.run.specs.Ending.{units_given, with_ended, ended}
use Rattle.run.specs.Answers.{EndingSays, ended_with, end_says}
use Rattle.run.specs.History.{KeepsHistory, GaveDue}

-- ---- what is proved (proofs/Fresh.antt, proofs/Release.antt, proofs/Ticking.antt)

-- The fresh run of a table in range is sound. (6.25)
abbrev pub FreshIsSound : Type 0
FreshIsSound = (t : Table) → InRange t → (sound_of (fresh_run t) ≡ true) × Whole (fresh_run t)

-- Every run that is started is sound, on any bytes. (6.4, 6.25)
abbrev pub StartedIsSound : Type 0
StartedIsSound = (s : List ℕ) → Bytes s → (sound_of (started s).run ≡ true) × Whole (started s).run

-- A release leaves a sound run sound, whether it is accepted or refused. (6.25)
abbrev pub ReleaseKeepsSound : Type 0
ReleaseKeepsSound = (run : Run) (row cost : ℕ) → Whole run → sound_of run ≡ true
    → (sound_of (released run row cost).run ≡ true) × Whole (released run row cost).run

-- A tick leaves a sound run sound, whether it is refused or not. (6.25)
abbrev pub TickKeepsSound : Type 0
TickKeepsSound = (run : Run) → Whole run → sound_of run ≡ true → (sound_of (ticked run).run ≡ true) × Whole (ticked run).run

-- In a sound run with a job pending and the clock below 2^40, a tick that is not taken gives one unit to the chosen job. No other job changes.
-- (6.5, 6.10, 6.11, 6.17)
abbrev pub TickGivesOneUnit : Type 0
TickGivesOneUnit = (run : Run) → Whole run → sound_of run ≡ true → run.clock.0 < max_time → is_taken run ≡ false → 1 ≤ run.pending.count
    → jobs_of (ticked run).run.pending ≡ unit_at (jobs_of run.pending) (first_place (jobs_of run.pending))

-- A tick answers taken exactly where the run is sound, the clock t is below 2^40, and t mod p < s. Whether a job is pending plays no part. (6.5, 6.12, 6.16)
abbrev pub TakenMeans : Type 0
TakenMeans = (run : Run)
    → (tick_says (ticked run).answer ≡ taken)
    ↔ ((sound_of run ≡ true) × (run.clock.0 < max_time) × (run.clock.0 % run.table.p < run.table.s))

-- A tick answers idle exactly where the run is sound, the clock is below 2^40, the tick is not taken, and nothing is pending. (6.12, 6.16)
abbrev pub IdleMeans : Type 0
IdleMeans = (run : Run)
    → (tick_says (ticked run).answer ≡ idle)
    ↔ ((sound_of run ≡ true) × (run.clock.0 < max_time) × (is_taken run ≡ false) × (run.pending.count ≡ 0))

-- A taken tick moves the clock up by one and changes nothing else: no job gets a unit. The late count beside it is the number of pending jobs whose due time is
-- the new clock. (6.10, 6.14, 6.17)
abbrev pub TakenTickChangesNothingElse : Type 0
TakenTickChangesNothingElse = (run : Run) → tick_says (ticked run).answer ≡ taken
    → ((ticked run).run ≡ run_with run (run.clock.0 + 1) run.pending)
    × ((ticked run).late ≡ late_count (run.clock.0 + 1) (jobs_of run.pending))

-- A timer with s = 0 takes no tick: then a tick refuses with 11 or 10, is idle, or gives a unit. (3.16, 6.5)
abbrev pub TickWithoutTimer : Type 0
TickWithoutTimer = (run : Run) → run.table.s ≡ 0
    → ticked run ≡ cond (sound_of run) (cond (ltb run.clock.0 max_time) (free_tick run) (refused_tick run TimeTooLate)) (refused_tick run RunNotSound)

-- A tick never sets the clock back. (6.10)
abbrev pub ClockGrows : Type 0
ClockGrows = (run : Run) → run.clock.0 ≤ (ticked run).run.clock.0

-- A release never sets the next serial back. (6.7)
abbrev pub SerialsGrow : Type 0
SerialsGrow = (run : Run) (row cost : ℕ) → run.next.0 ≤ (released run row cost).run.next.0

-- The test of a row number and a cost, in the words of the rules: 6 where the row number is not in use, then 7 where the cost is 0 or above the row's c,
-- for a server above 4,096. (3.20, 6.8)
abbrev pub OneTestMeans : Type 0
OneTestMeans = (t : Table) → t.count ≤ max_rows → length t.rows ≡ max_rows → (row cost : ℕ)
    → cost_answer (limit_of (cost_limits t) row) cost
    ≡ cond (row_in_use t row)
    (cond (from_one_to (cost_limit t row) cost) (Ok tt) (Err CostOutOfRange))
    (Err NoSuchRow)

-- A refused release leaves the run unchanged. It takes no serial, and leaves every due time alone. (4.4, 6.18)
abbrev pub RefusedReleaseChangesNothing : Type 0
RefusedReleaseChangesNothing = (run : Run) (row cost number place : ℕ) → release_says (released run row cost).answer ≡ ReleaseSays.refused number place
    → (released run row cost).run ≡ run

-- In a fresh run the history of every row and every server is empty. (6.3)
abbrev pub FreshHasNoHistory : Type 0
FreshHasNoHistory = (t : Table) → t.count ≤ max_rows → t.serving ≤ max_servers → KeepsHistory (fresh_run t) (λ i. [])

-- Each accepted release gives the due time of the rule over the whole history of its row or server, and adds it to that history. (4.2, 4.3, 4.5, 4.9, 6.6)
abbrev pub DueByWholeHistory : Type 0
DueByWholeHistory = (run : Run) (history : ℕ → List ℕ) (row cost serial due : ℕ) → Whole run → KeepsHistory run history
    → release_says (released run row cost).answer ≡ accepted serial due → GaveDue run history row cost due (released run row cost).run

-- ---- ends (proofs/Ending.antt)

-- An end leaves a sound run sound, whether it is done or refused. (6.25)
abbrev pub EndKeepsSound : Type 0
EndKeepsSound = (run : Run) (serial : ℕ) → Whole run → sound_of run ≡ true → (sound_of (ended run serial).run ≡ true) × Whole (ended run serial).run

-- An end says 11 exactly where the run is not sound. (6.30)
abbrev pub EndNotSoundMeans : Type 0
EndNotSoundMeans = (run : Run) (serial : ℕ) → (end_says (ended run serial).answer ≡ EndingSays.refused 11 0) ↔ (sound_of run ≡ false)

-- An end says 17 exactly where the run is sound and no pending job has the serial. (6.30)
abbrev pub NotPendingMeans : Type 0
NotPendingMeans = (run : Run) (serial : ℕ) → (end_says (ended run serial).answer ≡ EndingSays.refused 17 0)
    ↔ ((sound_of run ≡ true) × ((i : ℕ) → i < length (jobs_of run.pending) → (get_or (jobs_of run.pending) i no_job).serial.0 ≡ serial → ⊥))

-- An end says 18 exactly where the run is sound, a pending job has the serial, and 2^40 jobs were ended early. (6.30)
abbrev pub TooManyEndedMeans : Type 0
TooManyEndedMeans = (run : Run) (serial : ℕ) → (end_says (ended run serial).answer ≡ EndingSays.refused 18 0)
    ↔ ((sound_of run ≡ true) × ((at : ℕ) × (at < length (jobs_of run.pending)) × ((get_or (jobs_of run.pending) at no_job).serial.0 ≡ serial))
    × (run.ended ≡ max_ended))

-- An end is done exactly where the run is sound, a pending job has the serial, and fewer than 2^40 jobs were ended early. (6.27, 6.30)
abbrev pub EndIsDoneMeans : Type 0
EndIsDoneMeans = (run : Run) (serial : ℕ) → ((units : ℕ) × (end_says (ended run serial).answer ≡ ended_with units))
    ↔ ((sound_of run ≡ true) × ((at : ℕ) × (at < length (jobs_of run.pending)) × ((get_or (jobs_of run.pending) at no_job).serial.0 ≡ serial))
    × (run.ended < max_ended))

-- What an end that is done changes: the job with the serial leaves its place, later jobs move down, and one more job was ended. The units that it says are the
-- job's stated cost less its units left, and less than its cost. (6.27, 6.28)
pub record EndedAt (run : Run) (serial units : ℕ) (next : Run) : Type 0 where
  pub at : ℕ
  pub inside : at < length (jobs_of run.pending)
  pub its_serial : (get_or (jobs_of run.pending) at no_job).serial.0 ≡ serial
  pub its_units : units ≡ units_given (get_or (jobs_of run.pending) at no_job)
  pub fewer : units < (get_or (jobs_of run.pending) at no_job).cost
  pub others : jobs_of next.pending ≡ without (jobs_of run.pending) at
  pub nothing_else : next ≡ with_ended run at

-- An end that says units ended the pending job with that serial, and changed nothing else. (6.27, 6.28)
abbrev pub EndChangesNothingElse : Type 0
EndChangesNothingElse = (run : Run) (serial units : ℕ) → Whole run → end_says (ended run serial).answer ≡ ended_with units
    → EndedAt run serial units (ended run serial).run

-- A refused end leaves the run unchanged. (6.18)
abbrev pub RefusedEndChangesNothing : Type 0
RefusedEndChangesNothing = (run : Run) (serial number place : ℕ) → end_says (ended run serial).answer ≡ EndingSays.refused number place
    → (ended run serial).run ≡ run

-- A tick keeps what the run keeps of every history of due times, and so does an end: due times go on counting when a job has finished or was ended. (4.5, 4.9,
-- 6.17, 6.28)
abbrev pub HistoriesStay : Type 0
HistoriesStay = (run : Run) (history : ℕ → List ℕ) (serial : ℕ) → KeepsHistory run history
    → KeepsHistory (ticked run).run history × KeepsHistory (ended run serial).run history
