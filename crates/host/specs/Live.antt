-- What the four calls on a live run say, and what they leave in the run's memory and in the answer buffer. (docs/RULES.md, 9.9 to 9.15.)
use Rattle.std.specs.Prelude.{ℕ, ◌≤◌, ◌≡◌, ◌≢◌, true, false, cond, List, eqb, length}
use Rattle.kinds.specs.Numbering.{Said, refusal_number, refusal_at}
use Rattle.kinds.specs.declared.Refusal.TheVariants.{AnswerNot16Bytes}
use Rattle.numbers.specs.SpelledNumbers.{Bytes}
use Rattle.run.specs.declared.Run.{Run}
use Rattle.run.specs.Runs.{started}
use Rattle.run.specs.Release.{released}
use Rattle.run.specs.Ticking.{ticked}
use Rattle.run.specs.Ending.{ended}
use Rattle.run.specs.Sound.{sound_of, Whole}
use Rattle.run.specs.Answers.{release_says, tick_says, end_says}
use Rattle.live.specs.Statuses.{start_said, release_said, tick_said, end_said}
use Rattle.host.specs.Answer.{answer_length, answer_bytes}

-- ---- what the calls say

-- What a start on a table's bytes says. (9.10, 9.12)
abbrev pub start_told : (table : List ℕ) → Said
start_told table = start_said (started table).answer

-- What a release in a run says. (9.11, 9.12)
abbrev pub release_told : Run → (row cost : ℕ) → Said
release_told run row cost = release_said (release_says (released run row cost).answer)

-- What a tick of a run says. (9.11, 9.12)
abbrev pub tick_told : Run → Said
tick_told run = let step = ticked run in tick_said (tick_says step.answer) step.late

-- What an end in a run says. (9.11, 9.12)
abbrev pub end_told : Run → (serial : ℕ) → Said
end_told run serial = end_said (end_says (ended run serial).answer)

-- ---- what they leave

-- The answer buffer after a call that says this. It is unchanged where its length is not 16. (9.13)
abbrev pub answer_after : (answer : List ℕ) → Said → List ℕ
answer_after answer s = cond (eqb (length answer) answer_length) (answer_bytes s) answer

-- A run after a call, and the status that the call returns.
pub record LiveStep : Type 0 where
  pub run : Run
  pub status : ℕ

-- The run after a call that says this, and the status. With an answer buffer of another length than 16 the status is 13, and the run stays as it was before.
-- `size` is the answer buffer's length. (9.13)
abbrev pub step_after : (size : ℕ) (before after : Run) → Said → LiveStep
step_after size before after s =
    cond (eqb size answer_length) (record { run = after; status = s.number }) (record { run = before; status = refusal_number AnswerNot16Bytes })

-- A start leaves the run that is started, whatever stood there before, unless it returns 13. (9.10, 9.13)
abbrev pub start_leaves : (size : ℕ) → Run → (table : List ℕ) → LiveStep
start_leaves size run table = step_after size run (started table).run (start_told table)

-- A release leaves the run after the release by value. (9.11)
abbrev pub release_leaves : (size : ℕ) → Run → (row cost : ℕ) → LiveStep
release_leaves size run row cost = step_after size run (released run row cost).run (release_told run row cost)

-- A tick leaves the run after the tick by value. (9.11)
abbrev pub tick_leaves : (size : ℕ) → Run → LiveStep
tick_leaves size run = step_after size run (ticked run).run (tick_told run)

-- An end leaves the run after the end by value. (9.11)
abbrev pub end_leaves : (size : ℕ) → Run → (serial : ℕ) → LiveStep
end_leaves size run serial = step_after size run (ended run serial).run (end_told run serial)

-- ---- what is proved (proofs/Live.antt)

-- With an answer buffer of another length than 16 each call returns 13, and neither the run nor the answer buffer changes. (9.13)
abbrev pub NothingChangesAt13 : Type 0
NothingChangesAt13 = (answer : List ℕ) → length answer ≢ 16 → (run : Run)
    → ((table : List ℕ) → start_leaves (length answer) run table ≡ record { run = run; status = 13 })
    × ((row cost : ℕ) → release_leaves (length answer) run row cost ≡ record { run = run; status = 13 })
    × (tick_leaves (length answer) run ≡ record { run = run; status = 13 })
    × ((serial : ℕ) → end_leaves (length answer) run serial ≡ record { run = run; status = 13 })
    × ((s : Said) → answer_after answer s ≡ answer)

-- Memory that is no sound run gets 11 from a release, a tick and an end, with 0 and 0 in the answer buffer, and stays as it is. (9.14)
abbrev pub GarbageGets11 : Type 0
GarbageGets11 = (run : Run) → sound_of run ≡ false
    → ((row cost : ℕ) → (release_leaves 16 run row cost ≡ record { run = run; status = 11 }) × (release_told run row cost ≡ refusal_at 11 0))
    × (tick_leaves 16 run ≡ record { run = run; status = 11 }) × (tick_told run ≡ refusal_at 11 0)
    × ((serial : ℕ) → (end_leaves 16 run serial ≡ record { run = run; status = 11 }) × (end_told run serial ≡ refusal_at 11 0))

-- A run whose p is 0 is not sound. So memory of zeros, which was never started, is no sound run. (9.14)
abbrev pub ZerosAreNotSound : Type 0
ZerosAreNotSound = (run : Run) → run.table.p ≡ 0 → sound_of run ≡ false

-- Whatever stood in the memory, a start with an answer buffer of 16 bytes leaves a sound run; and a sound run stays sound, whatever the answer buffer's length
-- is. (6.25, 9.15)
abbrev pub LiveRunsStaySound : Type 0
LiveRunsStaySound =
    ((run : Run) (table : List ℕ) → Bytes table → (sound_of (start_leaves 16 run table).run ≡ true) × Whole (start_leaves 16 run table).run)
    × ((run : Run) (size : ℕ) → Whole run → sound_of run ≡ true
    → ((row cost : ℕ) → (sound_of (release_leaves size run row cost).run ≡ true) × Whole (release_leaves size run row cost).run)
    × ((sound_of (tick_leaves size run).run ≡ true) × Whole (tick_leaves size run).run)
    × ((serial : ℕ) → (sound_of (end_leaves size run serial).run ≡ true) × Whole (end_leaves size run serial).run))

-- No call on a live run returns the status 0. (1.16)
abbrev pub LiveCallsNeverZero : Type 0
LiveCallsNeverZero = (size : ℕ) (run : Run)
    → ((table : List ℕ) → 1 ≤ (start_leaves size run table).status)
    × ((row cost : ℕ) → 1 ≤ (release_leaves size run row cost).status)
    × (1 ≤ (tick_leaves size run).status)
    × ((serial : ℕ) → 1 ≤ (end_leaves size run serial).status)

-- Where a release, a tick or an end returns a refusal, the run is as it was before. The statuses that are no refusal are 34 to 39. (6.18, 9.12)
abbrev pub RefusedCallLeavesTheRun : Type 0
RefusedCallLeavesTheRun = (size : ℕ) (run : Run)
    → ((row cost : ℕ) → (release_leaves size run row cost).status ≢ 34 → (release_leaves size run row cost).run ≡ run)
    × ((tick_leaves size run).status ≤ 34 → (tick_leaves size run).run ≡ run)
    × ((serial : ℕ) → (end_leaves size run serial).status ≢ 39 → (end_leaves size run serial).run ≡ run)
