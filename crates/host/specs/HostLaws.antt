-- The laws of the verdict, of the replay and of their buffers. (docs/RULES.md, section 9.)
use Rattle.std.specs.Prelude.{ℕ, ◌*◌, ◌≤◌, ◌≡◌, ◌⊎◌, ◌≢◌, ◌↔◌, List, length}
use Rattle.kinds.specs.Numbering.{Said}
use Rattle.numbers.specs.SpelledNumbers.{Bytes}
use Rattle.table.specs.Refusals.{TableRefusal}
use Rattle.verdict.specs.declared.Verdict.{Verdict}
use Rattle.verdict.specs.Verdict.{Judged, verdict_says}
use Rattle.host.specs.Answer.{answer_bytes, VerdictAnswered, replay_status}
use Rattle.host.specs.Buffers.{Filled, ReplayLeaves, ReplayTold}

-- ---- what is proved (proofs/Answering.antt)

-- An answer buffer holds two numbers exactly where its bytes are the ones that the calls write for them. (9.4)
abbrev pub AnswerFilled : Type 0
AnswerFilled = (s : Said) (after : List ℕ) → Filled s after ↔ (after ≡ answer_bytes s)

-- Where the answer buffer is not 16 bytes long, the verdict returns 13 and writes nothing, whatever the table is. (9.6)
abbrev pub VerdictOfAnotherSize : Type 0
VerdictOfAnotherSize = (table answer : List ℕ) (status : ℕ) (after : List ℕ) → length answer ≢ 16
    → VerdictAnswered table answer status after ↔ ((status ≡ 13) × (after ≡ answer))

-- Where the answer buffer is not 16 bytes long, the replay returns 13 and writes neither answer nor log, whatever the table and the script are. (9.6)
abbrev pub ReplayOfAnotherSize : Type 0
ReplayOfAnotherSize = (table script log answer : List ℕ) → length answer ≢ 16 → ReplayLeaves table script log answer 13 answer log

-- Where the answer buffer is 16 bytes long, the verdict returns the number of the table's verdict and writes the two numbers beside it. (9.2, 9.5, 9.7)
abbrev pub VerdictOfSixteen : Type 0
VerdictOfSixteen = (table answer : List ℕ) (status : ℕ) (after : List ℕ) → length answer ≡ 16
    → VerdictAnswered table answer status after
    ↔ ((v : Verdict) × Judged table v × (status ≡ (verdict_says v).number) × Filled (verdict_says v) after)

-- Where the answer buffer is 16 bytes long, the replay returns the number of its outcome, writes the two numbers beside it, and leaves the log as section 8
-- says. (9.3, 9.5, 9.7)
abbrev pub ReplayOfSixteen : Type 0
ReplayOfSixteen = (table script log answer : List ℕ) (status : ℕ) (after left : List ℕ) → length answer ≡ 16
    → ReplayLeaves table script log answer status after left ↔ ReplayTold table script log status after left

-- The replay returns 13 exactly where the answer buffer is not 16 bytes long. (9.6, 10.1)
abbrev pub ReplayIs13 : Type 0
ReplayIs13 = (table script : List ℕ) (room size : ℕ) → Bytes table → Bytes script → (replay_status table script room size ≡ 13) ↔ (size ≢ 16)

-- The replay never returns 11, 17, 18 or 25: a fresh run stays sound, scripts end no job, and no number of a log is too large. (10.6)
abbrev pub ReplayNeverReturns : Type 0
ReplayNeverReturns = (table script : List ℕ) (room size : ℕ) → Bytes table → Bytes script
    → (replay_status table script room size ≢ 11) × (replay_status table script room size ≢ 17)
    × (replay_status table script room size ≢ 18) × (replay_status table script room size ≢ 25)

-- The replay never returns 12 where the log buffer is at least ten times as long as the script. (8.11)
abbrev pub TenTimesIsRoom : Type 0
TenTimesIsRoom = (table script : List ℕ) (room size : ℕ) → Bytes table → Bytes script → 10 * length script ≤ room → replay_status table script room size ≢ 12

-- The verdict returns only the statuses 1 to 5, 13, 16, 20 and 21. So it never returns 11 or 25. (9.2, 10.4, 10.6)
abbrev pub VerdictStatuses : Type 0
VerdictStatuses = (table answer : List ℕ) (status : ℕ) (after : List ℕ) → Bytes table → VerdictAnswered table answer status after
    → TableRefusal status ⊎ ((status ≡ 13) ⊎ ((20 ≤ status) × (status ≤ 21)))

-- The verdict returns 13 exactly where the answer buffer is not 16 bytes long. (9.6, 10.1)
abbrev pub VerdictIs13 : Type 0
VerdictIs13 = (table answer : List ℕ) (status : ℕ) (after : List ℕ) → Bytes table → VerdictAnswered table answer status after
    → (status ≡ 13) ↔ (length answer ≢ 16)
