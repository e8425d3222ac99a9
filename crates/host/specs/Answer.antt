-- What the host's two calls, the verdict and the replay, return and write. (docs/RULES.md, section 9.)
use Rattle.std.specs.Prelude.{ℕ, ◌*◌, ◌^◌, ◌<◌, ◌≤◌, ◌≡◌, ◌≢◌, cond, List, ◌++◌, eqb, length}
use Rattle.kinds.specs.Numbering.{Said, refusal_number}
use Rattle.kinds.specs.declared.Refusal.TheVariants.{AnswerNot16Bytes}
use Rattle.numbers.specs.SpelledNumbers.{Bytes}
use Rattle.words.specs.Words.{word_length, lowest_first}
use Rattle.verdict.specs.declared.Verdict.{Verdict}
use Rattle.verdict.specs.Verdict.{Judged, verdict_says}
use Rattle.replay.specs.Outcome.{replay_of, log_left, replay_says}

-- The length of an answer buffer in bytes: 16, which is two numbers of eight bytes each. (9.4)
abbrev pub answer_length : ℕ
answer_length = 2 * word_length

-- The bytes that are written into an answer buffer: the two numbers beside the status, in eight bytes each, lowest byte first. (9.4)
abbrev pub answer_bytes : Said → List ℕ
answer_bytes s = lowest_first word_length s.first ++ lowest_first word_length s.second

-- ---- the verdict

-- The status that the verdict returns for a table, and the answer buffer afterwards. 13 comes before everything else and writes nothing. (9.2, 9.5, 9.6)
pub data VerdictAnswered (table answer : List ℕ) (status : ℕ) (after : List ℕ) : Type 0 where
  wrong_size : length answer ≢ answer_length → status ≡ refusal_number AnswerNot16Bytes → after ≡ answer → VerdictAnswered table answer status after
  said : length answer ≡ answer_length → (v : Verdict) → Judged table v → status ≡ (verdict_says v).number → after ≡ answer_bytes (verdict_says v)
      → VerdictAnswered table answer status after

-- ---- the replay

-- The status that the replay returns. 13 comes before everything else. `room` is the log buffer's length, and `size` is the answer buffer's. (9.3, 9.6)
abbrev pub replay_status : (table script : List ℕ) (room size : ℕ) → ℕ
replay_status table script room size = cond (eqb size answer_length) (replay_says (replay_of table script room)).number (refusal_number AnswerNot16Bytes)

-- The answer buffer after the replay. It is unchanged where its length is not 16. (9.5, 9.6)
abbrev pub replay_answer : (table script : List ℕ) (room : ℕ) (answer : List ℕ) → List ℕ
replay_answer table script room answer = cond (eqb (length answer) answer_length) (answer_bytes (replay_says (replay_of table script room))) answer

-- The log buffer after the replay. It is unchanged where the answer buffer's length, `size`, is not 16. (9.6, 9.7)
abbrev pub replay_log : (table script log : List ℕ) (size : ℕ) → List ℕ
replay_log table script log size = cond (eqb size answer_length) (log_left table script log) log

-- ---- what is proved (proofs/Verdicts.antt and Bytes.antt)

-- For each table and answer buffer there is a right status and a right answer buffer afterwards. (9.2, 9.6)
abbrev pub SomeVerdictAnswered : Type 0
SomeVerdictAnswered = (table answer : List ℕ) → Bytes table → (status : ℕ) × (after : List ℕ) × VerdictAnswered table answer status after

-- For each table and answer buffer at most one status and one answer buffer afterwards are right. (1.17)
abbrev pub OneVerdictAnswered : Type 0
OneVerdictAnswered = (table answer : List ℕ) (status status' : ℕ) (after after' : List ℕ)
    → VerdictAnswered table answer status after → VerdictAnswered table answer status' after' → (status ≡ status') × (after ≡ after')

-- The verdict never returns the status 0. (1.16)
abbrev pub VerdictNeverZero : Type 0
VerdictNeverZero = (table answer : List ℕ) (status : ℕ) (after : List ℕ) → VerdictAnswered table answer status after → 1 ≤ status

-- The replay never returns the status 0. (1.16)
abbrev pub ReplayNeverZero : Type 0
ReplayNeverZero = (table script : List ℕ) (room size : ℕ) → 1 ≤ replay_status table script room size

-- Answer buffers with the same bytes hold the same two numbers, where each number is below 2^64. (9.4)
abbrev pub AnswerSaysItsNumbers : Type 0
AnswerSaysItsNumbers = (s t : Said) → (s.first < 2 ^ 64) × (s.second < 2 ^ 64) → (t.first < 2 ^ 64) × (t.second < 2 ^ 64)
    → answer_bytes s ≡ answer_bytes t → (s.first ≡ t.first) × (s.second ≡ t.second)
