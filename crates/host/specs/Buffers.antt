-- What it means that the host's answer buffer is filled, and what a replay leaves in its buffers. (docs/RULES.md, section 9.)
use Rattle.std.specs.Prelude.{ℕ, ◌+◌, ◌/◌, ◌%◌, ◌^◌, ◌<◌, ◌≡◌, List, length, get_or}
use Rattle.kinds.specs.Numbering.{Said}
use Rattle.replay.specs.Outcome.{replay_of, replay_says, log_left}
use Rattle.host.specs.Answer.{replay_status, replay_answer, replay_log}

-- An answer buffer holds the two numbers beside a status: it has sixteen bytes, eight for each number, lowest byte first. (9.4)
pub record Filled (said : Said) (after : List ℕ) : Type 0 where
  pub sixteen : length after ≡ 16
  pub first : (i : ℕ) → i < 8 → get_or after i 0 ≡ said.first / 256 ^ i % 256
  pub second : (i : ℕ) → i < 8 → get_or after (8 + i) 0 ≡ said.second / 256 ^ i % 256

-- The replay returns this status, and leaves these bytes in the answer buffer and in the log buffer that were lent to it. (9.3)
abbrev pub ReplayLeaves : (table script log answer : List ℕ) (status : ℕ) (after left : List ℕ) → Type 0
ReplayLeaves table script log answer status after left =
    (replay_status table script (length log) (length answer) ≡ status)
    × (replay_answer table script (length log) answer ≡ after)
    × (replay_log table script log (length answer) ≡ left)

-- The host is told the outcome of a replay by section 8: the status is the outcome's number, the answer buffer holds the two numbers beside it, and the log
-- buffer is left as section 8 says. (9.5, 9.7)
pub record ReplayTold (table script log : List ℕ) (status : ℕ) (after left : List ℕ) : Type 0 where
  pub its_number : status ≡ (replay_says (replay_of table script (length log))).number
  pub its_answer : Filled (replay_says (replay_of table script (length log))) after
  pub its_log : left ≡ log_left table script log
