-- Refusals point at the bad byte. Where the verdict answers 1, its place is the table's first bad byte. Where a replay answers 14, its place is the script's
-- first bad byte. The first bad byte belongs to a number that starts where the numbers before it end, and bytes have at most one (`OneFirstBadByte` of crate
-- `numbers`). When 1 and 14 are given at all is said by `RefusedExactly` (table) and `StoppedMeans` (play). (1.18, 2.7 to 2.10, 3.8, 7.6, 8.5, 10.3)
use Rattle.std.specs.Prelude.{ℕ, ◌≡◌, List}
use Rattle.kinds.specs.Numbering.{refusal_at}
use Rattle.numbers.specs.SpelledNumbers.{Bytes}
use Rattle.numbers.specs.BadByte.{FirstBadByte}
use Rattle.verdict.specs.declared.Verdict.{Verdict}
use Rattle.verdict.specs.Verdict.{Judged, verdict_says}
use Rattle.replay.specs.Outcome.{replay_of, replay_says}
use Rattle.host.specs.Answer.{VerdictAnswered}
use Rattle.host.specs.Buffers.{Filled, ReplayLeaves}

-- A verdict that is right for a table's bytes and says 1 says the place of their first bad byte. (3.8, 10.3)
abbrev pub VerdictPoints : Type 0
VerdictPoints = (table : List ℕ) (v : Verdict) → Bytes table → Judged table v → (verdict_says v).number ≡ 1 → FirstBadByte table (verdict_says v).first

-- A replay that says 1 says the place of the table's first bad byte. (8.1, 10.3)
abbrev pub ReplayPointsInTheTable : Type 0
ReplayPointsInTheTable = (table script : List ℕ) (room : ℕ) → Bytes table → Bytes script → (replay_says (replay_of table script room)).number ≡ 1
    → FirstBadByte table (replay_says (replay_of table script room)).first

-- A replay that says 14 says the place of the script's first bad byte. (8.5, 10.3)
abbrev pub ReplayPointsInTheScript : Type 0
ReplayPointsInTheScript = (table script : List ℕ) (room : ℕ) → Bytes table → Bytes script → (replay_says (replay_of table script room)).number ≡ 14
    → FirstBadByte script (replay_says (replay_of table script room)).first

-- ---- the host's own calls

-- An answer buffer holds a refusal's place and 0, and the place is the first bad byte of these bytes. (9.5)
pub record PointsAt (bytes : List ℕ) (number : ℕ) (after : List ℕ) : Type 0 where
  pub place : ℕ
  pub first_bad : FirstBadByte bytes place
  pub told : Filled (refusal_at number place) after

-- Where `verdict` may return 1 for a table, the answer buffer points at the table's first bad byte. (9.5, 10.3)
abbrev pub VerdictCallPoints : Type 0
VerdictCallPoints = (table : List ℕ) → Bytes table → (lent written : List ℕ) → VerdictAnswered table lent 1 written → PointsAt table 1 written

-- Where `replay` returns 1, the answer buffer points at the table's first bad byte. Where it returns 14, it points at the script's first bad byte. (9.5, 10.3)
abbrev pub ReplayCallPoints : Type 0
ReplayCallPoints = (table script : List ℕ) → Bytes table → Bytes script
    → (log answer : List ℕ) (status : ℕ) (after left : List ℕ) → ReplayLeaves table script log answer status after left
    → (status ≡ 1 → PointsAt table 1 after) × (status ≡ 14 → PointsAt script 14 after)
