-- The laws of a replay: what it answers, exactly when, and what it leaves in the log buffer. (docs/RULES.md, sections 8.8 to 8.17, 9.5 and 10.)
use Rattle.std.specs.Prelude.{ℕ, ◌≤◌, ◌<◌, ◌≡◌, ◌≢◌, ◌↔◌, List, [], ◌∷◌, length, get_or}
use Rattle.kinds.specs.Numbering.{values, refusal_number, refusal_at}
use Rattle.kinds.specs.declared.RefusedAt.{RefusedAt}
use Rattle.numbers.specs.SpelledNumbers.{Bytes}
use Rattle.table.specs.Tables.{table_read}
use Rattle.table.specs.Answers.{table_says}
use Rattle.replay.specs.declared.LateJobs.{LateJobs}
use Rattle.replay.specs.declared.Replayed.{Replayed}
use Rattle.replay.specs.declared.Replayed.TheVariants as replayed
use Rattle.play.specs.Play.{Progress, whole, stopped, played}
use Rattle.play.specs.Late.{late_finishes, AllInTime}
use Rattle.replay.specs.Outcome.{replay_says, log_left}
use Rattle.replay.specs.Endings.{Ended, LogHolds, said_of}

-- ---- what is proved about the answer (proofs/Answering.antt)

-- A replay answers 12 exactly where its play came to its end and its log is longer than its buffer. The place is the script's length. (8.11, 8.12)
abbrev pub NoRoomMeans : Type 0
NoRoomMeans = (t s : List ℕ) (room place : ℕ) → Bytes t → Bytes s
    → (said_of t s room ≡ refusal_at 12 place)
    ↔ ((p : Progress) × (n : ℕ) × Ended t s n p × (room < n) × (place ≡ length s))

-- A replay answers any refusal but 12 exactly where this refusal stopped the play, however long the log buffer is. (8.12, 10.1)
abbrev pub ReplayRefusedMeans : Type 0
ReplayRefusedMeans = (t s : List ℕ) (room : ℕ) (r : RefusedAt) → refusal_number r.refusal ≢ 12
    → (said_of t s room ≡ refusal_at (refusal_number r.refusal) r.place) ↔ (played t s ≡ stopped r)

-- A replay answers 22 exactly where its play came to its end, its log is not longer than its buffer, and no job is late. The first number beside it is the
-- log's length. (8.15)
abbrev pub ReplayInTimeMeans : Type 0
ReplayInTimeMeans = (t s : List ℕ) (room n : ℕ)
    → (said_of t s room ≡ record { number = 22; first = n; second = 0 })
    ↔ ((p : Progress) × Ended t s n p × (n ≤ room) × AllInTime p.so_far.finishes)

-- A replay answers 23 exactly where its play came to its end, its log is not longer than its buffer, and some job is late. The numbers beside it are the log's
-- length and the jobs late. (8.15)
abbrev pub ReplayLateMeans : Type 0
ReplayLateMeans = (t s : List ℕ) (room n late : ℕ)
    → (said_of t s room ≡ record { number = 23; first = n; second = late })
    ↔ ((p : Progress) × Ended t s n p × (n ≤ room) × (late ≡ late_finishes p.so_far.finishes) × (1 ≤ late))

-- ---- what is proved about the log buffer (proofs/Answering.antt)

-- After a 22 the log buffer holds the records of the jobs, in the order of finishing, and the bytes past the log's length stay as they were. (8.8, 8.16)
abbrev pub LogAfterInTime : Type 0
LogAfterInTime = (t s log : List ℕ) (n : ℕ) (p : Progress) → Bytes t → Bytes s → played t s ≡ whole p
    → said_of t s (length log) ≡ record { number = 22; first = n; second = 0 } → LogHolds p.so_far.finishes n log (log_left t s log)

-- After a 23 the log buffer holds the records of the jobs, in the order of finishing, and the bytes past the log's length stay as they were. (8.8, 8.16)
abbrev pub LogAfterLate : Type 0
LogAfterLate = (t s log : List ℕ) (n late : ℕ) (p : Progress) → Bytes t → Bytes s → played t s ≡ whole p
    → said_of t s (length log) ≡ record { number = 23; first = n; second = late } → LogHolds p.so_far.finishes n log (log_left t s log)

-- After any other answer than 22 and 23, the log buffer is as long as before and every byte in it is 0. (8.17)
abbrev pub LogAfterRefusal : Type 0
LogAfterRefusal = (t s log : List ℕ) → (said_of t s (length log)).number ≢ 22 → (said_of t s (length log)).number ≢ 23
    → (length (log_left t s log) ≡ length log) × ((i : ℕ) → i < length log → get_or (log_left t s log) i 0 ≡ 0)

-- The replay of an empty script on an accepted table answers 22 with log length 0 and jobs late 0, and the log buffer is untouched. (8.16)
abbrev pub NoJobs : Type 0
NoJobs = (t log : List ℕ) (period : ℕ) → table_says (table_read t).answer ≡ values (period ∷ [])
    → (said_of t [] (length log) ≡ record { number = 22; first = 0; second = 0 }) × (log_left t [] log ≡ log)

-- ---- what is proved about what is said outside

-- An outcome with all jobs in time says 22, the log's length and 0. (9.5)
abbrev pub InTimeSays : Type 0
InTimeSays = (n : ℕ) → replay_says (replayed.InTime n) ≡ record { number = 22; first = n; second = 0 }

-- An outcome with late jobs says 23, the log's length and the jobs late. (9.5)
abbrev pub LateSays : Type 0
LateSays = (l : LateJobs) → replay_says (replayed.Late l) ≡ record { number = 23; first = l.length; second = l.late }

-- A refused replay says the refusal's number, its place and 0. (9.5)
abbrev pub ReplayRefusedSays : Type 0
ReplayRefusedSays = (r : RefusedAt) → replay_says (replayed.Refused r) ≡ refusal_at (refusal_number r.refusal) r.place

-- No outcome has the number 0. (1.16)
abbrev pub ReplayNeverSaysZero : Type 0
ReplayNeverSaysZero = (r : Replayed) → 1 ≤ (replay_says r).number

-- Different outcomes say different things. (1.17)
abbrev pub ReplaysSaidApart : Type 0
ReplaysSaidApart = (r q : Replayed) → replay_says r ≡ replay_says q → r ≡ q
