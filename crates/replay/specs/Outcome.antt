-- What a replay answers, and what it leaves in the log buffer. (docs/RULES.md, 8.8 to 8.17 and 9.5.)
use Rattle.std.specs.Prelude.{ℕ, cond, List, [], ◌++◌, leb, eqb, length, drop, replicate}
use Rattle.kinds.specs.Numbering.{Said, refused_says}
use Rattle.kinds.specs.declared.Finish.{Finish}
use Rattle.kinds.specs.declared.Refusal.TheVariants.{NoRoom}
use Rattle.logs.specs.SpelledLogs.{spelled_log}
use Rattle.replay.specs.declared.Replayed.{Replayed}
use Rattle.replay.specs.declared.Replayed.TheVariants as replayed
use Rattle.play.specs.Play.{Played, whole, stopped, played}
use Rattle.play.specs.Late.{late_finishes}

-- The jobs that finished in a play, in the order of finishing. For a play that was stopped the list is empty. (8.8)
abbrev pub finished_in : Played → List Finish
finished_in (whole p) = p.so_far.finishes
finished_in (stopped r) = []

-- The outcome of a play that came to its end, by its finished jobs: all in time where no job is late, and else the number of jobs late, each with the log's
-- length. (8.15)
abbrev pub outcome_of : List Finish → Replayed
outcome_of fs =
    cond (eqb (late_finishes fs) 0) (replayed.InTime (length (spelled_log fs)))
    (replayed.Late (record { length = length (spelled_log fs); late = late_finishes fs }))

-- What a replay answers, given how its play ended. A refusal that stopped the play comes first. Last of all comes 12, at the script's length, where the log is
-- longer than its buffer. `room` is the log buffer's length, and `end` is the script's. (8.11, 8.12)
abbrev pub replay_outcome : (room end : ℕ) → Played → Replayed
replay_outcome room end (whole p) =
    cond (leb (length (spelled_log p.so_far.finishes)) room) (outcome_of p.so_far.finishes)
    (replayed.Refused (record { refusal = NoRoom; place = end }))
replay_outcome room end (stopped r) = replayed.Refused r

-- What a replay answers for a table and a script. `room` is the length of the log buffer. (8.1, 8.15)
abbrev pub replay_of : (table script : List ℕ) (room : ℕ) → Replayed
replay_of t s room = replay_outcome room (length s) (played t s)

-- The log buffer after an answer. Where nothing is refused it has the records, and the bytes past the log's length stay as they were. After a refusal it is all
-- zeros. (8.16, 8.17)
abbrev pub log_after : Replayed → List Finish → List ℕ → List ℕ
log_after (replayed.Refused r) fs log = replicate (length log) 0
log_after (replayed.InTime n) fs log = spelled_log fs ++ drop n log
log_after (replayed.Late l) fs log = spelled_log fs ++ drop l.length log

-- The log buffer after the replay of a script on a table. (8.16, 8.17)
abbrev pub log_left : (table script log : List ℕ) → List ℕ
log_left t s log = log_after (replay_of t s (length log)) (finished_in (played t s)) log

-- What each outcome says outside: its status and the two numbers beside it. (9.5)
abbrev pub replay_says : Replayed → Said
replay_says (replayed.InTime n) = record { number = 22; first = n; second = 0 }
replay_says (replayed.Late l) = record { number = 23; first = l.length; second = l.late }
replay_says (replayed.Refused r) = refused_says r
