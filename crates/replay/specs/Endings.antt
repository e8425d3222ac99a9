-- What it means that a play ended with a log of some length, and that a log buffer holds records. (docs/RULES.md, sections 8.8 to 8.17 and 9.5.)
use Rattle.std.specs.Prelude.{ℕ, ◌≤◌, ◌≡◌, List, length, take, drop}
use Rattle.kinds.specs.Numbering.{Said}
use Rattle.kinds.specs.declared.Finish.{Finish}
use Rattle.logs.specs.SpelledLogs.{ReadsAs, spelled_log}
use Rattle.play.specs.Play.{Progress, whole, played}
use Rattle.replay.specs.Outcome.{replay_of, replay_says}

-- The play of a script on a table came to its end, and its log has n bytes.
pub record Ended (t s : List ℕ) (n : ℕ) (p : Progress) : Type 0 where
  pub came_to_its_end : played t s ≡ whole p
  pub log_length : n ≡ length (spelled_log p.so_far.finishes)

-- The first n bytes of a log buffer read as the records of these jobs, one after another, and the bytes after them are as they were before. (8.8, 8.16)
pub record LogHolds (fs : List Finish) (n : ℕ) (before after : List ℕ) : Type 0 where
  pub same_length : length after ≡ length before
  pub within : n ≤ length before
  pub reads_as : ReadsAs (take n after) 0 fs
  pub rest_kept : drop n after ≡ drop n before

-- What a replay says outside: its status and the two numbers beside it. `room` is the length of the log buffer. (9.5)
abbrev pub said_of : (table script : List ℕ) (room : ℕ) → Said
said_of t s room = replay_says (replay_of t s room)
