-- What it means that a log record is a job's, that a script asked for jobs, and that a play is on its way. (docs/RULES.md, section 8.)
use Rattle.std.specs.Prelude.{ℕ, ◌+◌, ◌≤◌, ◌<◌, ◌≡◌, true, List, [], ◌∷◌, length}
use Rattle.kinds.specs.Numbering.{max_time}
use Rattle.kinds.specs.declared.Finish.{Finish}
use Rattle.numbers.specs.SpelledNumbers.{Bytes}
use Rattle.table.specs.Limits.{max_sources}
use Rattle.jobs.specs.declared.Job.{Job}
use Rattle.jobs.specs.Places.{max_places}
use Rattle.jobs.specs.Turns.{first_job}
use Rattle.run.specs.declared.Run.{Run}
use Rattle.run.specs.Sound.{sound_of, Whole}
use Rattle.run.specs.Ticking.{ticked}
use Rattle.run.specs.ManyTicks.{SoFar}
use Rattle.run.specs.Answers.{ran, tick_says}
use Rattle.script.specs.declared.Record.{Record}
use Rattle.logs.specs.SpelledLogs.{EachInRange}
use Rattle.play.specs.Play.{Progress, whole, played}

-- The record is this job's: it has the job's serial, row number, release and due time, and a finish after the release. (8.8)
pub record RecordOf (j : Job) (f : Finish) : Type 0 where
  pub serial : f.serial ≡ j.serial
  pub row : f.row ≡ j.row
  pub release : f.release ≡ j.release
  pub due : f.due ≡ j.due
  pub after_release : j.release.0 < f.finish.0

-- The jobs are those that the records ask for, in their order. Each has its record's row number and cost and is released at its record's script time. `time` is
-- the script time of the record before the first. (7.3, 8.2)
abbrev pub AskedFor : (time : ℕ) → List Record → List Job → Type 0
AskedFor time [] [] = Unit {0}
AskedFor time [] (j ∷ js) = ⊥
AskedFor time (r ∷ rs) [] = ⊥
AskedFor time (r ∷ rs) (j ∷ js) =
    (j.row ≡ r.row) × (j.cost ≡ r.cost) × (j.release.0 ≡ time + r.gap) × AskedFor (time + r.gap) rs js

-- The next tick of a run gives a job its last unit, and `f` is that job's record. The tick answers that the job finished, the job had one unit left, and its
-- finish is the new clock. (6.12, 6.13)
pub record GotItsLastUnit (run : Run) (f : Finish) : Type 0 where
  pub answered : tick_says (ticked run).answer ≡ ran f.serial.0 true
  pub one_left : (first_job run.pending).left ≡ 1
  pub its_own : RecordOf (first_job run.pending) f
  pub at_the_clock : f.finish.0 ≡ (ticked run).run.clock.0

-- The numbers of a log are small. A row number is below the sum of the limit of rows (3.1) and the limit of servers (3.18), a time is at most 2^40, and a
-- serial is below the sum of 2^40 and the limit of pending jobs (6.2).
pub record SmallNumbers (f : Finish) : Type 0 where
  pub serial : f.serial.0 < max_time + max_places
  pub row : f.row.0 < max_sources
  pub release : f.release.0 ≤ max_time
  pub due : f.due.0 ≤ max_time
  pub finish : f.finish.0 ≤ max_time

-- What holds for a play at any point of its way: its run is sound, the numbers of every finished job have spellings, and every accepted job has finished or is
-- pending.
pub record OnItsWay (s : SoFar) : Type 0 where
  pub good : (sound_of s.run ≡ true) × Whole s.run
  pub in_range : EachInRange s.finishes
  pub all_there : length s.finishes + s.run.pending.count ≡ s.run.next.0

-- A property holds for the table, the script and the outcome of every play that comes to its end.
abbrev pub OfWhole : (List ℕ → List ℕ → Progress → Type 0) → Type 0
OfWhole P = (t s : List ℕ) (p : Progress) → Bytes t → Bytes s → played t s ≡ whole p → P t s p
