-- What it is to play a script on a run, by single ticks and releases. For each record the run ticks until the record's script time, and then the record's job
-- is released. After the last record it ticks until nothing is pending. A replay is such a play, with a log. (docs/RULES.md, 8.1 to 8.7.)
use Rattle.kinds.specs.declared.Refusal.{Refusal}
use Rattle.run.specs.declared.Accepted.{Accepted}
use Rattle.std.specs.Prelude.{ℕ, zero, suc, ◌-◌, cond, List, [], ◌∷◌, ◌++◌, eqb, length, Result, Ok, Err}
use Rattle.kinds.specs.Numbering.{max_time}
use Rattle.kinds.specs.declared.RefusedAt.{RefusedAt}
use Rattle.kinds.specs.declared.Refusal.TheVariants.{TimeTooLate}
use Rattle.jobs.specs.declared.Job.{Job}
use Rattle.run.specs.declared.Run.{Run}
use Rattle.run.specs.Runs.{started}
use Rattle.run.specs.Release.{new_job, released}
use Rattle.run.specs.ManyTicks.{SoFar, before_any_tick, ticks, ticks_while_pending}
use Rattle.records.specs.declared.Numbers.{Numbers}
use Rattle.records.specs.declared.Ready.{Ready}
use Rattle.records.specs.Numbers.{numbers_at, tested_numbers}

-- How far a play has come. `since` has the run as it stands, the sum of the late counts of its ticks, and the jobs that finished, in order. `accepted` has the
-- jobs that were accepted, in order.
pub record Progress : Type 0 where
  pub so_far : SoFar
  pub accepted : List Job

-- A play at its start: no tick was given on the run, and no job was accepted.
abbrev pub begun : Run → Progress
begun run = record { so_far = before_any_tick run; accepted = [] }

-- What one record does to a play: the play goes on at the place after the record, or it stops with a refusal.
pub data Step : Type 0 where
  goes_on : Progress → (next : ℕ) → Step
  stops : RefusedAt → Step

-- A play after the answer of a record's release. An accepted job is added, and the play goes on. A refusal stops the play at the record's start. (8.5, steps 7
-- and 8)
abbrev pub after_release : (place : ℕ) → Ready → Progress → Result Accepted Refusal → Step
after_release place r p (Ok a) = let run = p.so_far.run in goes_on (record {
  so_far = record { run = (released run r.row.0 r.cost).run; late = p.so_far.late; finishes = p.so_far.finishes };
  accepted = p.accepted ++ (new_job run r.row.0 r.cost a.due ∷ []);
}) r.next
after_release place r p (Err refusal) = stops (record { refusal = refusal; place = place })

-- A play after single ticks until the clock is at a time. (8.2)
abbrev pub ticked_to : (time : ℕ) → Progress → Progress
ticked_to time p = record { so_far = ticks (time - p.so_far.run.clock.0) p.so_far; accepted = p.accepted }

-- The job that a record asks for is released, with the clock as it stands. (8.2)
abbrev pub released_at : (place : ℕ) → Ready → Progress → Step
released_at place r p = after_release place r p (released p.so_far.run r.row.0 r.cost).answer

-- A record that passed its tests is played: the run ticks until the record's script time, and then the job is released. A record that did not pass stops the
-- play. (8.2, 8.5)
abbrev pub after_tests : (place : ℕ) → Progress → Result Ready RefusedAt → Step
after_tests place p (Ok r) = released_at place r (ticked_to r.time.0 p)
after_tests place p (Err r) = stops r

-- One record is tested and played. It is given by its three numbers with their places. The script time of the record before it is the run's clock. (8.2, 8.5)
unfoldable pub stepped : Progress → Numbers → Step
stepped p n = after_tests n.gap.place p (tested_numbers p.so_far.run.table p.so_far.run.clock.0 n)

-- How a play ends: it comes to its end, or a refusal stops it. Whether its log fits the log buffer is not asked here.
pub data Played : Type 0 where
  whole : Progress → Played
  stopped : RefusedAt → Played

-- How a play ends that has had its final ticks. With a job still pending the clock is at 2^40, and that is refusal 10, at the script's length. (8.7)
abbrev pub ended_at : (end : ℕ) → Progress → Played
ended_at end p = cond (eqb p.so_far.run.pending.count 0) (whole p) (stopped (record { refusal = TimeTooLate; place = end }))

-- The final ticks: the run ticks until nothing is pending, or until the clock is at 2^40. `end` is the script's length. (8.3, 8.7)
unfoldable pub final_ticks : (end : ℕ) → Progress → Played
final_ticks end p = ended_at end (record { so_far = ticks_while_pending (max_time - p.so_far.run.clock.0) p.so_far; accepted = p.accepted })

-- After a record that does not stop the play, `k` says how the play ends.
abbrev pub and_then : Step → (Progress → ℕ → Played) → Played
and_then (goes_on p next) k = k p next
and_then (stops r) k = stopped r

-- A script played from a place on, and then the final ticks. At most n records are played. A record has at least one byte, so the script's length is always
-- enough for n. (8.2, 8.3)
unfoldable pub played_from : (n : ℕ) → List ℕ → (at : ℕ) → Progress → Played
played_from zero s at p = final_ticks (length s) p
played_from (suc n) s at p =
    cond (eqb at (length s)) (final_ticks (length s) p) (and_then (stepped p (numbers_at s at)) λ q next. played_from n s next q)

-- A script played on a run, from the script's start. (8.1)
abbrev pub played_on : List ℕ → Run → Played
played_on s run = played_from (length s) s 0 (begun run)

-- A script played on a run, given the answer of that run's start. A table that is refused stops the play with the table's refusal. (8.1)
abbrev pub once_started : List ℕ → Run → Result (Unit {0}) RefusedAt → Played
once_started s run (Ok done) = played_on s run
once_started s run (Err r) = stopped r

-- A script played on a table, both as bytes. (8.1)
unfoldable pub played : (table script : List ℕ) → Played
played t s = once_started s (started t).run (started t).answer
