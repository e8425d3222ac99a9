-- What a release answers, and the run after it. (docs/RULES.md, sections 6.6 to 6.9.)
use Rattle.std.specs.Prelude.{ℕ, ◌+◌, ◌-◌, cond, List, ltb, set, Result, Ok, Err}
use Rattle.kinds.specs.declared.Refusal.{Refusal}
use Rattle.kinds.specs.declared.Refusal.TheVariants.{RunNotSound, PlacesFull}
use Rattle.kinds.specs.declared.Tick.{Tick}
use Rattle.table.specs.Costs.{cost_limits, limit_of, cost_answer}
use Rattle.due.specs.declared.Kept.{Kept}
use Rattle.due.specs.Kept.{due_of, kept_with}
use Rattle.due.specs.OddJobs.{odd_due_of}
use Rattle.jobs.specs.declared.Job.{Job}
use Rattle.jobs.specs.Places.{max_places, put}
use Rattle.run.specs.declared.Run.{Run}
use Rattle.run.specs.declared.ReleaseStep.{ReleaseStep}
use Rattle.run.specs.Runs.{is_row, row_at, server_at, kept_of, last_of}
use Rattle.run.specs.Sound.{sound_of}

-- A refused release leaves the run unchanged. It takes no serial, and leaves every due time alone. (4.4, 6.18)
abbrev pub refused_release : Run → Refusal → ReleaseStep
refused_release run r = record { run = run; answer = Err r }

-- The job that an accepted release adds: released at the clock, with the next serial, its due time, its stated cost, and as many units left. (6.6)
abbrev pub new_job : Run → (row cost : ℕ) → (due : Tick) → Job
new_job run row cost due = record { serial = run.next; row = record { 0 = row }; release = run.clock; due = due; cost = cost; left = cost }

-- The kept due times after an accepted release. A row's due time is kept for that row, and a server's is kept for no row. (4.6, 6.7)
abbrev pub kept_by_release : Run → (row : ℕ) → (due : Tick) → List Kept
kept_by_release run row due = cond (is_row run.table row) (set run.kept row (kept_with (kept_of run row) (row_at run.table row) due)) run.kept

-- The servers' last due times after an accepted release. A server's due time becomes its last due time, and a row's leaves them all alone. (4.9, 6.7)
abbrev pub last_by_release : Run → (row : ℕ) → (due : Tick) → List Tick
last_by_release run row due = cond (is_row run.table row) run.last (set run.last (row - run.table.count) due)

-- The run after an accepted release. The job is in the first unused place, the next serial is one higher, and the due time is kept for the job's row, or is the
-- last due time of its server. The clock, the rows, the servers, the other jobs and the number of ended jobs stay as they were. (6.7)
abbrev pub with_job : Run → (row cost : ℕ) → (due : Tick) → Run
with_job run row cost due = record {
  table = run.table;
  clock = run.clock;
  pending = put run.pending (new_job run row cost due);
  next = record { 0 = run.next.0 + 1 };
  kept = kept_by_release run row due;
  last = last_by_release run row due;
  ended = run.ended;
}

-- The last test of a release: a due time above 2^40 is refusal 9. An accepted release answers the job's serial and due time. (6.6, 6.8)
abbrev pub at_due : Run → (row cost : ℕ) → Result Tick Refusal → ReleaseStep
at_due run row cost (Ok t) = record { run = with_job run row cost t; answer = Ok (record { serial = run.next; due = t }) }
at_due run row cost (Err r) = refused_release run r

-- The due time of the next job of a row number, released at the clock: by the kept due times of its row, or by the last due time of its server. (4.2, 4.3, 4.9)
abbrev pub due_next : Run → (row cost : ℕ) → Result Tick Refusal
due_next run row cost =
    cond (is_row run.table row)
    (due_of (kept_of run row) (row_at run.table row) run.clock.0 cost)
    (odd_due_of (server_at run.table row) (last_of run row).0 run.clock.0 cost)

-- A release of a sound run, by the test of its row number and cost. What that test refuses, with 6 or 7, is refused. Otherwise no unused place is refusal 8,
-- and after that the due time decides. (6.8)
abbrev pub at_cost : Run → (row cost : ℕ) → Result (Unit {0}) Refusal → ReleaseStep
at_cost run row cost (Ok done) =
    cond (ltb run.pending.count max_places)
    (at_due run row cost (due_next run row cost))
    (refused_release run PlacesFull)
at_cost run row cost (Err r) = refused_release run r

-- What a release answers, and the run after it. The tests come in this order: 11, 6, 7, 8, 9. (6.6 to 6.8, 10.4)
unfoldable pub released : Run → (row cost : ℕ) → ReleaseStep
released run row cost =
    cond (sound_of run) (at_cost run row cost (cost_answer (limit_of (cost_limits run.table) row) cost)) (refused_release run RunNotSound)
