-- A run whose table has no servers is as it was before there were servers. This page says what soundness and a release are by the rows alone, and that they are so still.
-- (docs/RULES.md, 5.18.)
use Rattle.kinds.specs.declared.Refusal.{Refusal}
use Rattle.std.specs.Prelude.{ℕ, ◌+◌, ◌≡◌, Bool, cond, ◌&&◌, leb, ltb, set, Result, Ok, Err}
use Rattle.kinds.specs.Numbering.{max_time}
use Rattle.kinds.specs.declared.Refusal.TheVariants.{NoSuchRow, CostOutOfRange, PlacesFull, RunNotSound}
use Rattle.kinds.specs.declared.Tick.{Tick}
use Rattle.table.specs.Limits.{max_rows}
use Rattle.table.specs.Rows.{from_one_to}
use Rattle.table.specs.Timer.{timer_in_range}
use Rattle.table.specs.Costs.{cs_of}
use Rattle.table.specs.Tables.{rows_of}
use Rattle.due.specs.Kept.{due_of, kept_with}
use Rattle.jobs.specs.Places.{max_places, jobs_of, put}
use Rattle.jobs.specs.Serials.{distinct_serials}
use Rattle.run.specs.declared.Run.{Run}
use Rattle.run.specs.declared.ReleaseStep.{ReleaseStep}
use Rattle.run.specs.Runs.{row_at, kept_of}
use Rattle.run.specs.Sound.{jobs_sound, rows_sound, max_ended, serial_bound, sound_of, Whole}
use Rattle.run.specs.Release.{refused_release, new_job, released}

-- A run is sound by its timer, rows, pending jobs and number of ended jobs alone. (6.20 to 6.24)
unfoldable pub sound_by_rows : Run → Bool
sound_by_rows run =
    timer_in_range run.table.s run.table.p
    && leb run.table.count max_rows
    && leb run.clock.0 max_time
    && leb run.pending.count max_places
    && leb run.ended max_ended
    && rows_sound (rows_of run.table) run.kept
    && jobs_sound (cs_of (rows_of run.table)) run.clock.0 run.next.0 (jobs_of run.pending)
    && distinct_serials (jobs_of run.pending)
    && leb run.next.0 (serial_bound run)

-- The run after an accepted release of a row. (6.7)
abbrev pub with_job_of_row : Run → (row cost : ℕ) → (due : Tick) → Run
with_job_of_row run row cost due = record {
  table = run.table;
  clock = run.clock;
  pending = put run.pending (new_job run row cost due);
  next = record { 0 = run.next.0 + 1 };
  kept = set run.kept row (kept_with (kept_of run row) (row_at run.table row) due);
  last = run.last;
  ended = run.ended;
}

-- The last test of a release of a row. (6.6, 6.8)
abbrev pub at_due_of_row : Run → (row cost : ℕ) → Result Tick Refusal → ReleaseStep
at_due_of_row run row cost (Ok t) = record { run = with_job_of_row run row cost t; answer = Ok (record { serial = run.next; due = t }) }
at_due_of_row run row cost (Err r) = refused_release run r

-- What a release by the rows alone answers, and the run after it: 11, then 6 from the row count on, then 7 by the row's c, 8 and 9. (6.6 to 6.8)
unfoldable pub released_by_rows : Run → (row cost : ℕ) → ReleaseStep
released_by_rows run row cost =
    cond (sound_by_rows run)
    (cond (ltb row run.table.count)
    (cond (from_one_to (row_at run.table row).c cost)
    (cond (ltb run.pending.count max_places)
    (at_due_of_row run row cost (due_of (kept_of run row) (row_at run.table row) run.clock.0 cost))
    (refused_release run PlacesFull))
    (refused_release run CostOutOfRange))
    (refused_release run NoSuchRow))
    (refused_release run RunNotSound)

-- ---- what is proved (proofs/WithoutServers.antt)

-- Where its table has no servers, a run is sound exactly by its timer, rows and pending jobs. (5.18, 6.20)
abbrev pub SoundWithoutServers : Type 0
SoundWithoutServers = (run : Run) → run.table.serving ≡ 0 → sound_of run ≡ sound_by_rows run

-- Where its table has no servers, a release is that by the rows alone. (5.18, 6.8)
abbrev pub ReleaseWithoutServers : Type 0
ReleaseWithoutServers = (run : Run) (row cost : ℕ) → Whole run → run.table.serving ≡ 0 → released run row cost ≡ released_by_rows run row cost
