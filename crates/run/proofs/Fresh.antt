-- A fresh run of a table in range is sound. Every run that is started is sound, since the table read from any bytes is in range.
-- (docs/RULES.md, sections 6.3, 6.4 and 6.25.)
use Rattle.std.specs.Prelude.{Result}
use Rattle.kinds.specs.declared.RefusedAt.{RefusedAt}
use Prim.Native.Nat.{ℕ}
use mathlib.Core.Path.{◌≡◌, refl}
use mathlib.Core.List.{List}
use native.Mathlib.Nat.{not-suc-le-zero}
use native.Mathlib.Omega.{arith}
use lib.ListN.{get_or-replicate}
use Rattle.table.specs.declared.Table.{Table}
use Rattle.table.specs.declared.TableRead.{TableRead}
use Rattle.table.specs.Limits.{max_rows, max_servers}
use Rattle.table.specs.Tables.{InRange, table_read}
use Rattle.table.proofs.SpelledTables.{in_range_means}
use Rattle.table.proofs.Tables.{read_in_range}
use Rattle.due.specs.Kept.{nothing_kept}
use Rattle.due.proofs.NewestKept.{kept_sound_means as kept_means, empty_is_sound}
use Rattle.run.specs.declared.Run.{Run}
use Rattle.run.specs.Runs.{fresh_run, start_answer, started, row_at}
use Rattle.run.specs.Sound.{Whole, Sound}
use Rattle.run.specs.RunLaws.{FreshIsSound, StartedIsSound}
use Rattle.run.proofs.Sound.{no_time, sound_means}

-- ---- fresh runs

module _ (t : Table) (in_range : InRange t) where
  -- A fresh run's arrays have all their places.
  fresh_whole : Whole (fresh_run t)
  fresh_whole = record { all_rows = in_range.all_places; all_kept = refl; all_servers = in_range.all_servers; all_last = refl; all_places = refl }

  -- The facts about a sound run hold for a fresh run.
  fresh_facts : Sound (fresh_run t)
  fresh_facts = record {
    good_timer = in_range.good_timer;
    few_rows = in_range.few_rows;
    few_servers = in_range.few_servers;
    clock_in_time = omega arith;
    few_pending = omega arith;
    few_ended = omega arith;
    rows = λ i h. (in_range_means (row_at t i)).0 (in_range.rows_in_range i h);
    c_within_d = in_range.c_within_d;
    kept = λ i h.
        rw (get_or-replicate max_rows i nothing_kept _ (omega (arith, in_range.few_rows)))
        ((kept_means nothing_kept (row_at t i)).0 (empty_is_sound (row_at t i)));
    servers = in_range.good_servers;
    last = λ k h. rw (get_or-replicate max_servers k no_time _ (omega (arith, in_range.few_servers))) (omega arith);
    jobs = λ i h. absurd (not-suc-le-zero h);
    apart = λ i k h l e. absurd (not-suc-le-zero l);
    serials = omega arith;
  }

pub fresh_is_sound : FreshIsSound
fresh_is_sound t in_range = let w = fresh_whole t in_range in ((sound_means (fresh_run t) w).1 (fresh_facts t in_range), w)

-- ---- runs that are started

pub started_is_sound : StartedIsSound
started_is_sound s b = fresh_is_sound (table_read s).table (read_in_range s b)

-- ---- how a run is started

-- The table that was read, its fresh run and its answer make up `started`.
pub starts : (s : List ℕ) {r : TableRead} {run : Run} {a : Result ℕ RefusedAt} → r ≡ table_read s → run ≡ fresh_run r.table → r.answer ≡ a
    → record { run = run; answer = start_answer a } ≡ started s
starts s e f g = rw (f, ← g, e)
