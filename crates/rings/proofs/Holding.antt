-- The rings hold the kept due times of each row of a table: none before the first release, and after that each due time that is given.
use Prim.Native.Nat.{ℕ, ◌≤◌, ◌<◌}
use mathlib.Core.Path.{◌≡◌, refl, sym, ap, ◌∙◌}
use mathlib.Core.Bool.{true}
use native.Mathlib.Omega.{arith}
use lib.ListN.{get_or, replicate, length-replicate, get_or-replicate}
use lib.Seq.{get_or-set_same, get_or-set_other}
use Rattle.std.specs.Prelude.{Ok}
use Rattle.theory.proofs.Cases.{by_eq}
use Rattle.table.specs.declared.Row.{Row}
use Rattle.table.specs.Limits.{max_rows}
use Rattle.table.specs.Tables.{no_row}
use Rattle.table.proofs.SpelledTables.{in_range_means}
use Rattle.due.specs.Kept.{nothing_kept, no_kept, due_of, kept_with}
use Rattle.rings.specs.Rings.{max_times, rings, kept_in, ring_fits, rings_after_due}
use Rattle.rings.specs.RingLaws.{RingsEmpty, DueIsTheRows, HoldsOn}
use Rattle.rings.proofs.Keeping.{can_be_means}
use Rattle.rings.proofs.Storing.{keeps_in_the_ring, stays_ready, places_stay, others_stay}
use Rattle.rings.proofs.RingAnswers.{due_by_the_ring}

-- ---- before the first release

module _ (places rows row : ℕ) (inside : row < rows) where
  none : ◌≡◌ {A = ℕ} (get_or (replicate rows 0) row 0) 0
  none = get_or-replicate rows row 0 0 inside

  -- Rings of zeros hold no due time for a row.
  holds_nothing : nothing_kept ≡ kept_in (rings (replicate places 0) (replicate rows 0) (replicate rows 0)) row
  unfolding kept_in
  holds_nothing = rw none

  -- Rings of zeros can be the rings of any rows.
  fits_any : (r : Row) → 1 ≤ r.x → ring_fits (rings (replicate places 0) (replicate rows 0) (replicate rows 0)) row r ≡ true
  fits_any r some = rw none ((can_be_means 0 0 r.x).1 (record { few = omega arith; inside = omega arith; starts = λ h. refl }))

pub rings_empty : RingsEmpty
rings_empty n rows few fine = record {
  all_places = record { of_times = length-replicate {A = ℕ} max_times 0; of_many = length-replicate {A = ℕ} max_rows 0; of_oldest = length-replicate {A = ℕ} max_rows 0 };
  ready = λ row h. record {
    in_use = omega arith;
    in_range = fine row h;
    fits = fits_any max_times max_rows row (omega arith) (get_or rows row no_row) ((in_range_means (get_or rows row no_row)).0 (fine row h)).some_x;
  };
  holds = λ row h. get_or-replicate max_rows row nothing_kept no_kept (omega arith) ∙ holds_nothing max_times max_rows row (omega arith);
}

-- ---- after a release

pub due_is_the_rows : DueIsTheRows
due_is_the_rows g n rows kept held number t cost h =
    due_by_the_ring g number (get_or rows number no_row) t cost (held.ready number h)
    ∙ ap (λ k. due_of k (get_or rows number no_row) t cost) (sym (held.holds number h))

pub holds_on : HoldsOn
holds_on g n rows kept held room number t h =
    let r = get_or rows number no_row in
    let after = rings_after_due (Ok t) g number r in
    let its = held.ready number h in
    let newest = kept_with (get_or kept number no_kept) r t in
    record {
      all_places = places_stay g number r t.0 held.all_places;
      ready = λ row inside. by_eq row number
          (λ same. rw same (stays_ready g number r (Ok t) held.all_places its))
          (λ ne.
          let before = held.ready row inside in
          record {
            in_use = before.in_use;
            in_range = before.in_range;
            fits = (others_stay g number r (Ok t) its row ne).1 (get_or rows row no_row) ∙ before.fits;
          });
      holds = λ row inside. by_eq row number
          (λ same. rw same
          (get_or-set_same kept number newest no_kept (omega arith)
          ∙ ap (λ k. kept_with k r t) (held.holds number h)
          ∙ sym (keeps_in_the_ring g number r t held.all_places its)))
          (λ ne.
          get_or-set_other kept number row newest no_kept ne
          ∙ held.holds row inside
          ∙ sym (others_stay g number r (Ok t) its row ne).0);
    }
