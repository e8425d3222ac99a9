-- A due time that is given is stored in its row's ring, as the rule says, and leaves the rings of other rows alone. (docs/RULES.md, section 4.)
use Prim.Native.Nat.{ℕ, ◌+◌, ◌*◌, ◌≤◌, ◌<◌}
use mathlib.Core.Path.{◌≡◌, refl, sym, ap, ◌∙◌}
use mathlib.Core.Logic.{◌≢◌}
use mathlib.Core.Bool.{true}
use mathlib.Core.List.{List, [], ◌∷◌, ◌++◌}
use native.Mathlib.Omega.{arith}
use lib.ListN.{length, take, get_or, set, length-append, length-set}
use lib.Seq.{get_or-set_same, get_or-set_other}
use borrow.Author.Tests.{lt-ltb, le-ltb}
use Rattle.std.specs.Prelude.{Ok, Err}
use Rattle.theory.proofs.Cases.{by_lt}
use Rattle.table.specs.declared.Row.{Row}
use Rattle.due.specs.Kept.{max_kept, last_ones}
use Rattle.due.proofs.Lists.{last_ones_all}
use Rattle.rings.specs.declared.Rings.{Rings}
use Rattle.rings.specs.Rings.{rings, entries_from, ring_of, many_of, oldest_of, oldest_first, kept_in, ring_fits, place_after_oldest, stored}
use Rattle.rings.specs.OneRing.{place_in}
use Rattle.rings.specs.RingShapes.{AllRingPlaces, Ready}
use Rattle.rings.specs.RingLaws.{KeepsInTheRing, StaysReady, OthersStay}
use Rattle.rings.proofs.Lists.{entries_outside, entries_inside, place_inside, in_turn_behind, in_turn_instead}
use Rattle.rings.proofs.Keeping.{can_be_means, order_of, shape, row_within, length-ring_of, used_length, length-order_of, keeps_one_more}

-- ---- where a due time is stored

module _ (many oldest x : ℕ) where
  -- Where fewer than x are kept, the next due time goes into the first unused place.
  pub place_unused : many < x → place_in many oldest x ≡ many
  place_unused h = rw (lt-ltb many x h)

  -- Where x are kept, the next due time goes into the oldest's place.
  pub place_of_oldest : x ≤ many → place_in many oldest x ≡ oldest
  place_of_oldest h = rw (le-ltb many x h)

-- The rings with a due time in the first unused place of a row's ring.
abbrev behind : Rings → (number v : ℕ) → Rings
behind g number v = rings (set g.times (number * max_kept + many_of g number) v) (set g.many number (many_of g number + 1)) g.oldest

-- The rings with a due time in the oldest's place of a row's ring. The place after it becomes the oldest's.
abbrev instead : Rings → (number x v : ℕ) → Rings
instead g number x v =
    rings (set g.times (number * max_kept + oldest_of g number) v) g.many (set g.oldest number (place_after_oldest (oldest_of g number) x))

module _ (g : Rings) (number : ℕ) (r : Row) (v : ℕ) where
  -- Where fewer than x are kept, a due time is stored in the first unused place.
  pub stored_behind : many_of g number < r.x → stored g number r v ≡ behind g number v
  unfolding stored
  stored_behind h = rw (lt-ltb (many_of g number) r.x h)

  -- Where x are kept, a due time is stored in the oldest's place.
  pub stored_instead : r.x ≤ many_of g number → stored g number r v ≡ instead g number r.x v
  unfolding stored
  stored_instead h = rw (le-ltb (many_of g number) r.x h)

-- ---- the row's own ring

module _ {g : Rings} {number : ℕ} {r : Row} (whole : AllRingPlaces g) (ready : Ready g number r) where
  -- A due time that is stored at a place of the ring stands there.
  ring_after : (i v : ℕ) → i < max_kept → entries_from max_kept (number * max_kept) (set g.times (number * max_kept + i) v) ≡ set (ring_of g number) i v
  ring_after i v h = entries_inside max_kept (number * max_kept) i v g.times h (omega (arith, whole.of_times, ready.in_use))

  -- A due time in the first unused place is the newest.
  order_behind : (v : ℕ) → many_of g number < r.x → order_of (behind g number v) number ≡ last_ones r.x (order_of g number ++ (v ∷ []))
  order_behind v h =
      let many = many_of g number in
      let o = oldest_of g number in
      let more = order_of g number ++ (v ∷ []) in
      let counted : many_of (behind g number v) number ≡ many + 1 =
      get_or-set_same g.many number (many + 1) 0 (omega (arith, whole.of_many, ready.in_use)) in
      ap (λ n. oldest_first n o (ring_of (behind g number v) number)) counted
      ∙ ap (oldest_first (many + 1) o) (ring_after many v (omega (arith, (row_within ready).most_x)))
      ∙ in_turn_behind many o v (ring_of g number) (omega (arith, length-ring_of g number, (row_within ready).most_x)) ((shape ready).starts h)
      ∙ sym (last_ones_all r.x more (omega (arith, length-append (order_of g number) (v ∷ []), length-order_of ready)))

  -- A due time in the oldest's place is the newest, and the oldest is gone.
  order_instead : (v : ℕ) → r.x ≤ many_of g number → order_of (instead g number r.x v) number ≡ last_ones r.x (order_of g number ++ (v ∷ []))
  order_instead v h =
      let many = many_of g number in
      let o = oldest_of g number in
      let next = place_after_oldest o r.x in
      let after = instead g number r.x v in
      let inside = (shape ready).inside in
      let all : many ≡ r.x = omega (arith, (shape ready).few) in
      let turned : oldest_of after number ≡ next = get_or-set_same g.oldest number next 0 (omega (arith, whole.of_oldest, ready.in_use)) in
      ap (λ n. oldest_first many n (ring_of after number)) turned
      ∙ ap (oldest_first many next) (ring_after o v (omega (arith, (row_within ready).most_x)))
      ∙ ap (λ n. oldest_first n next (set (ring_of g number) o v)) all
      ∙ in_turn_instead o r.x v (ring_of g number) (ap (λ n. length (take n (ring_of g number))) (sym all) ∙ used_length ready ∙ all) inside
      ∙ ap (λ n. last_ones r.x (oldest_first n o (ring_of g number) ++ (v ∷ []))) (sym all)

  -- After a due time went into the first unused place, the ring can still be the row's.
  fits_behind : (v : ℕ) → many_of g number < r.x → ring_fits (behind g number v) number r ≡ true
  fits_behind v h =
      let counted : many_of (behind g number v) number ≡ many_of g number + 1 =
      get_or-set_same g.many number (many_of g number + 1) 0 (omega (arith, whole.of_many, ready.in_use)) in
      rw counted
      ((can_be_means (many_of g number + 1) (oldest_of g number) r.x).1
      (record { few = omega arith; inside = (shape ready).inside; starts = λ fewer. (shape ready).starts h }))

  -- After a due time went into the oldest's place, the ring can still be the row's.
  fits_instead : (v : ℕ) → r.x ≤ many_of g number → ring_fits (instead g number r.x v) number r ≡ true
  fits_instead v h =
      let next = place_after_oldest (oldest_of g number) r.x in
      let turned : oldest_of (instead g number r.x v) number ≡ next =
      get_or-set_same g.oldest number next 0 (omega (arith, whole.of_oldest, ready.in_use)) in
      rw turned
      ((can_be_means (many_of g number) next r.x).1
      (record { few = (shape ready).few; inside = place_inside (oldest_of g number) r.x (shape ready).inside; starts = λ fewer. absurd (omega arith) }))

pub keeps_in_the_ring : KeepsInTheRing
keeps_in_the_ring g number r t whole ready = by_lt (many_of g number) r.x
    (λ h.
    ap (λ a. kept_in a number) (stored_behind g number r t.0 h)
    ∙ keeps_one_more ready t (behind g number t.0) (order_behind whole ready t.0 h))
    (λ h.
    ap (λ a. kept_in a number) (stored_instead g number r t.0 h)
    ∙ keeps_one_more ready t (instead g number r.x t.0) (order_instead whole ready t.0 h))

pub stays_ready : StaysReady
stays_ready g number r (Err e) whole ready = ready
stays_ready g number r (Ok t) whole ready = record {
  in_use = ready.in_use;
  in_range = ready.in_range;
  fits = by_lt (many_of g number) r.x
      (λ h. ap (λ a. ring_fits a number r) (stored_behind g number r t.0 h) ∙ fits_behind whole ready t.0 h)
      (λ h. ap (λ a. ring_fits a number r) (stored_instead g number r t.0 h) ∙ fits_instead whole ready t.0 h);
}

-- Every array has all its places after a due time was stored.
pub places_stay : (g : Rings) (number : ℕ) (r : Row) (v : ℕ) → AllRingPlaces g → AllRingPlaces (stored g number r v)
places_stay g number r v whole = by_lt (many_of g number) r.x
    (λ h. rw (stored_behind g number r v h) (record {
      of_times = length-set g.times (number * max_kept + many_of g number) v ∙ whole.of_times;
      of_many = length-set g.many number (many_of g number + 1) ∙ whole.of_many;
      of_oldest = whole.of_oldest;
    }))
    (λ h. rw (stored_instead g number r v h) (record {
      of_times = length-set g.times (number * max_kept + oldest_of g number) v ∙ whole.of_times;
      of_many = whole.of_many;
      of_oldest = length-set g.oldest number (place_after_oldest (oldest_of g number) r.x) ∙ whole.of_oldest;
    }))

-- ---- the other rows' rings

-- Storing a due time in one row's ring leaves the ring of every other row as it was.
apart : (number other i v : ℕ) (l : List ℕ) → other ≢ number → i < max_kept
    → entries_from max_kept (other * max_kept) (set l (number * max_kept + i) v) ≡ entries_from max_kept (other * max_kept) l
apart number other i v l ne inside =
    entries_outside max_kept (other * max_kept) (number * max_kept + i) v l (λ j h e. ne (omega arith))

-- The ring of another row holds what it held, where its count and its oldest's place stay as they were.
module _ (g : Rings) (number i v : ℕ) (inside : i < max_kept) (many oldest : List ℕ) (other : ℕ) (ne : other ≢ number) where
  other_stays : get_or many other 0 ≡ many_of g other → get_or oldest other 0 ≡ oldest_of g other
      → (kept_in (rings (set g.times (number * max_kept + i) v) many oldest) other ≡ kept_in g other)
      × ((its : Row) → ring_fits (rings (set g.times (number * max_kept + i) v) many oldest) other its ≡ ring_fits g other its)
  unfolding kept_in
  other_stays same old = (rw (apart number other i v g.times ne inside, same, old), λ its. rw (same, old))

pub others_stay : OthersStay
others_stay g number r (Err e) ready other ne = (refl, λ its. refl)
others_stay g number r (Ok t) ready other ne = by_lt (many_of g number) r.x
    (λ h. rw (stored_behind g number r t.0 h)
    (other_stays g number (many_of g number) t.0 (omega (arith, (row_within ready).most_x)) (set g.many number (many_of g number + 1)) g.oldest other ne
    (get_or-set_other g.many number other (many_of g number + 1) 0 ne)
    refl))
    (λ h. rw (stored_instead g number r t.0 h)
    (other_stays g number (oldest_of g number) t.0 (omega (arith, (row_within ready).most_x, (shape ready).inside)) g.many
    (set g.oldest number (place_after_oldest (oldest_of g number) r.x)) other ne
    refl
    (get_or-set_other g.oldest number other (place_after_oldest (oldest_of g number) r.x) 0 ne)))
