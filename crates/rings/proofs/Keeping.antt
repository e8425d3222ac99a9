-- What a row's ring holds are the row's kept due times. The due time of job j − x is the oldest of them, and a new due time takes its place.
-- (docs/RULES.md, section 4.)
use Prim.Native.Nat.{ℕ, ◌+◌, ◌-◌, ◌*◌, ◌≤◌, ◌<◌, max}
use mathlib.Core.Path.{◌≡◌, refl, sym, ap, ◌∙◌}
use mathlib.Core.Bool.{true, false, ◌&&◌, ◌||◌}
use mathlib.Core.List.{List, [], ◌∷◌, ◌++◌, map, map-append}
use native.Mathlib.Nat.{add-zero}
use native.Mathlib.Omega.{arith}
use lib.Dec.{leb, ltb, eqb}
use lib.ListN.{length, take, drop, get_or, length-append, length-drop, length-map, get_or-append, get_or-map}
use lib.Seq.{length-take-le, get_or-take, get_or-drop}
use borrow.Author.Tests.{leb-true, ltb-true, le-leb, lt-leb, lt-ltb, le-ltb, eq-eqb, ne_eqb}
use Rattle.std.specs.Prelude.{Option}
use Rattle.std.specs.Bool.{then_some}
use Rattle.std.proofs.lemmas.Slice.{drop-append-drop}
use Rattle.kinds.specs.declared.Tick.{Tick}
use Rattle.kinds.proofs.Apart.{impossible}
use Rattle.theory.proofs.Cases.{by_lt, by_eq}
use Rattle.table.specs.declared.Row.{Row}
use Rattle.table.specs.SpelledTables.{WithinLimits}
use Rattle.table.proofs.SpelledTables.{in_range_means}
use Rattle.table.proofs.Ranges.{both_true}
use Rattle.due.specs.declared.Kept.{Kept}
use Rattle.due.specs.Kept.{max_kept, nothing_kept, kept_times, last_ones, kept_as, kept_with}
use Rattle.due.proofs.Lists.{map-last_ones}
use Rattle.due.proofs.Keeping.{no_time, rule_due, newest_with, kept_at, due_alone, due_spaced, kept_with_lem}
use Rattle.due.proofs.NewestKept.{kept_as_lem}
use Rattle.rings.specs.declared.Rings.{Rings}
use Rattle.rings.specs.Rings.{ring_of, many_of, oldest_of, oldest_first, as_tick, kept_in}
use Rattle.rings.specs.OneRing.{place_in, due_after}
use Rattle.rings.specs.RingShapes.{Ready, InShape}
use Rattle.rings.specs.RingLaws.{CanBeMeans}
use Rattle.rings.proofs.Lists.{length-entries_from, entries_at, turned_length}

-- ---- the test of a ring

pub can_be_means : CanBeMeans
can_be_means many o x = (
  λ e.
      let parts = both_true (leb many x && ltb o x) (eqb o 0 || eqb many x) e in
      let sizes = both_true (leb many x) (ltb o x) parts.0 in
      let either : (eqb o 0 || eqb many x) ≡ true = parts.1 in
      record {
        few = leb-true many x sizes.0;
        inside = ltb-true o x sizes.1;
        starts = λ h. by_eq o 0
            (λ start. start)
            (λ ne.
            let neither : (eqb o 0 || eqb many x) ≡ false = rw (ne_eqb o 0 ne, ne_eqb many x (λ same. omega arith)) in
            impossible cc);
      },
  λ s. by_eq o 0
      (λ start. rw (le-leb many x s.few, lt-ltb o x s.inside, eq-eqb o 0 start))
      (λ ne.
      let full : many ≡ x = by_lt many x (λ h. absurd (ne (s.starts h))) (λ h. omega (arith, s.few)) in
      rw (le-leb many x s.few, lt-ltb o x s.inside, ne_eqb o 0 ne, eq-eqb many x full)),
)

-- ---- a row's ring

-- Keeping a longer list over a shorter one is the same as keeping it alone.
kept_over : (k : Kept) (l m : List Tick) → length l ≤ length m → kept_as (kept_as k l) m ≡ kept_as k m
kept_over k l m h = ap (λ rest. record { times = m ++ rest; count = length m }) (drop-append-drop (length l) k.times l (length m) h refl)

-- The due times that a row's ring holds, oldest first.
abbrev pub order_of : Rings → (row : ℕ) → List ℕ
order_of g row = oldest_first (many_of g row) (oldest_of g row) (ring_of g row)

-- The due time that a row's next one is spaced from, once x are kept: the one that stands at the place where the next one goes.
abbrev pub spaced_from : Rings → (number x : ℕ) → Option ℕ
spaced_from g number x =
    then_some (leb x (many_of g number)) (get_or g.times (number * max_kept + place_in (many_of g number) (oldest_of g number) x) 0)

-- The kept due times of a row are those that its ring holds, oldest first.
kept_order : (g : Rings) (row : ℕ) → kept_times (kept_in g row) ≡ map as_tick (order_of g row)
unfolding kept_in
kept_order g row = kept_as_lem nothing_kept (map as_tick (order_of g row))

-- A row's ring has as many places as x may be.
pub length-ring_of : (g : Rings) (row : ℕ) → length (ring_of g row) ≡ max_kept
length-ring_of g row = length-entries_from max_kept _ g.times

module _ {g : Rings} {number : ℕ} {r : Row} (ready : Ready g number r) where
  -- The ring of a row that is ready is in shape.
  pub shape : InShape (many_of g number) (oldest_of g number) r.x
  shape = (can_be_means (many_of g number) (oldest_of g number) r.x).0 ready.fits

  -- The values of a row that is ready are within their limits.
  pub row_within : WithinLimits r
  row_within = (in_range_means r).0 ready.in_range

  -- As many places of the ring are in use as are counted.
  pub used_length : length (take (many_of g number) (ring_of g number)) ≡ many_of g number
  used_length = length-take-le (many_of g number) (ring_of g number) (omega (arith, length-ring_of g number, shape.few, row_within.most_x))

  -- The ring holds as many due times as are counted.
  pub length-order_of : length (order_of g number) ≡ many_of g number
  length-order_of = turned_length (oldest_of g number) (take (many_of g number) (ring_of g number)) ∙ used_length

  -- As many due times are kept as are counted.
  kept_many : length (kept_times (kept_in g number)) ≡ many_of g number
  kept_many = ap length (kept_order g number) ∙ length-map (order_of g number) as_tick ∙ length-order_of

  -- Where x due times are kept, the oldest of them stands at the oldest's place in the ring.
  oldest_kept : r.x ≤ many_of g number → (get_or (kept_in g number).times 0 no_time).0 ≡ get_or g.times (number * max_kept + oldest_of g number) 0
  oldest_kept full =
      let o = oldest_of g number in
      let used = take (many_of g number) (ring_of g number) in
      ap (λ (t : Tick). t.0)
      (sym (kept_at (kept_in g number) (many_of g number) kept_many 0 (omega (arith, row_within.some_x)))
      ∙ ap (λ l. get_or l 0 no_time) (kept_order g number)
      ∙ get_or-map as_tick (order_of g number) 0 0)
      ∙ get_or-append (drop o used) (take o used) 0 0 (omega (arith, length-drop o used, used_length, shape.inside))
      ∙ get_or-drop o used 0 0
      ∙ ap (λ n. get_or used n 0) (add-zero o)
      ∙ get_or-take (many_of g number) (ring_of g number) o 0 (omega (arith, shape.inside))
      ∙ entries_at max_kept (number * max_kept) o g.times (omega (arith, shape.inside, row_within.most_x))

  -- Where fewer than x due times are kept, the due time by the rule is t + d.
  pub due_of_few : (t : ℕ) → many_of g number < r.x → rule_due (kept_in g number) r t ≡ t + r.d
  due_of_few t h = due_alone (kept_in g number) (many_of g number) kept_many r t h

  -- Where x due times are kept, the due time by the rule is the later of t + d and the oldest + y.
  pub due_of_full : (t : ℕ) → r.x ≤ many_of g number
      → rule_due (kept_in g number) r t ≡ max (t + r.d) (get_or g.times (number * max_kept + oldest_of g number) 0 + r.y)
  due_of_full t h =
      let none : many_of g number - r.x ≡ 0 = omega (arith, shape.few) in
      due_spaced (kept_in g number) (many_of g number) kept_many r t row_within.some_x h
      ∙ ap (λ n. max (t + r.d) ((get_or (kept_in g number).times n no_time).0 + r.y)) none
      ∙ ap (λ n. max (t + r.d) (n + r.y)) (oldest_kept h)

  -- The due time by the rule follows from the due time that the next one is spaced from.
  pub due_by_ring : (t : ℕ) → rule_due (kept_in g number) r t ≡ due_after t r.d r.y (spaced_from g number r.x)
  due_by_ring t = by_lt (many_of g number) r.x
      (λ h. due_of_few t h ∙ rw (lt-leb r.x (many_of g number) h))
      (λ h. due_of_full t h ∙ rw (le-leb r.x (many_of g number) h, le-ltb (many_of g number) r.x h))

  -- ---- one due time more

  -- Where the row's ring holds the newest x of what it held and one more, the new due time is kept as the rule says.
  pub keeps_one_more : (t : Tick) (after : Rings) → order_of after number ≡ last_ones r.x (order_of g number ++ (t.0 ∷ []))
      → kept_in after number ≡ kept_with (kept_in g number) r t
  unfolding kept_in
  keeps_one_more t after order =
      let held = order_of g number in
      let more = held ++ (t.0 ∷ []) in
      let newest : newest_with (kept_in g number) r t ≡ map as_tick (order_of after number) =
      ap (λ l. last_ones r.x (l ++ (t ∷ []))) (kept_order g number)
      ∙ ap (last_ones r.x) (sym (map-append as_tick held (t.0 ∷ [])))
      ∙ sym (map-last_ones as_tick r.x more)
      ∙ ap (map as_tick) (sym order) in
      let longer : length (map as_tick held) ≤ length (map as_tick (order_of after number)) =
      omega (
        arith,
        length-map held as_tick,
        length-map (order_of after number) as_tick,
        ap length order,
        length-drop (length more - r.x) more,
        length-append held (t.0 ∷ []),
        length-order_of,
        shape.few,
      ) in
      sym
      (kept_with_lem (kept_in g number) r t ready.in_range
      ∙ ap (kept_as (kept_in g number)) newest
      ∙ kept_over nothing_kept (map as_tick held) (map as_tick (order_of after number)) longer)
