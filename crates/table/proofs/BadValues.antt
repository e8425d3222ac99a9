-- A value, a row or rows that are refused: good values stand up to a bad one, or up to a c above its d, and the refusal is that of this value. Each level is shown from
-- the one below, both ways. (docs/RULES.md, 3.3, 3.7, 3.8 and 3.10.)
use Rattle.std.specs.Prelude.{Result, Ok, Err}
use Prim.Native.Nat.{ℕ, zero, suc, ◌≤◌, ◌<◌}
use native.Mathlib.Decide.{dec_le}
use native.Mathlib.Omega.{arith}
use mathlib.Core.Path.{◌≡◌, refl, sym, ap, subst, ◌∙◌}
use mathlib.Core.Bool.{true}
use mathlib.Core.Logic.{◌⊎◌, inl, inr, ⊎_elim}
use mathlib.Core.List.{List, [], ◌∷◌, ◌++◌, flatten, map}
use lib.ListN.{length, get_or}
use borrow.Author.Tests.{le-leb, lt-leb}
use Rattle.kinds.specs.Numbering.{refusal_number}
use Rattle.kinds.specs.declared.Refusal.{Refusal}
use Rattle.kinds.specs.declared.Refusal.TheVariants.{Misspelled, ValueOutOfRange, HopelessRow}
use Rattle.kinds.specs.declared.RefusedAt.{RefusedAt}
use Rattle.kinds.proofs.Apart.{impossible}
use Rattle.numbers.specs.declared.Number.{Number}
use Rattle.numbers.specs.Spelling.{max_number, spelling}
use Rattle.numbers.specs.Reading.{read_at}
use Rattle.numbers.specs.SpelledNumbers.{Bytes, Spelled}
use Rattle.numbers.specs.BadByte.{BadByteAt}
use Rattle.numbers.proofs.Spellings.{number_has_one_spelling, spelled_read}
use Rattle.numbers.proofs.BadByte.{bad_read, refused_bad}
use Rattle.table.specs.declared.RowAt.{RowAt}
use Rattle.table.specs.declared.Row.{Row}
use Rattle.table.specs.Limits.{max_x, max_y, max_d, max_c}
use Rattle.table.specs.Rows.{within_limit, fine, rule_of_x, rule_of_y, rule_of_d, range_of_c, rule_of_c, read_value, after_value, read_row}
use Rattle.table.specs.Tables.{no_row, Rows, rows, refused, in_front, after_row, read_rows}
use Rattle.table.specs.SpelledTables.{WithinLimits, spelled_row}
use Rattle.table.specs.Refusals.{PartStands, value_limits, FirstValues, BadValue, misspelled, out_of_range}
use Rattle.table.proofs.Each.{each_none, Each-cons, each_head, each_tail}
use Rattle.table.proofs.Ranges.{fine_limits}
use Rattle.table.proofs.Reading.{value_stands, value_before, after_value_lem, after_refused, c_stands, c_hopeless, c_refused}
use Rattle.table.proofs.Spelling.{parted, joined, ends_inside, spelled_stands, value_read, RowStands, row_read, row_stands, RowsStand}

-- ---- a value

-- What a value is answered with: itself, from 1 to its limit, or the refusal of what is wrong with it.
pub data ValueAnswer (s : List ℕ) (at most : ℕ) : Result Number RefusedAt → Type 0 where
  good : {n : Number} → Spelled s at n → 1 ≤ n.value → n.value ≤ most → ValueAnswer s at most (Ok n)
  bad : (r : RefusedAt) → BadValue s at most (refusal_number r.refusal) r.place → ValueAnswer s at most (Err r)

-- A value that can't be read is refused with 1, at its bad byte.
misspelled_refused : {s : List ℕ} {at place : ℕ} (most : ℕ) → Bytes s → BadByteAt s at place
    → read_value (within_limit most) s at ≡ Err (record { refusal = Misspelled; place = place })
misspelled_refused most b p = simp (bad_read b p)

module _ {s : List ℕ} {at most : ℕ} where
  -- A value in its range is answered.
  pub good_value : {n : Number} → Spelled s at n → 1 ≤ n.value → n.value ≤ most → read_value (within_limit most) s at ≡ Ok n
  good_value {n} p l h = simp (spelled_read p, le-leb 1 n.value l, le-leb n.value most h)

  -- A value out of its range is refused with 3.
  outside_refused : (n : Number) → Spelled s at n → (n.value ≡ 0) ⊎ (most < n.value)
      → read_value (within_limit most) s at ≡ Err (record { refusal = ValueOutOfRange; place = at })
  outside_refused n p o = ⊎_elim
      (λ z. simp (spelled_read p, lt-leb 1 n.value (omega arith)))
      (λ l. elim (dec_le 1 n.value) [
        | yes k ↦ simp (spelled_read p, le-leb 1 n.value k, lt-leb n.value most l)
        | no k ↦ simp (spelled_read p, lt-leb 1 n.value (omega arith))
      ])
      o

  -- Reading a value always answers as `ValueAnswer` says.
  pub value_answer : Bytes s → at ≤ length s → ValueAnswer s at most (read_value (within_limit most) s at)
  value_answer b inside = go (read_at s at) refl
    where
      outside : (n : Number) → read_at s at ≡ Ok n → (n.value ≡ 0) ⊎ (most < n.value) → ValueAnswer s at most (read_value (within_limit most) s at)
      outside n e o =
          let p = number_has_one_spelling s at n b e in
          rw (outside_refused n p o) (bad (record { refusal = ValueOutOfRange; place = at }) (out_of_range n p o))

      go : (v : Result Number RefusedAt) → read_at s at ≡ v → ValueAnswer s at most (read_value (within_limit most) s at)
      go (Ok n) e = elim (dec_le 1 n.value) [
        | yes l ↦ elim (dec_le n.value most) [
          | yes h ↦ let p = number_has_one_spelling s at n b e in rw (good_value p l h) (good p l h)
          | no h ↦ outside n e (inr (omega arith))
        ]
        | no l ↦ outside n e (inl (omega arith))
      ]
      go (Err r) e =
          let p = (refused_bad b inside e).1 in
          rw (misspelled_refused most b p) (bad (record { refusal = Misspelled; place = r.place }) (misspelled p))

-- A value that is answered is spelled there, and is from 1 to its limit.
good_parts : {s : List ℕ} {at most : ℕ} {n : Number} → Bytes s → read_value (within_limit most) s at ≡ Ok n
    → Spelled s at n × (1 ≤ n.value) × (n.value ≤ most)
good_parts {s} {at} {most} {n} b e =
    let v = value_before (within_limit most) s at (read_at s at) (λ m. Ok (record { row = no_row; next = m.next })) _ refl (after_value_lem _ e) in
    let same : v.0 ≡ n = cc (sym (value_stands (within_limit most) s at v.0 v.1) ∙ e) in
    let n_fine : fine (within_limit most n.value) ≡ true = subst (λ m. fine (within_limit most m.value) ≡ true) same v.1.is_fine in
    let limits = fine_limits most n.value n_fine in
    (number_has_one_spelling s at n b (v.1.reads ∙ ap Ok same), limits.0, limits.1)

-- A value that begins at `at` is refused with a refusal of that number, at that place.
pub record ValueRefused (s : List ℕ) (at most n place : ℕ) : Type 0 where
  pub kind : Refusal
  pub its_number : refusal_number kind ≡ n
  pub answer : read_value (within_limit most) s at ≡ Err (record { refusal = kind; place = place })

-- A bad value is refused at its start, with the number of `BadValue`.
pub bad_refused : {s : List ℕ} {at most n place : ℕ} → Bytes s → BadValue s at most n place → ValueRefused s at most n place
bad_refused {most = most} b (misspelled p) = record { kind = Misspelled; its_number = refl; answer = misspelled_refused most b p }
bad_refused b (out_of_range n p o) = record { kind = ValueOutOfRange; its_number = refl; answer = outside_refused n p o }

-- ---- a row

-- Values are read one after another, one for each limit, and the last argument makes a row of them.
from_values : (limits : List ℕ) → List ℕ → (at : ℕ) → (List ℕ → ℕ → Result RowAt RefusedAt) → Result RowAt RefusedAt
from_values [] s at k = k [] at
from_values (most ∷ limits) s at k =
    after_value (read_value (within_limit most) s at) (λ n. from_values limits s n.next (λ values next. k (n.value ∷ values) next))

-- `of_four` makes a row of four values.
of_four : List ℕ → ℕ → Result RowAt RefusedAt
of_four values next = Ok (record {
  row = record { x = get_or values 0 0; y = get_or values 1 0; d = get_or values 2 0; c = get_or values 3 0 };
  next = next;
})

-- Four values are read, one for each of the four limits, and the last is not compared with d.
read_four : List ℕ → (at : ℕ) → Result RowAt RefusedAt
read_four s at = from_values value_limits s at of_four

-- If values are refused after a first value was read, or because it was refused, they are refused with another use of that value that is refused as well.
still_refused : (v : Result Number RefusedAt) (k l : Number → Result RowAt RefusedAt) {r : RefusedAt} → ((n : Number) → k n ≡ Err r → l n ≡ Err r)
    → after_value v k ≡ Err r → after_value v l ≡ Err r
still_refused (Ok n) k l more e = more n e
still_refused (Err q) k l more e = e

-- If the four values of a row are refused, the row is refused so.
four_refused : (s : List ℕ) (at : ℕ) {r : RefusedAt} → read_four s at ≡ Err r → read_row s at ≡ Err r
unfolding read_four from_values of_four
four_refused s at {r} =
    still_refused (read_value rule_of_x s at) _ _ λ x.
    still_refused (read_value rule_of_y s x.next) _ _ λ y.
    still_refused (read_value rule_of_d s y.next) _ _ λ d e.
    last x y d (read_value range_of_c s d.next) refl e
  where
    last : (x y d : Number) (v : Result Number RefusedAt) → read_value range_of_c s d.next ≡ v
        → after_value v (λ c. Ok (record { row = record { x = x.value; y = y.value; d = d.value; c = c.value }; next = c.next })) ≡ Err r
        → after_value (read_value (rule_of_c d.value) s d.next)
        (λ c. Ok (record { row = record { x = x.value; y = y.value; d = d.value; c = c.value }; next = c.next })) ≡ Err r
    last x y d (Ok c) f e = impossible cc
    last x y d (Err q) f e = after_refused _ (c_refused d.value s d.next q f) ∙ e

-- A value that was read, or that ended a row.
by_value : {G : Type 0} (v : Result Number RefusedAt) (k : Number → Result RowAt RefusedAt) {r : RefusedAt} → after_value v k ≡ Err r → (v ≡ Err r → G)
    → ((n : Number) → v ≡ Ok n → k n ≡ Err r → G) → G
by_value (Ok n) k e ended read = read n refl e
by_value (Err q) k e ended read = ended cc

-- The first values of a row still are its first values with one more in front, if that one is from 1 to its limit.
first_more : {most v : ℕ} {limits values : List ℕ} → 1 ≤ v → v ≤ most → FirstValues limits values → FirstValues (most ∷ limits) (v ∷ values)
first_more {most} {v} {limits} {values} l h first = record { fewer = omega (arith, first.fewer); within = each }
  where
    each : (i : ℕ) → i < suc (length values) → (1 ≤ get_or (v ∷ values) i 0) × (get_or (v ∷ values) i 0 ≤ get_or (most ∷ limits) i 0)
    each zero k = (l, h)
    each (suc i) k = first.within i (omega arith)

-- The first values of a row still are its first values without the one in front.
first_less : {most v : ℕ} {limits values : List ℕ} → FirstValues (most ∷ limits) (v ∷ values) → FirstValues limits values
first_less first = record { fewer = omega (arith, first.fewer); within = λ i h. first.within (suc i) (omega arith) }

-- From the place `at` on stand the first values of a row, and then a bad value, which is refused as r says.
pub record EndsBadly (limits s : List ℕ) (at : ℕ) (r : RefusedAt) : Type 0 where
  pub values : List ℕ
  pub next : ℕ
  pub first : FirstValues limits values
  pub stand : PartStands s at (flatten (map spelling values)) next
  pub wrong : BadValue s next (get_or limits (length values) 0) (refusal_number r.refusal) r.place

-- Values end badly where the first is bad.
bad_first : {most : ℕ} {limits s : List ℕ} {at : ℕ} {r : RefusedAt} → BadValue s at most (refusal_number r.refusal) r.place
    → EndsBadly (most ∷ limits) s at r
unfolding flatten
bad_first {at} w = record {
  values = [];
  next = at;
  first = record { fewer = omega arith; within = λ i h. absurd (omega arith) };
  stand = record { here = refl; ends = omega arith };
  wrong = w;
}

-- Values end badly where the first is good and the others end badly.
good_first : {most : ℕ} {limits s : List ℕ} {at : ℕ} {r : RefusedAt} {n : Number} → Spelled s at n → 1 ≤ n.value → n.value ≤ most
    → EndsBadly limits s n.next r → EndsBadly (most ∷ limits) s at r
unfolding flatten
good_first {n} p l h e = record {
  values = n.value ∷ e.values;
  next = e.next;
  first = first_more l h e.first;
  stand = joined (spelled_stands p) e.stand;
  wrong = e.wrong;
}

-- Values that end in a refusal end badly.
ends_badly : (limits : List ℕ) {s : List ℕ} (at : ℕ) (k : List ℕ → ℕ → Result RowAt RefusedAt) {r : RefusedAt} → Bytes s → at ≤ length s
    → ((values : List ℕ) (next : ℕ) → k values next ≡ Err r → ⊥) → from_values limits s at k ≡ Err r → EndsBadly limits s at r
unfolding from_values
ends_badly [] at k b inside made e = absurd (made [] at e)
ends_badly (most ∷ limits) {s} at k {r} b inside made e =
    go (read_value (within_limit most) s at) (value_answer b inside) e
    (λ n h f. ends_badly limits n.next (λ values next. k (n.value ∷ values) next) b h (λ values next. made (n.value ∷ values) next) f)
  where
    go : (v : Result Number RefusedAt) → ValueAnswer s at most v
        → after_value v (λ n. from_values limits s n.next (λ values next. k (n.value ∷ values) next)) ≡ Err r
        → ((n : Number) → n.next ≤ length s → from_values limits s n.next (λ values next. k (n.value ∷ values) next) ≡ Err r
        → EndsBadly limits s n.next r)
        → EndsBadly (most ∷ limits) s at r
    go (Ok n) (good p l h) f more = good_first p l h (more n p.within f)
    go (Err q) (bad how w) f more = let same : q ≡ r = cc in bad_first (rw same at w)

-- If good values stand up to one that is refused, and every limit can be spelled, reading the values ends in that refusal.
badly_refused : (limits values : List ℕ) {s : List ℕ} (at : ℕ) (k : List ℕ → ℕ → Result RowAt RefusedAt) {next number place : ℕ}
    → ((i : ℕ) → get_or limits i 0 ≤ max_number) → FirstValues limits values → PartStands s at (flatten (map spelling values)) next
    → (wrong : ValueRefused s next (get_or limits (length values) 0) number place)
    → from_values limits s at k ≡ Err (record { refusal = wrong.kind; place = place })
unfolding from_values flatten
badly_refused [] values at k small first stand wrong = absurd (omega (arith, first.fewer))
badly_refused (most ∷ limits) [] {s} at k {next} small first stand wrong =
    let same : at ≡ next = omega (arith, stand.ends) in
    rw (same, wrong.answer)
badly_refused (most ∷ limits) (v ∷ values) {s} at k small first stand wrong =
    let t = parted (spelling v) (flatten (map spelling values)) stand in
    let w = first.within 0 (omega arith) in
    rw (value_read most v (small 0) w.0 w.1 t.1)
    (badly_refused limits values t.0 (λ others after. k (v ∷ others) after) (λ i. small (suc i)) (first_less first) t.2 wrong)

-- The limits of a row's values can be spelled.
pub limits_small : (i : ℕ) → get_or value_limits i 0 ≤ max_number
limits_small zero = omega arith
limits_small (suc zero) = omega arith
limits_small (suc (suc zero)) = omega arith
limits_small (suc (suc (suc zero))) = omega arith
limits_small (suc (suc (suc (suc i)))) = omega arith

-- A row is refused where a value of it is.
pub row_refused : {s : List ℕ} {at next number place : ℕ} (values : List ℕ) → FirstValues value_limits values → PartStands s at (flatten (map spelling values)) next
    → (wrong : ValueRefused s next (get_or value_limits (length values) 0) number place)
    → read_row s at ≡ Err (record { refusal = wrong.kind; place = place })
unfolding read_four
row_refused {s} {at} values first stand wrong = four_refused s at (badly_refused value_limits values at of_four limits_small first stand wrong)

-- From the place `at` on stands a row whose values are in range and whose c is above its d. Its c begins at the place `last`.
pub record HopelessHere (s : List ℕ) (at last : ℕ) : Type 0 where
  pub row : Row
  pub next : ℕ
  pub in_range : WithinLimits row
  pub c_above_d : (row).d < (row).c
  pub before : PartStands s at (spelling (row).x ++ (spelling (row).y ++ spelling (row).d)) last
  pub its_c : PartStands s last (spelling (row).c) next

-- A hopeless row is refused with 16, at the start of its c.
pub hopeless_refused : {s : List ℕ} {at last : ℕ} → HopelessHere s at last → read_row s at ≡ Err (record { refusal = HopelessRow; place = last })
hopeless_refused {s} {at} {last} p =
    let r = p.row in
    let w = p.in_range in
    let x = parted (spelling r.x) (spelling r.y ++ spelling r.d) p.before in
    let y = parted (spelling r.y) (spelling r.d) x.2 in
    simp (
      value_read max_x r.x (omega arith) w.some_x w.most_x x.1,
      value_read max_y r.y (omega arith) w.some_y w.most_y y.1,
      value_read max_d r.d (omega arith) w.some_d w.most_d y.2,
      c_hopeless r.d s last _ (value_read max_c r.c (omega arith) w.some_c w.most_c p.its_c) p.c_above_d,
    )

-- How a row is refused: its values end badly, or it is hopeless.
pub data RowEnds (s : List ℕ) (at : ℕ) : RefusedAt → Type 0 where
  badly : {r : RefusedAt} → EndsBadly value_limits s at r → RowEnds s at r
  hopelessly : {last : ℕ} → HopelessHere s at last → RowEnds s at (record { refusal = HopelessRow; place = last })

-- If the four values of a row are refused, they end badly.
four_end_badly : {s : List ℕ} {at : ℕ} {r : RefusedAt} → Bytes s → at ≤ length s → read_four s at ≡ Err r → RowEnds s at r
unfolding read_four of_four
four_end_badly {s} {at} b inside e = badly (ends_badly value_limits at of_four b inside (λ values next made. impossible cc) e)

-- If a row is refused, its values end badly or it is hopeless.
row_ends : {s : List ℕ} {at : ℕ} {r : RefusedAt} → Bytes s → at ≤ length s → read_row s at ≡ Err r → RowEnds s at r
unfolding read_four from_values of_four
row_ends {s} {at} {r} b inside e =
    by_value (read_value rule_of_x s at) _ e (λ f. four (after_refused _ f)) λ x x_read e_y.
    by_value (read_value rule_of_y s x.next) _ e_y (λ f. four (after_value_lem _ x_read ∙ after_refused _ f)) λ y y_read e_d.
    by_value (read_value rule_of_d s y.next) _ e_d (λ f. four (after_value_lem _ x_read ∙ after_value_lem _ y_read ∙ after_refused _ f)) λ d d_read e_c.
    last x y d x_read y_read d_read (read_value range_of_c s d.next) refl e_c
  where
    four : read_four s at ≡ Err r → RowEnds s at r
    four = four_end_badly b inside

    last : (x y d : Number) → read_value rule_of_x s at ≡ Ok x → read_value rule_of_y s x.next ≡ Ok y
        → read_value rule_of_d s y.next ≡ Ok d → (v : Result Number RefusedAt) → read_value range_of_c s d.next ≡ v
        → after_value (read_value (rule_of_c d.value) s d.next)
        (λ c. Ok (record { row = record { x = x.value; y = y.value; d = d.value; c = c.value }; next = c.next })) ≡ Err r
        → RowEnds s at r
    last x y d x_read y_read d_read (Err q) f g =
        let same : q ≡ r = cc (sym (after_refused _ (c_refused d.value s d.next q f)) ∙ g) in
        four (after_value_lem _ x_read ∙ after_value_lem _ y_read ∙ after_value_lem _ d_read ∙ after_refused _ (f ∙ ap Err same))
    last x y d x_read y_read d_read (Ok c) f g = elim (dec_le c.value d.value) [
      | yes h ↦
          let answered : Result RowAt RefusedAt = Ok (record { row = record { x = x.value; y = y.value; d = d.value; c = c.value }; next = c.next }) in
          let z : answered ≡ Err r =
          sym (after_value_lem _ (c_stands d.value s d.next c f h)) ∙ g
          in
          impossible cc
      | no h ↦
          let above : d.value < c.value = omega arith in
          let is : record { refusal = HopelessRow; place = d.next } ≡ r = cc (sym (after_refused _ (c_hopeless d.value s d.next c f above)) ∙ g) in
          let x_good = good_parts b x_read in
          let y_good = good_parts b y_read in
          let d_good = good_parts b d_read in
          let c_good = good_parts b f in
          rw (← is) (hopelessly (record {
            row = record { x = x.value; y = y.value; d = d.value; c = c.value };
            next = c.next;
            in_range = record {
              some_x = x_good.1;
              most_x = x_good.2;
              some_y = y_good.1;
              most_y = y_good.2;
              some_d = d_good.1;
              most_d = d_good.2;
              some_c = c_good.1;
              most_c = c_good.2;
            };
            c_above_d = above;
            before = joined (spelled_stands x_good.0) (joined (spelled_stands y_good.0) (spelled_stands d_good.0));
            its_c = spelled_stands c_good.0;
          }))
    ]

-- ---- rows

-- From the place `at` on stand fewer than n rows, and the next row is refused.
pub record RowsEndBadly (n : ℕ) (s : List ℕ) (at : ℕ) (r : RefusedAt) : Type 0 where
  pub before : List Row
  pub next : ℕ
  pub fewer : length before < n
  pub stand : RowsStand s at before next
  pub then : RowEnds s next r

-- Rows end badly where the first is refused.
first_ends_badly : {n : ℕ} {s : List ℕ} {at : ℕ} {r : RefusedAt} → RowEnds s at r → RowsEndBadly (suc n) s at r
unfolding flatten
first_ends_badly {at} e = record {
  before = [];
  next = at;
  fewer = omega arith;
  stand = record { acceptable = each_none _; stand = record { here = refl; ends = omega arith } };
  then = e;
}

-- Rows end badly where the first stands and the others end badly.
later_ends_badly : {n : ℕ} {s : List ℕ} {at after : ℕ} {r : RefusedAt} {q : Row} → RowStands s at q after → RowsEndBadly n s after r
    → RowsEndBadly (suc n) s at r
unfolding flatten
later_ends_badly {q} p e = record {
  before = q ∷ e.before;
  next = e.next;
  fewer = omega (arith, e.fewer);
  stand = record { acceptable = Each-cons p.acceptable e.stand.acceptable; stand = joined p.stands e.stand.stand };
  then = e.then;
}

-- If rows with one more in front are refused, the rows after that one are refused in the same way.
behind_front : (q : Row) (v : Rows) {r : RefusedAt} → in_front q v ≡ refused r → v ≡ refused r
behind_front q (rows rs next) e = impossible cc
behind_front q (refused at) e = e

-- Rows that are refused end badly.
pub rows_end_badly : (n : ℕ) {s : List ℕ} (at : ℕ) {r : RefusedAt} → Bytes s → at ≤ length s → read_rows n s at ≡ refused r → RowsEndBadly n s at r
unfolding read_rows
rows_end_badly zero at b inside e = impossible cc
rows_end_badly (suc n) {s} at {r} b inside e = go (read_row s at) refl e (λ next h f. rows_end_badly n next b h f)
  where
    go : (v : Result RowAt RefusedAt) → read_row s at ≡ v → after_row v (λ q after. in_front q (read_rows n s after)) ≡ refused r
        → ((next : ℕ) → next ≤ length s → read_rows n s next ≡ refused r → RowsEndBadly n s next r) → RowsEndBadly (suc n) s at r
    go (Ok q) f g more =
        let one = row_stands at q b f in
        later_ends_badly one (more q.next (ends_inside one.stands inside) (behind_front q.row (read_rows n s q.next) g))
    go (Err q) f g more = let same : q ≡ r = cc in first_ends_badly (row_ends b inside (f ∙ ap Err same))

-- If fewer than n rows stand up to a row that is refused, reading n rows ends in that refusal.
pub rows_refused : (n : ℕ) {s : List ℕ} (at : ℕ) (before : List Row) {mid : ℕ} {r : RefusedAt} → length before < n → RowsStand s at before mid
    → read_row s mid ≡ Err r → read_rows n s at ≡ refused r
unfolding read_rows flatten
rows_refused zero at before fewer p wrong = absurd (omega arith)
rows_refused (suc n) {s} at [] {mid} fewer p wrong =
    let same : mid ≡ at = omega (arith, p.stand.ends) in
    rw (rw same at wrong)
rows_refused (suc n) {s} at (q ∷ before) fewer p wrong =
    let t = parted (spelled_row q) (flatten (map spelled_row before)) p.stand in
    let one = row_read (record { acceptable = each_head p.acceptable; stands = t.1 }) in
    let others = rows_refused n t.0 before (omega arith) (record { acceptable = each_tail p.acceptable; stand = t.2 }) wrong in
    simp (one, others)
