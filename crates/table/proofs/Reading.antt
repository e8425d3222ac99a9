-- How a table is read, step by step: a value, a row of four values, and the rows after their count. (docs/RULES.md, section 3.)
use Rattle.std.specs.Prelude.{Result, Ok, Err}
use Prim.Native.Nat.{ℕ, suc, ◌+◌, ◌-◌, ◌≤◌, ◌<◌}
use mathlib.Core.Path.{◌≡◌, refl, sym, ap, ◌∙◌}
use mathlib.Core.Bool.{true}
use mathlib.Core.Option.{Option, none, some}
use mathlib.Core.List.{List, [], ◌∷◌, ◌++◌}
use native.Mathlib.Numerals.{add-one}
use native.Mathlib.Omega.{arith}
use lib.ListN.{length, take, drop, set, replicate, length-replicate, length-set, take-append-drop}
use lib.Seq.{length-take-le, take-suc-set, drop-set-lt, drop-drop}
use borrow.Author.Tests.{le-leb}
use Rattle.kinds.specs.declared.Refusal.{Refusal}
use Rattle.kinds.specs.declared.Refusal.TheVariants.{HopelessRow}
use Rattle.kinds.specs.declared.RefusedAt.{RefusedAt}
use Rattle.kinds.proofs.Apart.{impossible}
use Rattle.numbers.specs.declared.Number.{Number}
use Rattle.numbers.specs.Reading.{read_at}
use Rattle.table.specs.declared.Row.{Row}
use Rattle.table.specs.declared.RowAt.{RowAt}
use Rattle.table.specs.Limits.{max_rows}
use Rattle.table.specs.Rows.{rule_of_x, rule_of_y, rule_of_d, range_of_c, within_its_d, after_range, rule_of_c, fine, row_in_range, tested_at}
use Rattle.table.specs.Rows.{tested, read_value, after_value, read_row}
use Rattle.table.specs.Tables.{no_row, held_rows, Rows, rows, refused, in_front, read_rows, rows_from, held_as}
use Rattle.table.proofs.Ranges.{nothing_wrong, fine_c, within_d, above_d}

-- ---- a value

-- The number n is read at the place `at`, and it is fine by the rule.
pub record ValueAt (rule : ℕ → Option Refusal) (s : List ℕ) (at : ℕ) (n : Number) : Type 0 where
  pub reads : read_at s at ≡ Ok n
  pub is_fine : fine (rule n.value) ≡ true

-- A number that is fine by its rule is answered as the value.
pub value_stands : (rule : ℕ → Option Refusal) (s : List ℕ) (at : ℕ) (n : Number) → ValueAt rule s at n → read_value rule s at ≡ Ok n
value_stands rule s at n p = rw (p.reads, nothing_wrong (rule n.value) p.is_fine)

-- A number that passes the test of its rule is fine by that rule.
pub tested_fine : (rule : ℕ → Option Refusal) (at : ℕ) (v : Result Number RefusedAt) (n : Number) → tested rule at v ≡ Ok n → fine (rule n.value) ≡ true
tested_fine rule at (Ok m) n e = by_rule (rule m.value) refl e
  where
    by_rule : (o : Option Refusal) → rule m.value ≡ o → tested_at at o m ≡ Ok n → fine (rule n.value) ≡ true
    by_rule none f g = let same : m ≡ n = cc in rw (← same, f)
    by_rule (some r) f g = impossible cc
tested_fine rule at (Err r) n e = impossible cc

-- ---- a c, whose rule looks at d after its own range was tested

-- A number that passed the first test goes on to the second.
second_test : (rule next : ℕ → Option Refusal) (at : ℕ) (v : Result Number RefusedAt) (n : Number) → tested rule at v ≡ Ok n
    → tested (λ c. after_range (rule c) (next c)) at v ≡ tested_at at (next n.value) n
second_test rule next at (Ok m) n e = by_rule (rule m.value) e
  where
    by_rule : (o : Option Refusal) → tested_at at o m ≡ Ok n → tested_at at (after_range o (next m.value)) m ≡ tested_at at (next n.value) n
    by_rule none f = let same : m ≡ n = cc in rw same
    by_rule (some r) f = impossible cc
second_test rule next at (Err r) n e = impossible cc

-- A number that the first test refuses stays refused.
first_test : (rule next : ℕ → Option Refusal) (at : ℕ) (v : Result Number RefusedAt) (r : RefusedAt) → tested rule at v ≡ Err r
    → tested (λ c. after_range (rule c) (next c)) at v ≡ Err r
first_test rule next at (Ok m) r e = by_rule (rule m.value) e
  where
    by_rule : (o : Option Refusal) → tested_at at o m ≡ Err r → tested_at at (after_range o (next m.value)) m ≡ Err r
    by_rule none f = impossible cc
    by_rule (some q) f = f
first_test rule next at (Err q) r e = e

module _ (d : ℕ) (s : List ℕ) (at : ℕ) where
  -- A c in its range that is at most d is answered.
  pub c_stands : (n : Number) → read_value range_of_c s at ≡ Ok n → n.value ≤ d → read_value (rule_of_c d) s at ≡ Ok n
  c_stands n e h = second_test range_of_c (within_its_d d) at (read_at s at) n e ∙ rw (within_d d n.value h)

  -- A c in its range that is above d is refused with 16, at its start.
  pub c_hopeless : (n : Number) → read_value range_of_c s at ≡ Ok n → d < n.value
      → read_value (rule_of_c d) s at ≡ Err (record { refusal = HopelessRow; place = at })
  c_hopeless n e h = second_test range_of_c (within_its_d d) at (read_at s at) n e ∙ rw (above_d d n.value h)

  -- A c that can't be read or is out of its range is refused so.
  pub c_refused : (r : RefusedAt) → read_value range_of_c s at ≡ Err r → read_value (rule_of_c d) s at ≡ Err r
  c_refused r e = first_test range_of_c (within_its_d d) at (read_at s at) r e

-- ---- a row

-- After a value that was read the row goes on.
pub after_value_lem : {v : Result Number RefusedAt} {n : Number} (k : Number → Result RowAt RefusedAt) → v ≡ Ok n → after_value v k ≡ k n
after_value_lem k e = rw e

-- A refusal ends the row.
pub after_refused : {v : Result Number RefusedAt} {r : RefusedAt} (k : Number → Result RowAt RefusedAt) → v ≡ Err r → after_value v k ≡ Err r
after_refused k e = rw e

-- If a row is read past a number, that number was fine.
fine_before : (at : ℕ) (o : Option Refusal) (n : Number) (k : Number → Result RowAt RefusedAt) (r : RowAt) → after_value (tested_at at o n) k ≡ Ok r
    → (fine o ≡ true) × (k n ≡ Ok r)
fine_before at none n k r e = (refl, e)
fine_before at (some f) n k r e = (cc, cc)

-- If a row is read past a place, a number that is fine stood there.
pub value_before : (rule : ℕ → Option Refusal) (s : List ℕ) (at : ℕ) (v : Result Number RefusedAt) (k : Number → Result RowAt RefusedAt) (r : RowAt)
    → read_at s at ≡ v → after_value (tested rule at v) k ≡ Ok r → (n : Number) × ValueAt rule s at n × (k n ≡ Ok r)
value_before rule s at (Ok n) k r q e =
    let p = fine_before at (rule n.value) n k r e in
    (n, record { reads = q; is_fine = p.0 }, p.1)
value_before rule s at (Err a) k r q e = impossible cc

-- The row r is made of four values, which stand one after another from the place `at` on.
pub record FourValues (s : List ℕ) (at : ℕ) (r : RowAt) : Type 0 where
  pub x : Number
  pub y : Number
  pub d : Number
  pub c : Number
  pub x_stands : ValueAt rule_of_x s at x
  pub y_stands : ValueAt rule_of_y s x.next y
  pub d_stands : ValueAt rule_of_d s y.next d
  pub c_stands : ValueAt (rule_of_c d.value) s d.next c
  pub made_of_them : r ≡ record { row = record { x = x.value; y = y.value; d = d.value; c = c.value }; next = c.next }

-- A row that was read is made of four values.
pub four_values : (s : List ℕ) (at : ℕ) (r : RowAt) → read_row s at ≡ Ok r → FourValues s at r
four_values s at r e =
    let x = value_before rule_of_x s at _ _ _ refl e in
    let y = value_before rule_of_y s x.0.next _ _ _ refl x.2 in
    let d = value_before rule_of_d s y.0.next _ _ _ refl y.2 in
    let c = value_before (rule_of_c d.0.value) s d.0.next _ _ _ refl d.2 in
    record {
      x = x.0;
      y = y.0;
      d = d.0;
      c = c.0;
      x_stands = x.1;
      y_stands = y.1;
      d_stands = d.1;
      c_stands = c.1;
      made_of_them = cc;
    }

-- A row that is made of four such values is in range.
pub row_is_in_range : {s : List ℕ} {at : ℕ} {r : RowAt} → FourValues s at r → row_in_range r.row ≡ true
row_is_in_range p =
    let c = fine_c p.d.value p.c.value p.c_stands.is_fine in
    rw (p.made_of_them, p.x_stands.is_fine, p.y_stands.is_fine, p.d_stands.is_fine, c.0)

-- Its c is at most its d.
pub row_not_hopeless : {s : List ℕ} {at : ℕ} {r : RowAt} → FourValues s at r → r.row.c ≤ r.row.d
row_not_hopeless p = rw p.made_of_them (fine_c p.d.value p.c.value p.c_stands.is_fine).1

-- ---- rows

-- `all_in_front` puts rows in front of the rows that were read after them.
pub all_in_front : List Row → Rows → Rows
all_in_front [] rest = rest
all_in_front (r ∷ rs) rest = in_front r (all_in_front rs rest)

-- Adding a row at the end of the rows in front is the same as putting it in front of the rest.
one_more_in_front : (rs : List Row) (r : Row) (rest : Rows) → all_in_front (rs ++ (r ∷ [])) rest ≡ all_in_front rs (in_front r rest)
unfolding all_in_front
one_more_in_front [] r rest = refl
one_more_in_front (q ∷ rs) r rest = ap (in_front q) (one_more_in_front rs r rest)

-- If no rows are read after the rows in front, these are all the rows.
all_the_rows : (rs : List Row) (at : ℕ) → all_in_front rs (rows [] at) ≡ rows rs at
unfolding all_in_front
all_the_rows [] at = refl
all_the_rows (r ∷ rs) at = ap (in_front r) (all_the_rows rs at)

-- If what comes after the rows in front is refused, the whole is refused.
rows_refused : (rs : List Row) (at : RefusedAt) → all_in_front rs (refused at) ≡ refused at
unfolding all_in_front
rows_refused [] at = refl
rows_refused (r ∷ rs) at = ap (in_front r) (rows_refused rs at)

-- If the next row is read, it stands in front of the rows after it.
next_row : (left : ℕ) (s : List ℕ) (at : ℕ) (r : RowAt) → read_row s at ≡ Ok r
    → read_rows (suc left) s at ≡ in_front r.row (read_rows left s r.next)
unfolding read_rows
next_row left s at r e = rw e

-- If the next row is refused, the rows are refused so.
next_refused : (left : ℕ) (s : List ℕ) (at : ℕ) (r : RefusedAt) → read_row s at ≡ Err r → read_rows (suc left) s at ≡ refused r
unfolding read_rows
next_refused left s at r e = rw e

-- With no row left to read, the rows end here.
no_more : (s : List ℕ) (at : ℕ) → read_rows 0 s at ≡ rows [] at
unfolding read_rows
no_more s at = refl

-- ---- rows after their count

-- i of n rows are read, up to the place `at`. They are the first of those held, and the others are unused. The answer is that of these rows in front of what is
-- read from here on.
pub record ReadSoFar (s : List ℕ) (from n : ℕ) (held : List Row) (at i : ℕ) : Type 0 where
  pub not_past : i ≤ n
  pub few_rows : n ≤ max_rows
  pub all_places : length held ≡ max_rows
  pub unused : drop i held ≡ replicate (max_rows - i) no_row
  pub answers : rows_from s from ≡ all_in_front (take i held) (read_rows (n - i) s at)

-- At first only the count is read.
pub none_read : (s : List ℕ) (from : ℕ) (n : Number) → read_at s from ≡ Ok n → n.value ≤ max_rows
    → ReadSoFar s from n.value (held_rows []) n.next 0
unfolding all_in_front
none_read s from n e few =
    let all : n.value - 0 ≡ n.value = omega arith in
    record {
      not_past = omega arith;
      few_rows = few;
      all_places = length-replicate max_rows no_row;
      unused = refl;
      answers = rw (e, le-leb n.value max_rows few, all);
    }

-- After one more element is stored, those after it are still unused.
pub unused_more : {A : Type 0} (room : ℕ) (fill : A) (held : List A) (i : ℕ) (a : A) → i < room → drop i held ≡ replicate (room - i) fill
    → drop (i + 1) (set held i a) ≡ replicate (room - (i + 1)) fill
unused_more room fill held i a h e =
    let left : room - i ≡ suc (room - (i + 1)) = omega arith in
    drop-set-lt (i + 1) held i a (omega arith) ∙ sym (drop-drop 1 i held) ∙ rw (e, left)

module _ {s : List ℕ} {from n : ℕ} {held : List Row} {at i : ℕ} (p : ReadSoFar s from n held at i) where
  -- If row i is read, one more row is held.
  pub row_more : (r : RowAt) → i < n → read_row s at ≡ Ok r → ReadSoFar s from n (set held i r.row) r.next (i + 1)
  row_more r h e =
      let room : i < max_rows = omega (arith, p.few_rows) in
      let left : n - i ≡ suc (n - (i + 1)) = omega arith in
      let now_first = take-suc-set held i r.row (omega (arith, p.all_places)) in
      record {
        not_past = omega arith;
        few_rows = p.few_rows;
        all_places = length-set held i r.row ∙ p.all_places;
        unused = unused_more max_rows no_row held i r.row room p.unused;
        answers = p.answers ∙ rw (left, next_row (n - (i + 1)) s at r e, add-one, now_first, one_more_in_front);
      }

  -- If row i is refused, the rows are refused so.
  pub row_refused : (r : RefusedAt) → i < n → read_row s at ≡ Err r → held_as (refused r) ≡ held_as (rows_from s from)
  row_refused r h e =
      let left : n - i ≡ suc (n - (i + 1)) = omega arith in
      let gone : rows_from s from ≡ refused r = p.answers ∙ rw (left, next_refused (n - (i + 1)) s at r e, rows_refused) in
      rw gone

  -- When all n rows are read, the code holds exactly these rows.
  pub all_read : n ≤ i → Ok (record { rows = held; count = n; next = at }) ≡ held_as (rows_from s from)
  all_read end =
      let left : n - i ≡ 0 = omega arith in
      let same : i ≡ n = omega (arith, p.not_past) in
      let long : length (take i held) ≡ i = length-take-le i held (omega (arith, p.few_rows, p.all_places)) in
      let all : rows_from s from ≡ rows (take i held) at = p.answers ∙ rw (left, no_more, all_the_rows) in
      sym (rw (all, long, ← p.unused, take-append-drop, same))
