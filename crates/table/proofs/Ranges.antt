-- The rules for a row's values: what they say about one value, and what about a row. (docs/RULES.md, section 3.)
use Prim.Native.Nat.{ℕ, ◌≤◌, ◌<◌}
use mathlib.Core.Path.{◌≡◌, refl, sym, ◌∙◌}
use mathlib.Core.Bool.{Bool, true, false, not, cond, ◌&&◌}
use mathlib.Core.Option.{Option, none, some}
use lib.Dec.{leb, ltb}
use borrow.Author.Tests.{not-true, leb-true, le-leb, lt-ltb, le-ltb, ltb-true, ltb-false}
use Rattle.kinds.specs.declared.Refusal.{Refusal}
use Rattle.kinds.specs.declared.Refusal.TheVariants.{ValueOutOfRange, HopelessRow}
pub use Rattle.periods.proofs.Multiples.{both_true}
use Rattle.table.specs.declared.Row.{Row}
use Rattle.table.specs.Limits.{max_x, max_y, max_d, max_c}
use Rattle.table.specs.Rows.{within_limit, fine, rule_of_x, rule_of_y, rule_of_d, range_of_c, within_its_d, after_range, rule_of_c, row_in_range, hopeless}
use Rattle.table.specs.SpelledTables.{WithinLimits}
use Rattle.table.specs.TableLaws.{HopelessMeans, AcceptableMeans}

-- ---- a value

-- If a value is fine, its rule gives no refusal.
pub nothing_wrong : (o : Option Refusal) → fine o ≡ true → o ≡ none
nothing_wrong none e = refl
nothing_wrong (some r) e = cc

-- If a rule refuses exactly where a test fails, it is fine exactly where the test holds.
pub fine_where : (t : Bool) (r : Refusal) → fine (cond t none (some r)) ≡ t
fine_where true r = refl
fine_where false r = refl

-- If a rule refuses exactly where a test fails, and it is not fine, it gives its refusal.
refused_where : (t : Bool) (r : Refusal) → fine (cond t none (some r)) ≡ false → cond t none (some r) ≡ some r
refused_where true r e = cc
refused_where false r e = refl

-- A value is fine exactly when both tests of its range hold.
pub fine_within : (most v : ℕ) → fine (within_limit most v) ≡ (leb 1 v && leb v most)
fine_within most v = fine_where (leb 1 v && leb v most) ValueOutOfRange

-- A value that is fine is from 1 to its limit.
pub fine_limits : (most v : ℕ) → fine (within_limit most v) ≡ true → (1 ≤ v) × (v ≤ most)
fine_limits most v e =
    let t = both_true (leb 1 v) (leb v most) (sym (fine_within most v) ∙ e) in
    (leb-true 1 v t.0, leb-true v most t.1)

-- A value from 1 to its limit is fine.
pub within_fine : (most v : ℕ) → 1 ≤ v → v ≤ most → fine (within_limit most v) ≡ true
within_fine most v l h = simp (le-leb 1 v l, le-leb v most h)

-- A value that is not fine is refused as out of range.
pub out_of_range : (most v : ℕ) → fine (within_limit most v) ≡ false → within_limit most v ≡ some ValueOutOfRange
out_of_range most v e = refused_where (leb 1 v && leb v most) ValueOutOfRange e

-- ---- a c, whose rule looks at d

-- A value that is fine by a range and the test after it is fine by both.
both_fine : (o next : Option Refusal) → fine (after_range o next) ≡ true → (fine o ≡ true) × (fine next ≡ true)
both_fine none next e = (refl, e)
both_fine (some r) next e = (cc, cc)

-- A test that refuses exactly where it holds is fine exactly where it does not hold.
fine_unless : (t : Bool) (r : Refusal) → fine (cond t (some r) none) ≡ true → t ≡ false
fine_unless true r e = cc
fine_unless false r e = refl

-- A c that is fine by its rule is in its own range, and at most d.
pub fine_c : (d c : ℕ) → fine (rule_of_c d c) ≡ true → (fine (range_of_c c) ≡ true) × (c ≤ d)
fine_c d c e =
    let t = both_fine (range_of_c c) (within_its_d d c) e in
    (t.0, ltb-false d c (fine_unless (ltb d c) HopelessRow t.1))

-- A c of at most d passes the test against d.
pub within_d : (d c : ℕ) → c ≤ d → within_its_d d c ≡ none
within_d d c h = rw (le-ltb d c h)

-- A c above d does not.
pub above_d : (d c : ℕ) → d < c → within_its_d d c ≡ some HopelessRow
above_d d c h = rw (lt-ltb d c h)

pub hopeless_means : HopelessMeans
hopeless_means r = (ltb-true r.d r.c, lt-ltb r.d r.c)

-- ---- a row

-- A row in range is within its limits.
pub limits_of : (r : Row) → row_in_range r ≡ true → WithinLimits r
limits_of r e =
    let c = both_true (fine (rule_of_x r.x) && fine (rule_of_y r.y) && fine (rule_of_d r.d)) (fine (range_of_c r.c)) e in
    let d = both_true (fine (rule_of_x r.x) && fine (rule_of_y r.y)) (fine (rule_of_d r.d)) c.0 in
    let y = both_true (fine (rule_of_x r.x)) (fine (rule_of_y r.y)) d.0 in
    let x_within = fine_limits max_x r.x y.0 in
    let y_within = fine_limits max_y r.y y.1 in
    let d_within = fine_limits max_d r.d d.1 in
    let c_within = fine_limits max_c r.c c.1 in
    record {
      some_x = x_within.0;
      most_x = x_within.1;
      some_y = y_within.0;
      most_y = y_within.1;
      some_d = d_within.0;
      most_d = d_within.1;
      some_c = c_within.0;
      most_c = c_within.1;
    }

-- A row within its limits is in range.
pub in_range_of : (r : Row) → WithinLimits r → row_in_range r ≡ true
in_range_of r w = simp (
  within_fine max_x r.x w.some_x w.most_x,
  within_fine max_y r.y w.some_y w.most_y,
  within_fine max_d r.d w.some_d w.most_d,
  within_fine max_c r.c w.some_c w.most_c,
)

-- A row with a c of at most its d is not hopeless.
not_hopeless : (r : Row) → r.c ≤ r.d → not (hopeless r) ≡ true
not_hopeless r h = rw (le-ltb r.d r.c h)

pub acceptable_means : AcceptableMeans
acceptable_means r = (
  λ e. let t = both_true (row_in_range r) (not (hopeless r)) e in
      record { within_limits = limits_of r t.0; c_within_d = ltb-false r.d r.c (not-true _ t.1) },
  λ a. simp (in_range_of r a.within_limits, not_hopeless r a.c_within_d),
)
