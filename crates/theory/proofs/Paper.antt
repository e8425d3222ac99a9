-- The proof that the expression of the paper's Lemma 4.1 equals a row's demand. Where L ≥ d, floor((L − d + y)/y) is floor((L − d)/y) + 1. Where L < d,
-- L − d + y is below y, so that the floor is 0 or negative, and the paper's f makes both 0.
use Prim.Native.Nat.{ℕ, zero, suc, ◌+◌, ◌-◌, ◌*◌, ◌/◌, ◌%◌, ◌≤◌, ◌<◌}
use mathlib.Core.Path.{◌≡◌, ap}
use native.Mathlib.Omega.{arith}
use native.Mathlib.Nat.{add-div_right, div-add-mod', div-eq_of_lt, mod-lt}
use borrow.Author.Tests.{lt-ltb, le-ltb}
use lib.IntN.{pos, negsuc, neg_ℤ, ◌-ℤ◌, +ℤ_comm}
use Rattle.theory.specs.Paper.{paper_demand, FloorIsFloor, DemandIsLemma41}
use Rattle.theory.proofs.Cases.{by_lt}
use Rattle.theory.proofs.Demand.{no_demand_below_d, demand_from_d}

-- Where b is at most a, the integer a − b is the natural number a − b.
not_negative : (a b : ℕ) → b ≤ a → pos a -ℤ pos b ≡ pos (a - b)
not_negative a zero h = ap pos (omega arith)
not_negative a (suc b) h = rw (le-ltb a (suc b) h)

-- Where a is below b, the integer a − b is negative: it is −((b − (a + 1)) + 1).
negative : (a b : ℕ) → a < b → pos a -ℤ pos b ≡ negsuc (b - suc a)
negative a zero h = absurd (omega arith)
negative a (suc b) h = rw (lt-ltb a (suc b) h)

-- `floor_div` is the floor. For a negative number, the rest is its distance from the multiple of y at or below it.
pub floor_is_floor : FloorIsFloor
floor_is_floor (pos n) y p = (n % y, mod-lt n p, ap pos (omega (arith, div-add-mod' n y)))
floor_is_floor (negsuc n) y p =
    let below : n % y < y = mod-lt n p in
    let parts : n / y * y + n % y ≡ n = div-add-mod' n y in
    let rest = y - suc (n % y) in
    let whole = suc (n / y) * y in
    (rest, omega arith, rw (+ℤ_comm (neg_ℤ (pos whole)) (pos rest), negative rest whole (omega arith)) (ap negsuc (omega arith)))

-- Where L ≥ d, the floor in the paper's expression is floor((L − d)/y) + 1.
paper_from_d : (x y d c L : ℕ) → 1 ≤ y → d ≤ L → paper_demand x y d c L ≡ ((L - d) / y + 1) * (x * c)
unfolding paper_demand
paper_from_d x y d c L p h = rw (not_negative L d h, add-div_right (L - d) p)

-- Where L < d, the paper's expression is 0.
paper_below_d : (x y d c L : ℕ) → L < d → paper_demand x y d c L ≡ 0
unfolding paper_demand
paper_below_d x y d c L h =
    let missing = suc (d - suc L) in
    by_lt y missing
    (λ k. rw (negative L d h, negative y missing k) (omega arith))
    (λ k. rw (negative L d h, not_negative y missing k, div-eq_of_lt {n = y - missing} {m = y} (omega arith)) (omega arith))

-- A row's demand equals the paper's expression.
pub demand_is_lemma41 : DemandIsLemma41
demand_is_lemma41 x y d c L p = by_lt L d
    (λ h. rw (no_demand_below_d x y d c L h, paper_below_d x y d c L h))
    (λ h. rw (demand_from_d x y d c L h, paper_from_d x y d c L p h) (omega arith))
