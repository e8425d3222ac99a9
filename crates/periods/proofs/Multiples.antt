-- Laws about common multiples. The search that defines the least common multiple finds the first common multiple, and this one divides every other. In a list
-- of numbers, two may be replaced by their own least common multiple.
use Prim.Native.Nat.{ℕ, zero, suc, ◌+◌, ◌*◌, ◌/◌, ◌%◌, ◌≤◌, ◌<◌, ◌∣◌}
use mathlib.Core.Path.{◌≡◌, refl}
use mathlib.Core.Bool.{Bool, true, false, ◌&&◌}
use mathlib.Core.List.{List, [], ◌∷◌}
use native.Mathlib.Nat.{le_refl, mul-pos, mod-lt, one-dvd, dvd_refl, dvd_trans, dvd_antisymm, dvd-mul_left, dvd-mul_right, dvd-mul_left_of_dvd, dvd-mod_iff, dvd_of_mod-eq-zero, mod-eq-zero_of_dvd, le_of_dvd}
use native.Mathlib.Decide.{dec_le}
use native.Mathlib.Omega.{arith}
use lib.Dec.{eqb}
use borrow.Author.Tests.{eqb-true, eq-eqb}
use Rattle.kinds.proofs.Apart.{impossible}
use Rattle.periods.specs.Multiples.{is_multiple, product, first_multiple, least_common_multiple, IsLeastCommonMultiple, IsGreatestDivisor, PeriodIsLeast}
use Rattle.periods.proofs.Each.{Each, each_none, Each-cons, each_head, each_tail}
use Rattle.periods.proofs.Divisors.{multiple_of_first, divides_least}

-- Where the conjunction of two tests is true, each of the tests is true.
pub both_true : (a b : Bool) → (a && b) ≡ true → (a ≡ true) × (b ≡ true)
both_true true b e = (refl, e)
both_true false b e = (cc, cc)

-- ---- common multiples

-- The number n is a multiple of each of the numbers.
abbrev MultipleOf : List ℕ → (n : ℕ) → Type 0
MultipleOf ys n = Each (λ y. y ∣ n) ys

-- A number that passes the test `is_multiple` is a common multiple.
test_means : (ys : List ℕ) (n : ℕ) → is_multiple ys n ≡ true → MultipleOf ys n
test_means [] n e = each_none _
test_means (y ∷ ys) n e =
    let t = both_true (eqb (n % y) 0) (is_multiple ys n) e in
    Each-cons (dvd_of_mod-eq-zero y (eqb-true (n % y) 0 t.0)) (test_means ys n t.1)

-- Every common multiple passes the test `is_multiple`.
test_finds : (ys : List ℕ) (n : ℕ) → MultipleOf ys n → is_multiple ys n ≡ true
test_finds [] n h = refl
test_finds (y ∷ ys) n h = simp (eq-eqb (n % y) 0 (mod-eq-zero_of_dvd y (each_head h)), test_finds ys n (each_tail h))

-- ---- the search

-- The product of some numbers is a multiple of each of them.
product_multiple : (ys : List ℕ) → MultipleOf ys (product ys)
product_multiple [] = each_none _
product_multiple (y ∷ ys) = Each-cons (dvd-mul_right y (product ys)) (λ k m. dvd-mul_left_of_dvd k (product_multiple ys k m) y)

-- The product of positive numbers is positive.
product_positive : (ys : List ℕ) → Each (λ y. 1 ≤ y) ys → 1 ≤ product ys
product_positive [] h = le_refl 1
product_positive (y ∷ ys) h = mul-pos (each_head h) (product_positive ys (each_tail h))

-- What follows both where a test is true and where it is false holds in any case.
by_test : {G : Type 0} (b : Bool) → (b ≡ true → G) → (b ≡ false → G) → G
by_test true f g = f refl
by_test false f g = g refl

-- The number f is the first common multiple from n on.
record First (ys : List ℕ) (n f : ℕ) : Type 0 where
  from : n ≤ f
  multiple : MultipleOf ys f
  first : (m : ℕ) → n ≤ m → MultipleOf ys m → f ≤ m

-- Where n is no common multiple, every common multiple from n on is above n.
past : (ys : List ℕ) (n : ℕ) → is_multiple ys n ≡ false → (m : ℕ) → n ≤ m → MultipleOf ys m → n + 1 ≤ m
past ys n e m l h = elim (dec_le (n + 1) m) [
  | yes p ↦ p
  | no p ↦
      let same : m ≡ n = omega arith in
      impossible (cc (test_finds ys m h))
]

-- The search finds the first common multiple from n on, where some common multiple m is within its tries.
found : (tries : ℕ) (ys : List ℕ) (n m : ℕ) → MultipleOf ys m → n ≤ m → m < n + tries → First ys n (first_multiple tries ys n)
unfolding first_multiple
found zero ys n m h l k = absurd (omega arith)
found (suc tries) ys n m h l k = by_test (is_multiple ys n)
    (λ e. rw e (record { from = le_refl n; multiple = test_means ys n e; first = λ i p q. p }))
    (λ e.
    let next = found tries ys (n + 1) m h (past ys n e m l h) (omega arith) in
    rw e (record { from = omega (arith, next.from); multiple = next.multiple; first = λ i p q. next.first i (past ys n e i p q) q }))

-- The first positive common multiple divides every other. For the rest of that division is a common multiple below the first one, and hence 0.
first_divides : {ys : List ℕ} {f : ℕ} → First ys 1 f → (m : ℕ) → MultipleOf ys m → f ∣ m
first_divides {ys} {f} a m h =
    let rest : MultipleOf ys (m % f) = λ y k. (dvd-mod_iff y (a.multiple y k)).1 (h y k) in
    dvd_of_mod-eq-zero f
    (elim (dec_le 1 (m % f)) [ yes p ↦ absurd (omega (arith, a.first (m % f) p rest, mod-lt m a.from)) | no p ↦ omega arith ])

-- The search from 1 on finds the least common multiple, since the product is within its tries.
pub period_is_least : PeriodIsLeast
unfolding least_common_multiple
period_is_least ys h =
    let a : First ys 1 (least_common_multiple ys) = found (product ys) ys 1 (product ys) (product_multiple ys) (product_positive ys h) (omega arith) in
    record { positive = a.from; multiple = a.multiple; least = first_divides a }

-- ---- number by number

-- Two lists of numbers that have the same common multiples have the same least common multiple.
same_least : {xs ys : List ℕ} {p : ℕ} → ((n : ℕ) → MultipleOf xs n → MultipleOf ys n) → ((n : ℕ) → MultipleOf ys n → MultipleOf xs n)
    → IsLeastCommonMultiple xs p → IsLeastCommonMultiple ys p
same_least {p = p} to from a = record { positive = a.positive; multiple = to p a.multiple; least = λ m h. a.least m (from m h) }

-- A 1 put in front of some numbers does not change their least common multiple.
pub one_in_front : {ys : List ℕ} {p : ℕ} → IsLeastCommonMultiple ys p → IsLeastCommonMultiple (1 ∷ ys) p
one_in_front = same_least (λ n h. Each-cons (one-dvd n) h) (λ n h. each_tail h)

module _ (a y g : ℕ) (d : IsGreatestDivisor a y g) (some_a : 1 ≤ a) (some_y : 1 ≤ y) where
  -- Where g is the greatest common divisor of a and y, a / g * y divides every common multiple of the two.
  pair_divides : (m : ℕ) → a ∣ m → y ∣ m → a / g * y ∣ m
  pair_divides m p q =
      let l = period_is_least (a ∷ y ∷ []) (Each-cons some_a (Each-cons some_y (each_none _))) in
      let least : (n : ℕ) → a ∣ n → y ∣ n → least_common_multiple (a ∷ y ∷ []) ∣ n = λ n i j. l.least n (Each-cons i (Each-cons j (each_none _))) in
      dvd_trans (a / g * y) (divides_least a y g d _ some_a some_y (each_head l.multiple) (each_head (each_tail l.multiple)) least) (least m p q)

  -- In a list, a and y may be replaced by the one number a / g * y, without changing the least common multiple.
  pub join : {ys : List ℕ} {p : ℕ} → IsLeastCommonMultiple (a ∷ y ∷ ys) p → IsLeastCommonMultiple (a / g * y ∷ ys) p
  join = same_least
      (λ n h. Each-cons (pair_divides n (each_head h) (each_head (each_tail h))) (each_tail (each_tail h)))
      (λ n h.
      Each-cons (dvd_trans a (multiple_of_first a y g d) (each_head h))
      (Each-cons (dvd_trans y (dvd-mul_left y (a / g)) (each_head h)) (each_tail h)))

-- The first number of a list is at most the least common multiple of the list.
pub front_at_most : {y p : ℕ} {ys : List ℕ} → IsLeastCommonMultiple (y ∷ ys) p → y ≤ p
front_at_most a = le_of_dvd a.positive (each_head a.multiple)

-- The least common multiple of a single number is that number.
pub alone : {y p : ℕ} → IsLeastCommonMultiple (y ∷ []) p → p ≡ y
alone {y} a = dvd_antisymm (a.least y (Each-cons (dvd_refl y) (each_none _))) (each_head a.multiple)
