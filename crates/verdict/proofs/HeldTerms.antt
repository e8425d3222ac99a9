-- The demand that an array of terms holds: no step of its sum overflows, it never falls, and a group that is set holds its term. (docs/RULES.md, 5.3.)
use Prim.Native.Nat.{ℕ, zero, suc, ◌+◌, ◌-◌, ◌*◌, ◌/◌, ◌%◌, ◌≤◌, ◌<◌, min}
use mathlib.Core.Path.{◌≡◌, refl}
use mathlib.Core.List.{List}
use native.Mathlib.Omega.{arith}
use native.Mathlib.Nat.{dvd_refl, div-le_of_le-mul, div-mul-le_self, mod-eq-sub-div-mul, mul-le-mul, mul-le-mul_left, mul-le-mul_right}
use native.Mathlib.Numerals.{add-one}
use lib.ListN.{get_or}
use Rattle.theory.specs.Ticks.{timer_takes}
use Rattle.theory.specs.Terms.{term_demand}
use Rattle.theory.specs.Descent.{NeverFalls}
use Rattle.theory.proofs.Demand.{floor_is_monotone}
use Rattle.theory.proofs.Terms.{by_reciprocal}
use Rattle.theory.proofs.Timers.{timer_is_a_curve}
use Rattle.table.specs.Limits.{max_x, max_y, max_c}
use Rattle.table.specs.Timer.{GoodTimer}
use Rattle.verdict.specs.HeldTerms.{parts, max_searched, group_of, held_s, held_p, held_term, sum_below, held_demand}
use Rattle.verdict.specs.HeldTerms.{GoodTerm, GoodHeader, Held}
use Rattle.verdict.proofs.Bounds.{taken_at_most}

-- No v of a term is above this.
abbrev pub most_v : ℕ
most_v = max_searched + max_y

-- No term's demand in a length that is looked at is above this.
abbrev pub most_term : ℕ
most_term = most_v * (max_x * max_c)

-- Where a is at most b, floor(a · v / b) is at most v.
pub quotient_at_most : (a b v : ℕ) → a ≤ b → a * v / b ≤ v
quotient_at_most a b v h = div-le_of_le-mul b (mul-le-mul_right v h)

-- ---- one term

module _ {m w up b a : ℕ} (good : GoodTerm m w up b a) (down L : ℕ) (looked_at : L ≤ max_searched) where
  -- The v of the term is within its bound.
  v_at_most : L + up - down ≤ most_v
  v_at_most = omega (arith, good.most_up)

  -- The product with the reciprocal gives the quotient.
  same_quotient : (L + up - down) * m / parts ≡ a * (L + up - down) / b
  same_quotient =
      let few : (L + up - down) * b < parts = omega (arith, mul-le-mul v_at_most good.most_b) in
      rw good.is_reciprocal (by_reciprocal parts a b (L + up - down) good.some_b few)

  -- The term's demand is within its bound.
  pub term_at_most : term_demand b a w up down L ≤ most_term
  unfolding term_demand
  term_at_most =
      let q : a * (L + up - down) / b ≤ most_v = omega (arith, quotient_at_most a b (L + up - down) good.a_within_b, v_at_most) in
      mul-le-mul q good.most_w

  module _ {v : ℕ} (is : v ≡ L + up - down) where
    -- The product with the reciprocal is within a bound that 64 bits hold.
    pub product_at_most : v * m ≤ most_v * (parts + 1)
    product_at_most =
        let small : m ≤ parts + 1 = omega (arith, good.is_reciprocal, quotient_at_most a b parts good.a_within_b) in
        rw is (mul-le-mul v_at_most small)

    -- The product with the reciprocal gives the term's demand.
    pub term_by_reciprocal : v * m / parts * w ≡ term_demand b a w up down L
    unfolding term_demand
    term_by_reciprocal = rw (is, same_quotient) refl

-- A term's demand never falls.
term_never_falls : {m w up b a : ℕ} → GoodTerm m w up b a → (down : ℕ) → NeverFalls (term_demand b a w up down)
unfolding term_demand
term_never_falls {m} {w} {up} {b} {a} good down L M h =
    mul-le-mul_right w
    (floor_is_monotone (a * (L + up - down)) (a * (M + up - down)) b good.some_b (mul-le-mul_left a (omega arith)))

-- ---- the timer

module _ {l : List ℕ} (header : GoodHeader l) (L : ℕ) (looked_at : L ≤ max_searched) where
  -- The product with the reciprocal of p is within a bound that 64 bits hold.
  pub timer_product_at_most : L * get_or l 2 0 ≤ max_searched * (parts + 1)
  timer_product_at_most =
      let small : get_or l 2 0 ≤ parts + 1 = omega (arith, header.is_reciprocal, quotient_at_most 1 (held_p l) parts header.good_timer.some_p) in
      mul-le-mul looked_at small

  -- The product with the reciprocal of p gives the whole periods.
  whole_periods : L * get_or l 2 0 / parts ≡ L / held_p l
  whole_periods =
      let few : L * held_p l < parts = omega (arith, mul-le-mul looked_at header.good_timer.most_p) in
      let e : 1 * L ≡ L = omega arith in
      rw header.is_reciprocal (rw e at (by_reciprocal parts 1 (held_p l) L header.good_timer.some_p few))

  -- The whole periods are within the length.
  pub whole_within : L * get_or l 2 0 / parts * held_p l ≤ L
  whole_within = rw whole_periods (div-mul-le_self L (held_p l))

  -- What is left after the whole periods is the rest.
  pub rest_of_it : L - L * get_or l 2 0 / parts * held_p l ≡ L % held_p l
  rest_of_it = rw whole_periods (omega (arith, mod-eq-sub-div-mul L (held_p l)))

  -- The ticks that the timer takes are those of the whole periods and at most s of the rest.
  pub taken_by_reciprocal : L * get_or l 2 0 / parts * held_s l + min (held_s l) (L % held_p l) ≡ timer_takes (held_s l) (held_p l) L
  taken_by_reciprocal = rw whole_periods refl

-- The ticks that a timer takes never get fewer.
taken_never_falls : (s p : ℕ) → GoodTimer s p → NeverFalls (timer_takes s p)
taken_never_falls s p good = (timer_is_a_curve s p p good.some_p (omega (arith, good.s_below_p)) (dvd_refl p)).monotone

-- ---- all terms

-- A sum of weights within a bound is at most their number times that bound.
pub sum_at_most : (w : ℕ → ℕ) (most n : ℕ) → ((i : ℕ) → i < n → w i ≤ most) → sum_below n w ≤ n * most
unfolding sum_below
sum_at_most w most zero small = omega arith
sum_at_most w most (suc n) small = omega (arith, small n (omega arith), sum_at_most w most n (λ i h. small i (omega arith)))

-- Where no weight is larger, the sum is not.
pub sum_not_larger : (v w : ℕ → ℕ) (n : ℕ) → ((i : ℕ) → i < n → v i ≤ w i) → sum_below n v ≤ sum_below n w
unfolding sum_below
sum_not_larger v w zero each = omega arith
sum_not_larger v w (suc n) each = omega (arith, each n (omega arith), sum_not_larger v w n (λ i h. each i (omega arith)))

-- Before the first term there are the ticks that the timer takes.
pub no_terms : (l : List ℕ) (L : ℕ) → held_demand l 0 L ≡ timer_takes (held_s l) (held_p l) L
unfolding held_demand sum_below
no_terms l L = omega arith

-- One term more adds its demand.
pub one_term_more : (l : List ℕ) (n L : ℕ) → held_demand l (n + 1) L ≡ held_demand l n L + held_term l n L
unfolding held_demand sum_below
one_term_more l n L = rw (add-one n) (omega arith)

module _ {l : List ℕ} {count : ℕ} (held : Held l count) where
  -- The demand that the first i terms and the timer hold is within a bound.
  pub held_at_most : (i L : ℕ) → i ≤ count → L ≤ max_searched → held_demand l i L ≤ i * most_term + max_searched
  unfolding held_demand
  held_at_most i L h looked_at =
      omega (
        arith,
        taken_at_most (held_s l) (held_p l) held.header.good_timer L,
        sum_at_most (λ k. held_term l k L) most_term i (λ k b. term_at_most (held.good k (omega arith)) (get_or l (group_of k + 3) 0) L looked_at),
      )

  -- The demand that is held never falls.
  pub held_never_falls : NeverFalls (held_demand l count)
  unfolding held_demand
  held_never_falls L M h =
      omega (
        arith,
        taken_never_falls (held_s l) (held_p l) held.header.good_timer L M h,
        sum_not_larger (λ k. held_term l k L) (λ k. held_term l k M) count
            (λ k b. term_never_falls (held.good k b) (get_or l (group_of k + 3) 0) L M h),
      )
