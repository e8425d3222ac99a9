-- Blocks of rises: a term's steps are counted one after another, and a block of counted rises adds up to the demand. (docs/RULES.md, 5.3.)
use Prim.Native.Nat.{ℕ, zero, suc, ◌+◌, ◌-◌, ◌*◌, ◌/◌, ◌%◌, ◌≤◌, ◌<◌}
use mathlib.Core.Path.{◌≡◌, sym, ap, ◌∙◌}
use mathlib.Core.Logic.{◌≢◌}
use mathlib.Core.List.{List}
use native.Mathlib.Omega.{arith}
use native.Mathlib.Nat.{div-le_of_le-mul, dvd_refl, le-div_iff_mul-le, mul-le-mul, mul-le-mul_left, mul-le-mul_right, zero-div}
use native.Mathlib.Numerals.{add-one}
use lib.ListN.{length, get_or, set, length-set}
use lib.Seq.{get_or-set_same, get_or-set_other}
use Rattle.theory.specs.Ticks.{timer_takes}
use Rattle.theory.specs.Terms.{term_demand}
use Rattle.theory.specs.Servers.{ticks_for, server_demand}
use Rattle.theory.specs.Descent.{NeverFalls}
use Rattle.theory.specs.Steps.{rise_at, rise_below, RisesNext, ServerStep}
use Rattle.theory.proofs.Cases.{by_lt, by_eq}
use Rattle.theory.proofs.Demand.{floor_is_monotone}
use Rattle.theory.proofs.Timers.{timer_is_a_curve}
use Rattle.theory.proofs.Steps.{added_up, two_rise, same_step_from_later, none_counted, step_counted, counts_elsewhere_stay, all_counted}
use Rattle.theory.proofs.Servers.{rounded_up}
use Rattle.theory.proofs.Steps.{server_step_after, server_steps_on, server_steps_on_later, timer_rises, timer_is_level}
use Rattle.table.specs.Limits.{max_b}
use Rattle.table.specs.Timer.{GoodTimer}
use Rattle.verdict.specs.HeldTerms.{max_searched, group_of, held_s, held_p, held_term, sum_below, held_demand, GoodTerm, GoodAt, Held}
use Rattle.verdict.specs.Blocks.{block_size, terms_demand, RisesOf}
use Rattle.verdict.proofs.HeldTerms.{most_v, most_term, held_at_most}

-- ---- the demand of the terms

-- One term more adds its demand.
one_more : (l : List ℕ) (n L : ℕ) → terms_demand l (n + 1) L ≡ terms_demand l n L + held_term l n L
unfolding terms_demand sum_below
one_more l n L = rw (add-one n) (omega arith)

-- The demand of a good term never falls.
pub term_never_falls : (l : List ℕ) (i : ℕ) → GoodAt l i → NeverFalls (held_term l i)
unfolding term_demand
term_never_falls l i good L M h =
    let at = group_of i in
    let a = get_or l (at + 5) 0 in
    let up = get_or l (at + 2) 0 in
    let down = get_or l (at + 3) 0 in
    mul-le-mul_right (get_or l (at + 1) 0)
    (floor_is_monotone (a * (L + up - down)) (a * (M + up - down)) (get_or l (at + 4) 0) good.some_b (mul-le-mul_left a (omega arith)))

-- The demand of some good terms never falls.
pub terms_never_fall : (l : List ℕ) (n : ℕ) → ((i : ℕ) → i < n → GoodAt l i) → NeverFalls (terms_demand l n)
unfolding terms_demand sum_below
terms_never_fall l zero good L M h = omega arith
terms_never_fall l (suc n) good L M h =
    omega (arith, term_never_falls l n (good n (omega arith)) L M h, terms_never_fall l n (λ i k. good i (omega arith)) L M h)

-- What f rises by at a length is no more than f is there.
rise_at_most : (f : ℕ → ℕ) (L : ℕ) → rise_at f L ≤ f L
unfolding rise_at
rise_at_most f L = omega arith

-- What the demand of the first i terms rises by is within a bound.
pub rise_within : {l : List ℕ} {count : ℕ} → Held l count → (i L : ℕ) → i ≤ count → L ≤ max_searched → rise_at (terms_demand l i) L ≤ i * most_term + max_searched
unfolding held_demand terms_demand
rise_within {l} held i L h looked_at = omega (arith, rise_at_most (terms_demand l i) L, held_at_most held i L h looked_at)

-- ---- counting the steps of one function beside the rises of another

-- Each entry has the rise of f, and that of g where it is below `next`.
pub record Counting (f g : ℕ → ℕ) (base size next : ℕ) (rises : List ℕ) : Type 0 where
  pub as_long : length rises ≡ block_size
  pub each : (k : ℕ) → k < size → get_or rises k 0 ≡ rise_at f (base + k) + rise_below g next (base + k)

module _ {f g : ℕ → ℕ} {base size : ℕ} where
  -- Until the first step no rise of g is counted.
  pub none_yet : {rise next : ℕ} {rises : List ℕ} → 1 ≤ base → RisesOf f base size rises → RisesNext g rise (base - 1) next
      → Counting f g base size next rises
  none_yet {rise} {next} some so_far step = record {
    as_long = so_far.as_long;
    each = λ k h. omega (arith, so_far.each k h, none_counted g rise (base - 1) next (base + k) step (omega arith));
  }

  -- Where the next step of an entry is its own, no rise of g is counted in it.
  pub not_counted : {rise L k : ℕ} {rises : List ℕ} → Counting f g base size (base + k) rises → k < size → RisesNext g rise L (base + k)
      → get_or rises k 0 ≡ rise_at f (base + k)
  not_counted {rise} {L} {k} so_far h step =
      omega (arith, so_far.each k h, none_counted g rise L (base + k) (base + k) step step.after)

  -- The next step is counted.
  pub one_counted : {rise L k rise' next : ℕ} {rises : List ℕ} → size ≤ block_size → Counting f g base size (base + k) rises → k < size
      → RisesNext g rise L (base + k) → RisesNext g rise' (base + k) next → Counting f g base size next (set rises k (get_or rises k 0 + rise))
  one_counted {rise} {L} {k} {rise'} {next} {rises} most so_far h step step' = record {
    as_long = length-set rises k (get_or rises k 0 + rise) ∙ so_far.as_long;
    each = λ j below. by_eq j k
        (λ here.
        rw here
        (get_or-set_same rises k (get_or rises k 0 + rise) 0 (omega (arith, so_far.as_long))
        ∙ omega (arith, not_counted so_far h step, (step_counted g rise L (base + k) rise' next step step').1)))
        (λ there.
        get_or-set_other rises k j (get_or rises k 0 + rise) 0 there
        ∙ so_far.each j below
        ∙ ap (λ (n : ℕ). rise_at f (base + j) + n) (sym (counts_elsewhere_stay g rise' (base + k) next (base + j) step' (λ e. there (omega (arith, e))))));
  }

-- ---- zeros, and the steps of one term after another

-- No terms rise nowhere.
pub no_terms_yet : (l rises : List ℕ) {base size : ℕ} → length rises ≡ block_size → ((j : ℕ) → j < size → get_or rises j 0 ≡ 0)
    → RisesOf (terms_demand l 0) base size rises
unfolding rise_at terms_demand sum_below
no_terms_yet l rises long zeros = record { as_long = long; each = λ k h. omega (arith, zeros k h) }

-- When the next step is after the block, all rises are counted.
pub all_of_them : {l : List ℕ} {count i base size k : ℕ} {rises : List ℕ} → Held l count → i < count → size ≤ k
    → Counting (terms_demand l i) (held_term l i) base size (base + k) rises → RisesOf (terms_demand l (i + 1)) base size rises
unfolding rise_at
all_of_them {l} {count} {i} {base} {size} {k} held h past so_far = record {
  as_long = so_far.as_long;
  each = λ j below.
      let L = base + j in
      omega (
        arith,
        so_far.each j below,
        all_counted (held_term l i) (base + k) L (omega arith),
        two_rise (terms_demand l i) (held_term l i) L (terms_never_fall l i (λ m b. held.good m (omega arith))) (term_never_falls l i (held.good i h)),
        one_more l i L,
        one_more l i (L - 1),
      );
}

-- Where a term has no demand at all up to the end of the block, nothing is to be added.
pub no_step : (l : List ℕ) (i : ℕ) {base size : ℕ} {rises : List ℕ} → ((L : ℕ) → L < base + size → held_term l i L ≡ 0)
    → RisesOf (terms_demand l i) base size rises → RisesOf (terms_demand l (i + 1)) base size rises
unfolding rise_at
no_step l i {base} {size} none so_far = record {
  as_long = so_far.as_long;
  each = λ j below.
      let L = base + j in
      omega (arith, so_far.each j below, one_more l i L, one_more l i (L - 1), none L (omega arith), none (L - 1) (omega arith));
}

-- ---- the steps of a term

-- A server's step is also the next one from the length just before it.
step_from_just_before : {a b L next rem : ℕ} → ServerStep a b L next rem → ServerStep a b (next - 1) next rem
step_from_just_before {a} {b} {L} {next} s =
    let after : L < next = s.step.after in
    record {
      number = s.number;
      here = s.here;
      rest = s.rest;
      step = same_step_from_later (server_demand a b) 1 L (next - 1) next s.step (omega arith) (omega arith);
    }

-- A term has a step at `next`, where a · v is `rem` above a multiple of b.
abbrev pub StepAt : (b a up down next rem : ℕ) → Type 0
StepAt b a up down next rem = ServerStep a b (next + up - down - 1) (next + up - down) rem

module _ (b a w up down : ℕ) where
  -- A term rises by w where the server with the same a and b rises at the term's v.
  rises_at_v : (L next : ℕ) → RisesNext (server_demand a b) 1 (L + up - down) (next + up - down) → RisesNext (term_demand b a w up down) w L next
  unfolding term_demand server_demand
  rises_at_v L next step =
      let after : L + up - down < next + up - down = step.after in
      record {
        after = omega arith;
        level = λ M h k. ap (λ (n : ℕ). n * w) (step.level (M + up - down) (omega arith) (omega arith));
        rises = omega (arith, ap (λ (n : ℕ). n * w) step.rises);
      }

  -- A term's step is the next one from the length just before it.
  pub at_the_step : {next rem : ℕ} → 1 ≤ next → StepAt b a up down next rem → RisesNext (term_demand b a w up down) w (next - 1) next
  at_the_step {next} {rem} some s =
      let after : next + up - down - 1 < next + up - down = s.step.after in
      let e : next - 1 + up - down ≡ next + up - down - 1 = omega arith in
      rises_at_v (next - 1) next (rw e s.step)

  -- Where the remainder is b mod a or more, the next step is b/a later.
  pub soon : {next rem : ℕ} → a ≤ b → StepAt b a up down next rem → b % a ≤ rem
      → StepAt b a up down (next + b / a) (rem - b % a) × RisesNext (term_demand b a w up down) w next (next + b / a)
  soon {next} {rem} within s enough =
      let after : next + up - down - 1 < next + up - down = s.step.after in
      let e : next + b / a + up - down ≡ next + up - down + b / a = omega arith in
      let on = server_steps_on a b (next + up - down - 1) (next + up - down) rem within s enough in
      (rw e (step_from_just_before on), rises_at_v next (next + b / a) (rw e on.step))

  -- Where the remainder is below b mod a, the next step is b/a + 1 later.
  pub later : {next rem : ℕ} → a ≤ b → StepAt b a up down next rem → rem < b % a
      → StepAt b a up down (next + (b / a + 1)) (rem + (a - b % a)) × RisesNext (term_demand b a w up down) w next (next + (b / a + 1))
  later {next} {rem} within s few =
      let after : next + up - down - 1 < next + up - down = s.step.after in
      let e : next + (b / a + 1) + up - down ≡ next + up - down + (b / a + 1) = omega arith in
      let on = server_steps_on_later a b (next + up - down - 1) (next + up - down) rem within s few in
      (rw e (step_from_just_before on), rises_at_v next (next + (b / a + 1)) (rw e on.step))

  -- The first step of the term from `base` on.
  pub first_step : {base number first : ℕ} → 1 ≤ base → 1 ≤ a → a ≤ b → number ≡ a * (base - 1 + up - down) / b + 1 → first ≡ (number * b + (a - 1)) / a
      → (base + up ≤ first + down) × (number * b ≤ a * first) × (a * first < number * b + a)
      × StepAt b a up down (first + down - up) (a * first - number * b) × RisesNext (term_demand b a w up down) w (base - 1) (first + down - up)
  unfolding ticks_for
  first_step {base} {number} {first} some pa within is is' =
      let s = server_step_after a b (base - 1 + up - down) number first pa within is is' in
      let after : base - 1 + up - down < first = s.step.after in
      let e : first + down - up + up - down ≡ first = omega arith in
      let bounds : (number * b ≤ a * first) × (a * first < number * b + a) = rw is' (rounded_up a b number pa) in (
        omega arith,
        bounds.0,
        bounds.1,
        rw e (step_from_just_before s),
        rises_at_v (base - 1) (first + down - up) (rw e s.step),
      )

-- ---- the demand of the timer beside that of the terms

-- What the timer rises by at a length is 1 where the tick before it is taken, and otherwise 0.
timer_rise : (s p L rest t : ℕ) → GoodTimer s p → 1 ≤ L → rest ≡ (L - 1) % p → (rest < s → t ≡ 1) × (s ≤ rest → t ≡ 0) → rise_at (timer_takes s p) L ≡ t
timer_rise s p L rest t good long is says = by_lt rest s
    (λ taken. timer_rises s p L good.some_p (omega (arith, good.s_below_p)) long (omega arith) ∙ sym (says.0 taken))
    (λ free. timer_is_level s p L good.some_p (omega (arith, good.s_below_p)) (omega arith) ∙ sym (says.1 free))

module _ {l : List ℕ} {count : ℕ} (held : Held l count) {base size : ℕ} {rises : List ℕ} (filled : RisesOf (terms_demand l count) base size rises)
    (some : 1 ≤ base) where
  -- The sum is the demand in one length more.
  pub added_one : (k sum rest t : ℕ) → k < size → sum ≡ held_demand l count (base + k - 1) → rest ≡ (base + k - 1) % held_p l
      → (rest < held_s l → t ≡ 1) × (held_s l ≤ rest → t ≡ 0) → sum + (get_or rises k 0 + t) ≡ held_demand l count (base + k)
  unfolding held_demand terms_demand
  added_one k sum rest t below is is' says =
      let L = base + k in
      let good = held.header.good_timer in
      let s = held_s l in
      let p = held_p l in
      omega (
        arith,
        filled.each k below,
        timer_rise s p L rest t good (omega arith) is' says,
        added_up (terms_demand l count) L (terms_never_fall l count held.good),
        added_up (timer_takes s p) L (timer_is_a_curve s p p good.some_p (omega (arith, good.s_below_p)) (dvd_refl p)).monotone,
      )

-- ---- what a term's first step and gaps are at most

-- A product that is not 0 has two factors that are not.
pub both_some : (m n : ℕ) → m * n ≢ 0 → (1 ≤ m) × (1 ≤ n)
both_some zero n h = absurd (h (omega arith))
both_some (suc m) zero h = absurd (h (omega arith))
both_some (suc m) (suc n) h = (omega arith, omega arith)

-- Where a is at most b, b/a is at least 1.
pub gap_some : (a b : ℕ) → 1 ≤ a → a ≤ b → 1 ≤ b / a
gap_some a b pa within = (le-div_iff_mul-le pa).1 (omega arith)

module _ {m w up b a : ℕ} (good : GoodTerm m w up b a) (v : ℕ) (within : v ≤ most_v + 1) where
  -- The product of a and v is within a bound.
  pub product_within : a * v ≤ max_b * (most_v + 1)
  product_within = let small : a ≤ max_b = omega (arith, good.a_within_b, good.most_b) in mul-le-mul small within

  -- The number of the next step is within a bound.
  pub number_within : a * v / b + 1 ≤ most_v + 2
  number_within =
      let few : a * v / b ≤ v = div-le_of_le-mul b (mul-le-mul_right v good.a_within_b) in
      omega arith

  -- So is its product with b.
  pub steps_within : (a * v / b + 1) * b ≤ (most_v + 2) * max_b
  steps_within = mul-le-mul number_within good.most_b

-- Where a · v is 0 at the end of a block, the term has no demand before it.
pub no_demand : (b a w up down L v : ℕ) → L + up - down ≤ v → a * v ≡ 0 → term_demand b a w up down L ≡ 0
unfolding term_demand
no_demand b a w up down L v h none =
    let z : a * (L + up - down) ≡ 0 = omega (arith, mul-le-mul_left a h) in
    rw (z, zero-div b) (omega arith)

-- What is left of a block gets less by a gap and one more.
pub nearer_by_more : (size k gap : ℕ) → k < size → size - (k + (gap + 1)) < size - k
nearer_by_more size k gap h = omega arith

-- What is left of a block gets less by a gap that is not 0.
pub nearer : (size k gap : ℕ) → k < size → 1 ≤ gap → size - (k + gap) < size - k
nearer size k gap h some = omega arith
