-- The demand that an array holds is in parts: the part for P repeats itself every P, and the rest is below its line. No number of the line is too large.
-- (docs/RULES.md, 5.3 and 5.7.)
use Prim.Native.Nat.{ℕ, zero, suc, ◌+◌, ◌-◌, ◌*◌, ◌/◌, ◌%◌, ◌≤◌, ◌<◌}
use mathlib.Core.Path.{◌≡◌, refl, sym, ◌∙◌}
use mathlib.Core.Logic.{◌≢◌}
use mathlib.Core.List.{List}
use native.Mathlib.Omega.{arith}
use native.Mathlib.Nat.{div-le_self, div-mul-le_self, le_trans, mul-le-mul, mul-le-mul_left, mul-le-mul_right, zero-div}
use native.Mathlib.Numerals.{add-one}
use lib.ListN.{length}
use borrow.Author.Tests.{eq-eqb, ne_eqb}
use Rattle.theory.specs.Ticks.{timer_takes}
use Rattle.theory.specs.Terms.{term_demand, reciprocal}
use Rattle.theory.specs.TermCurves.{term_growth}
use Rattle.theory.specs.Curves.{Curve}
use Rattle.theory.specs.Lines.{line_at}
use Rattle.theory.specs.Descent.{NeverFalls}
use Rattle.theory.specs.Parts.{InParts, taken_into_part, left_out_of_part, part_and_line}
use Rattle.theory.proofs.Cases.{by_eq}
use Rattle.theory.proofs.Curves.{two_curves_add_up, starts_later}
use Rattle.theory.proofs.Timers.{timer_is_a_curve}
use Rattle.theory.proofs.TermCurves.{term_is_a_curve, no_demand_without_weight}
use Rattle.theory.proofs.Parts.{term_in_parts, timer_in_parts, two_in_parts, part_and_line_never_fall}
use Rattle.table.specs.Limits.{max_sources, max_x, max_y, max_c, max_period}
use Rattle.table.specs.Timer.{GoodTimer}
use Rattle.verdict.specs.declared.terms.Terms.{Terms}
use Rattle.verdict.specs.declared.line.Line.{Line}
use Rattle.verdict.specs.declared.parts.Part.{Part}
use Rattle.verdict.specs.HeldTerms.{parts, max_searched, held_entries, held_s, held_p, held_term, sum_below, held_demand, with_term}
use Rattle.verdict.specs.HeldTerms.{GoodTerm, Held}
use Rattle.verdict.specs.HeldParts.{held_w, held_up, held_down, held_b, held_a, held_growth, timer_growth, part_demand, line_slope, line_lift}
use Rattle.verdict.specs.HeldParts.{Repeats, GoodLine, max_over}
use Rattle.verdict.specs.Searched.{held_by, with_line, IsPart}
use Rattle.verdict.proofs.Bounds.{taken_in_period}
use Rattle.verdict.proofs.FilledTerms.{Filled, filled_as, one_more_filled}
use Rattle.verdict.proofs.HeldTerms.{most_term, sum_at_most, sum_not_larger, held_at_most, held_never_falls}

-- ---- what is taken in and what is left out

-- Where b divides P an amount is taken in whole, and nothing of it is left out.
pub all_taken_in : (P b n : ℕ) → P % b ≡ 0 → (taken_into_part P b n ≡ n) × (left_out_of_part P b n ≡ 0)
all_taken_in P b n even = (rw (eq-eqb (P % b) 0 even), rw (eq-eqb (P % b) 0 even))

-- Where b does not divide P nothing of an amount is taken in, and it is left out whole.
pub all_left_out : (P b n : ℕ) → P % b ≢ 0 → (taken_into_part P b n ≡ 0) × (left_out_of_part P b n ≡ n)
all_left_out P b n odd = (rw (ne_eqb (P % b) 0 odd), rw (ne_eqb (P % b) 0 odd))

-- What is taken in of an amount is at most the amount.
taken_in_at_most : (P b n : ℕ) → taken_into_part P b n ≤ n
taken_in_at_most P b n =
    by_eq (P % b) 0 (λ even. omega (arith, (all_taken_in P b n even).0)) (λ odd. omega (arith, (all_left_out P b n odd).0))

-- What is left out of an amount is at most the amount.
left_out_at_most : (P b n : ℕ) → left_out_of_part P b n ≤ n
left_out_at_most P b n =
    by_eq (P % b) 0 (λ even. omega (arith, (all_taken_in P b n even).1)) (λ odd. omega (arith, (all_left_out P b n odd).1))

-- What is left out of a product is at most what is left out of its first factor, times any bound of the second.
left_out_of_product : (P b g up most : ℕ) → up ≤ most → left_out_of_part P b (g * up) ≤ left_out_of_part P b g * most
left_out_of_product P b g up most h = by_eq (P % b) 0
    (λ even. omega (arith, (all_taken_in P b (g * up) even).1))
    (λ odd. rw ((all_left_out P b (g * up) odd).1, (all_left_out P b g odd).1) (mul-le-mul_left g h))

-- A timer of which nothing or all is taken in is still one that a table may have.
pub still_a_timer : (P s p : ℕ) → GoodTimer s p → GoodTimer (taken_into_part P p s) p
still_a_timer P s p good = record {
  some_p = good.some_p;
  most_p = good.most_p;
  s_below_p = omega (arith, good.s_below_p, taken_in_at_most P p s);
}

-- ---- one term more

module _ (l : List ℕ) (P : ℕ) where
  -- Before the first term there is the timer's share.
  pub part_of_none : (L : ℕ) → part_demand l 0 P L ≡ timer_takes (taken_into_part P (held_p l) (held_s l)) (held_p l) L
  unfolding part_demand sum_below
  part_of_none L = omega arith

  -- A term whose b divides P adds its demand to the part.
  pub part_with_it : (i : ℕ) → P % held_b l i ≡ 0 → (L : ℕ) → part_demand l (i + 1) P L ≡ part_demand l i P L + held_term l i L
  unfolding part_demand sum_below
  part_with_it i even L = rw (add-one i, (all_taken_in P (held_b l i) (held_w l i) even).0) (omega arith)

  -- A term whose b does not divide P adds nothing to the part.
  pub part_as_it_was : (i : ℕ) → P % held_b l i ≢ 0 → (L : ℕ) → part_demand l i P L ≡ part_demand l (i + 1) P L
  unfolding part_demand sum_below
  part_as_it_was i odd L =
      rw (add-one i, (all_left_out P (held_b l i) (held_w l i) odd).0)
      (omega (arith, no_demand_without_weight (held_b l i) (held_a l i) (held_up l i) (held_down l i) L))

module _ (l : List ℕ) (P period : ℕ) where
  -- Before the first term there is the timer's share of the slope.
  pub slope_of_none : line_slope l 0 P period ≡ left_out_of_part P (held_p l) (timer_growth l period)
  unfolding line_slope sum_below
  slope_of_none = omega arith

  -- Before the first term there is the timer's share of the lift.
  pub lift_of_none : line_lift l 0 P period ≡ left_out_of_part P (held_p l) (timer_growth l period * (held_p l - held_s l))
  unfolding line_lift sum_below
  lift_of_none = omega arith

  module _ (i : ℕ) (even : P % held_b l i ≡ 0) where
    -- A term whose b divides P adds nothing to the slope.
    pub slope_as_it_was : line_slope l (i + 1) P period ≡ line_slope l i P period
    unfolding line_slope sum_below
    slope_as_it_was = rw (add-one i) (omega (arith, (all_taken_in P (held_b l i) (held_growth l period i) even).1))

    -- A term whose b divides P adds nothing to the lift.
    pub lift_as_it_was : line_lift l (i + 1) P period ≡ line_lift l i P period
    unfolding line_lift sum_below
    lift_as_it_was = rw (add-one i) (omega (arith, (all_taken_in P (held_b l i) (held_growth l period i * held_up l i) even).1))

  module _ (i : ℕ) (odd : P % held_b l i ≢ 0) where
    -- A term whose b does not divide P adds its growth to the slope.
    pub slope_with_it : line_slope l (i + 1) P period ≡ line_slope l i P period + held_growth l period i
    unfolding line_slope sum_below
    slope_with_it = rw (add-one i) (omega (arith, (all_left_out P (held_b l i) (held_growth l period i) odd).1))

    -- A term whose b does not divide P adds its growth times its `up` to the lift.
    pub lift_with_it : line_lift l (i + 1) P period ≡ line_lift l i P period + held_growth l period i * held_up l i
    unfolding line_lift sum_below
    lift_with_it = rw (add-one i) (omega (arith, (all_left_out P (held_b l i) (held_growth l period i * held_up l i) odd).1))

-- ---- filling a part

-- The timer of a part, and no terms yet.
pub timer_of_part_filled : {part : List ℕ} (l : List ℕ) (P : ℕ) → length part ≡ held_entries → Held part 0
    → ((L : ℕ) → held_demand part 0 L ≡ timer_takes (taken_into_part P (held_p l) (held_s l)) (held_p l) L) → Filled part 0 (part_demand l 0 P)
timer_of_part_filled l P long held is = record { as_long = long; held = held; demands = λ L. is L ∙ sym (part_of_none l P L) }

module _ {l : List ℕ} {count : ℕ} (held : Held l count) (P i : ℕ) (there : i < count) (even : P % held_b l i ≡ 0) where
  -- The term with the reciprocal that it is given anew is a good one.
  pub good_anew : GoodTerm (reciprocal parts (held_a l i) (held_b l i)) (held_w l i) (held_up l i) (held_b l i) (held_a l i)
  good_anew =
      let good = held.good i there in
      record {
        some_b = good.some_b;
        most_b = good.most_b;
        a_within_b = good.a_within_b;
        most_w = good.most_w;
        most_up = good.most_up;
        is_reciprocal = refl;
      }

  -- A term whose b divides P is filled in.
  pub term_of_part_filled : {part : List ℕ} {n : ℕ} → n < max_sources → Filled part n (part_demand l i P)
      → Filled (with_term n (held_b l i) (held_a l i) (held_w l i) (held_up l i) (held_down l i) part) (n + 1) (part_demand l (i + 1) P)
  term_of_part_filled room filled =
      filled_as (one_more_filled filled room (held_b l i) (held_a l i) (held_w l i) (held_up l i) (held_down l i) good_anew)
      (λ L. sym (part_with_it l P i even L))

-- ---- bounds

-- No term grows in a period by more than this.
abbrev pub most_growth : ℕ
most_growth = max_period * (max_x * max_c)

-- Where a is at most b, a times the number of times that b is in a period is at most the period.
times_in_period : (period b a : ℕ) → a ≤ b → period / b * a ≤ period
times_in_period period b a h = le_trans (mul-le-mul_left (period / b) h) (div-mul-le_self period b)

module _ {m w up b a : ℕ} (good : GoodTerm m w up b a) {period : ℕ} (most : period ≤ max_period) where
  -- What is multiplied by w is within a bound.
  pub times_at_most : period / b * a ≤ max_period
  times_at_most = le_trans (times_in_period period b a good.a_within_b) most

  -- A term's growth in a period is within its bound.
  pub growth_of_term_at_most : term_growth b a w period ≤ most_growth
  unfolding term_growth
  growth_of_term_at_most = mul-le-mul times_at_most good.most_w

  -- What a term adds to a lift is within a bound.
  pub lift_of_term_at_most : term_growth b a w period * up ≤ most_growth * max_y
  lift_of_term_at_most = mul-le-mul growth_of_term_at_most good.most_up

module _ {l : List ℕ} {count : ℕ} (held : Held l count) {period : ℕ} (most : period ≤ max_period) where
  -- The timer's growth in a period is at most the largest period.
  pub timer_growth_within : timer_growth l period ≤ max_period
  timer_growth_within = omega (arith, taken_in_period (held_s l) (held_p l) held.header.good_timer period)

  -- What the timer adds to a lift is within a bound.
  pub timer_lift_at_most : timer_growth l period * (held_p l - held_s l) ≤ max_period * max_y
  timer_lift_at_most =
      let small : held_p l - held_s l ≤ max_y = omega (arith, held.header.good_timer.most_p) in
      mul-le-mul timer_growth_within small

module _ {l : List ℕ} {count : ℕ} (held : Held l count) (P period : ℕ) where
  -- The slope of the first i terms and the timer is within a bound.
  pub slope_at_most : period ≤ max_period → (i : ℕ) → i ≤ count → line_slope l i P period ≤ (i + 1) * most_growth
  unfolding line_slope
  slope_at_most most i h =
      omega (
        arith,
        timer_growth_within held most,
        left_out_at_most P (held_p l) (timer_growth l period),
        sum_at_most (λ k. left_out_of_part P (held_b l k) (held_growth l period k)) most_growth i
            (λ k b. le_trans (left_out_at_most P (held_b l k) (held_growth l period k)) (growth_of_term_at_most (held.good k (omega arith)) most)),
      )

  -- What the terms that are left out add to the lift is at most what they add to the slope, times the largest `up`.
  lifts_within : (i : ℕ) → i ≤ count
      → sum_below i (λ k. left_out_of_part P (held_b l k) (held_growth l period k * held_up l k)) ≤ sum_below i (λ k. left_out_of_part P (held_b l k) (held_growth l period k)) * max_y
  unfolding sum_below
  lifts_within zero h = omega arith
  lifts_within (suc i) h =
      omega (
        arith,
        lifts_within i (omega arith),
        left_out_of_product P (held_b l i) (held_growth l period i) (held_up l i) max_y (held.good i (omega arith)).most_up,
      )

  -- The lift is at most the slope times the largest `up`.
  pub lift_within : (i : ℕ) → i ≤ count → line_lift l i P period ≤ line_slope l i P period * max_y
  unfolding line_slope line_lift
  lift_within i h =
      omega (
        arith,
        lifts_within i h,
        left_out_of_product P (held_p l) (timer_growth l period) (held_p l - held_s l) max_y (omega (arith, held.header.good_timer.most_p)),
      )

-- ---- the whole demand

module _ {l : List ℕ} {count d period : ℕ} (held : Held l count) (repeats : Repeats l count d period) where
  -- The timer's s is at most its p.
  s_within : held_s l ≤ held_p l
  s_within = omega (arith, held.header.good_timer.s_below_p)

  -- The demand of the first n terms is a curve.
  terms_are_curves : (n : ℕ) → n ≤ count → Curve (λ L. sum_below n (λ i. held_term l i L)) d period (sum_below n (held_growth l period))
  unfolding sum_below
  terms_are_curves zero h = record { monotone = λ L M k. omega arith; repeats = λ L k. omega arith }
  terms_are_curves (suc n) h =
      two_curves_add_up (terms_are_curves n (omega arith))
      (term_is_a_curve (held_b l n) (held_a l n) (held_w l n) (held_up l n) (held_down l n) d period
      (held.good n (omega arith)).some_b (repeats.from_d n (omega arith)) (repeats.b_divides n (omega arith)))

  -- The growth of the demand is the sum of the growths of the terms and of the timer. (5.7)
  growth_is : {growth : ℕ} → Curve (held_demand l count) d period growth → growth ≡ sum_below count (held_growth l period) + timer_growth l period
  unfolding held_demand
  growth_is curve =
      let both = two_curves_add_up (terms_are_curves count (omega arith))
      (starts_later (timer_takes (held_s l) (held_p l)) 0 d period (timer_growth l period) (omega arith)
      (timer_is_a_curve (held_s l) (held_p l) period held.header.good_timer.some_p s_within repeats.p_divides)) in
      omega (arith, curve.repeats d (omega arith), both.repeats d (omega arith))

  module _ (P : ℕ) where
    -- The demand of the first n terms is in parts.
    terms_in_parts : (n : ℕ) → n ≤ count
        → InParts (λ L. sum_below n (λ i. held_term l i L))
        (λ L. sum_below n (λ i. term_demand (held_b l i) (held_a l i) (taken_into_part P (held_b l i) (held_w l i)) (held_up l i) (held_down l i) L)) d P period
        (sum_below n (held_growth l period)) (sum_below n (λ i. left_out_of_part P (held_b l i) (held_growth l period i)))
        (sum_below n (λ i. left_out_of_part P (held_b l i) (held_growth l period i * held_up l i)))
    unfolding sum_below
    terms_in_parts zero h =
        record { part_growth = 0; repeats = λ L k. omega arith; rest_below = λ L. omega arith; in_proportion = omega arith }
    terms_in_parts (suc n) h =
        two_in_parts _ _ _ _ d P period _ _ _ _ _ _ (terms_in_parts n (omega arith))
        (term_in_parts (held_b l n) (held_a l n) (held_w l n) (held_up l n) (held_down l n) d P period
        (held.good n (omega arith)).some_b (repeats.from_d n (omega arith)) (repeats.b_divides n (omega arith)))

    module _ {growth : ℕ} (curve : Curve (held_demand l count) d period growth) where
      -- The demand that the array holds is in parts.
      all_in_parts : InParts (held_demand l count) (part_demand l count P) d P period growth (line_slope l count P period) (line_lift l count P period)
      unfolding held_demand part_demand line_slope line_lift
      all_in_parts =
          rw (growth_is curve)
          (two_in_parts _ _ _ _ d P period _ _ _ _ _ _ (terms_in_parts count (omega arith))
          (timer_in_parts (held_s l) (held_p l) d P period held.header.good_timer.some_p s_within repeats.p_divides))

      -- The slope is at most the growth.
      slope_within : line_slope l count P period ≤ growth
      unfolding line_slope
      slope_within =
          omega (
            arith,
            growth_is curve,
            left_out_at_most P (held_p l) (timer_growth l period),
            sum_not_larger (λ k. left_out_of_part P (held_b l k) (held_growth l period k)) (held_growth l period) count
                (λ k b. left_out_at_most P (held_b l k) (held_growth l period k)),
          )

      -- The line above what is left out has small numbers.
      pub line_is_good : 1 ≤ period → period ≤ max_period → growth ≤ period + max_over
          → GoodLine (line_slope l count P period) (line_lift l count P period) period
      line_is_good some most small = record {
        some_period = some;
        most_slope = omega (arith, slope_within);
        most_lift = lift_within held P period count (omega arith);
      }

      -- With the part that was made the demand is in parts.
      pub made_in_parts : {part : Part} → IsPart l count P period growth part
          → InParts (held_demand l count) (held_by part.terms) d P period growth part.line.slope part.line.lift
      made_in_parts is =
          let all = all_in_parts in
          record {
            part_growth = all.part_growth;
            repeats = λ L h. omega (arith, is.demands L, is.demands (L + P), all.repeats L h);
            rest_below = λ L. rw (is.demands L, is.is_slope, is.is_lift) (all.rest_below L);
            in_proportion = rw is.is_slope all.in_proportion;
          }

-- ---- the height of a line

-- A line without slope has the height 0.
pub flat_line : {slope lift period : ℕ} → GoodLine slope lift period → (L : ℕ) → slope ≡ 0 → line_at period slope lift L ≡ 0
unfolding line_at
flat_line {slope} {lift} {period} good L none =
    let low : lift ≡ 0 = omega (arith, good.most_lift) in
    rw (none, low) (zero_over period L)
  where
    zero_over : (H M : ℕ) → (0 * M + 0) / H ≡ 0
    zero_over H M = let e : 0 * M + 0 ≡ 0 = omega arith in rw e (zero-div H)

-- What is divided by the period is within a bound that 64 bits hold.
pub line_product_at_most : {slope lift period : ℕ} → GoodLine slope lift period → (L : ℕ) → L ≤ max_searched
    → (slope * L ≤ (max_period + max_over) * max_searched) × (lift ≤ (max_period + max_over) * max_y)
line_product_at_most good L looked_at = (mul-le-mul good.most_slope looked_at, le_trans good.most_lift (mul-le-mul_right max_y good.most_slope))

-- No part with its line, in a length that is looked at, is above this.
abbrev pub most_part : ℕ
most_part = max_sources * most_term + max_searched + (max_period + max_over) * (max_searched + max_y) + max_over

module _ (terms : Terms) (line : Line) where
  -- The part and the line together are within a bound.
  pub part_at_most : (L : ℕ) → L ≤ max_searched → with_line terms line L ≤ most_part
  unfolding line_at
  part_at_most L looked_at =
      omega (
        arith,
        line_product_at_most line.good L looked_at,
        div-le_self (line.slope * L + line.lift) line.period,
        line.most_extra,
        held_at_most terms.held terms.count L (omega arith) looked_at,
        terms.held.few,
      )

  -- The part and the line together never fall.
  pub part_never_falls : NeverFalls (part_and_line (held_by terms) line.period line.slope line.lift)
  part_never_falls = part_and_line_never_fall (held_by terms) line.period line.slope line.lift line.good.some_period (held_never_falls terms.held)
