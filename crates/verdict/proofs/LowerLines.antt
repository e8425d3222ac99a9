-- Lower lines above what a part leaves out. What is left out repeats itself every Q, higher by as much as the line rises in Q. So a line that is above it in
-- the lengths below d + Q is above it in every length. (docs/RULES.md, 5.3 and 5.7.)
use Prim.Native.Nat.{ℕ, zero, suc, ◌+◌, ◌-◌, ◌*◌, ◌/◌, ◌%◌, ◌≤◌, ◌<◌, ◌∣◌, max}
use mathlib.Core.Path.{◌≡◌, ap}
use mathlib.Core.Logic.{◌≢◌}
use mathlib.Core.List.{List}
use native.Mathlib.Omega.{arith}
use native.Mathlib.Nat.{mul-le-mul_left}
use Rattle.theory.specs.Ticks.{timer_takes}
use Rattle.theory.specs.Terms.{term_demand}
use Rattle.theory.specs.TermCurves.{term_growth}
use Rattle.theory.specs.Parts.{InParts, taken_into_part, left_out_of_part}
use Rattle.theory.proofs.Cases.{by_lt, by_eq}
use Rattle.theory.proofs.Timers.{no_timer}
use Rattle.theory.proofs.TermCurves.{no_demand_without_weight}
use Rattle.theory.proofs.Parts.{term_taken_in, timer_taken_in}
use Rattle.verdict.specs.HeldTerms.{held_s, held_p, held_term, sum_below, held_demand, Held}
use Rattle.verdict.specs.HeldParts.{held_w, held_up, held_down, held_b, held_a, held_growth, part_demand, line_slope}
use Rattle.verdict.specs.HeldParts.{Repeats, GoodLine, LeftOutRepeats, LineAbove, LowerLift}
use Rattle.verdict.proofs.HeldParts.{all_taken_in, all_left_out}

-- ---- products

-- Where H · f is at most H · part and s together, H times the rest is at most s.
pub product_of_rest : (H f part rest s : ℕ) → rest ≡ f - part → H * f ≤ H * part + s → H * rest ≤ s
product_of_rest H f part rest s is h = by_lt part f
    (λ more.
    let whole : rest + part ≡ f = omega arith in
    let all : H * (rest + part) ≡ H * f = ap (λ (n : ℕ). H * n) whole in
    omega arith)
    (λ none. let e : rest ≡ 0 = omega arith in rw e (omega arith))

-- Where H times the rest is at most s and m together, H · f is at most H · part, s and m together.
pub product_of_whole : (H f part rest s m : ℕ) → rest ≡ f - part → H * rest ≤ s + m → H * f ≤ H * part + (s + m)
product_of_whole H f part rest s m is h =
    let whole : f ≤ rest + part = omega arith in
    omega (arith, mul-le-mul_left H whole)

-- ---- one length more

module _ {f part : ℕ → ℕ} {H slope lift at most : ℕ} (lower : LowerLift f part H slope lift at most) (line : LineAbove f part H slope lift)
    {rest above : ℕ} (is_rest : rest ≡ f at - part at) (is_above : above ≡ H * rest - slope * at) where
  -- The height that is found in a length is at most the lift.
  above_at_most : above ≤ lift
  above_at_most = omega (arith, product_of_rest H (f at) (part at) rest (slope * at + lift) is_rest (line at))

  -- With the larger of two lifts the line is above what is left out in one length more.
  pub one_more_below : {r : ℕ} → most ≤ r → above ≤ r → r ≤ lift → LowerLift f part H slope lift (at + 1) r
  one_more_below {r} so_far here within = record {
    at_most = within;
    above = λ L h. by_lt L at
        (λ before. omega (arith, lower.above L before))
        (λ same. let e : L ≡ at = omega arith in rw e (product_of_whole H (f at) (part at) rest (slope * at) r is_rest (omega arith)));
  }

  -- The lift is the larger of the two.
  pub larger_lift : {r : ℕ} → r ≡ max most above → LowerLift f part H slope lift (at + 1) r
  larger_lift is = one_more_below (omega arith) (omega arith) (omega (arith, above_at_most, lower.at_most))

-- ---- what is left out

-- What a part leaves out of f repeats itself every Q from the start on. It is higher then by what a line of this slope rises by in Q.
pub record RestRepeats (f part : ℕ → ℕ) (start Q H slope : ℕ) : Type 0 where
  pub rest_growth : ℕ
  pub again : (L : ℕ) → start ≤ L → f (L + Q) + part L ≡ f L + part (L + Q) + rest_growth
  pub in_proportion : slope * Q ≡ rest_growth * H

-- What is left out of two functions adds up.
two_rests : {f g part part' : ℕ → ℕ} {start Q H slope slope' : ℕ} → RestRepeats f part start Q H slope → RestRepeats g part' start Q H slope'
    → RestRepeats (λ L. f L + g L) (λ L. part L + part' L) start Q H (slope + slope')
two_rests one other = record {
  rest_growth = one.rest_growth + other.rest_growth;
  again = λ L h. omega (arith, one.again L h, other.again L h);
  in_proportion = omega (arith, one.in_proportion, other.in_proportion);
}

-- Nothing is left out of f where the part is f.
no_rest : {f : ℕ → ℕ} {start Q H : ℕ} → RestRepeats f f start Q H 0
no_rest = record { rest_growth = 0; again = λ L h. omega arith; in_proportion = omega arith }

-- What is left out of a term repeats itself.
term_rest : (b a w up down start P Q H : ℕ) → 1 ≤ b → down ≤ start + up → b ∣ H → (P % b ≢ 0 → b ∣ Q)
    → RestRepeats (term_demand b a w up down) (term_demand b a (taken_into_part P b w) up down) start Q H (left_out_of_part P b (term_growth b a w H))
term_rest b a w up down start P Q H some from whole divides =
    let g = term_growth b a w H in
    by_eq (P % b) 0
    (λ even. rw ((all_taken_in P b w even).0, (all_taken_in P b g even).1) no_rest)
    (λ odd.
    let t = term_taken_in b a w up down start Q H some from (divides odd) whole in
    rw ((all_left_out P b w odd).0, (all_left_out P b g odd).1)
    (record {
      rest_growth = t.part_growth;
      again = λ L h. omega (arith, t.repeats L h, no_demand_without_weight b a up down L, no_demand_without_weight b a up down (L + Q));
      in_proportion = omega (arith, t.in_proportion);
    }))

-- What is left out of the timer repeats itself.
timer_rest : (s p start P Q H : ℕ) → 1 ≤ p → s ≤ p → p ∣ H → (P % p ≢ 0 → p ∣ Q)
    → RestRepeats (timer_takes s p) (timer_takes (taken_into_part P p s) p) start Q H (left_out_of_part P p (s * (H / p)))
timer_rest s p start P Q H some most whole divides =
    let g = s * (H / p) in
    by_eq (P % p) 0
    (λ even. rw ((all_taken_in P p s even).0, (all_taken_in P p g even).1) no_rest)
    (λ odd.
    let t = timer_taken_in s p start Q H some most (divides odd) whole in
    rw ((all_left_out P p s odd).0, (all_left_out P p g odd).1)
    (record {
      rest_growth = t.part_growth;
      again = λ L h. omega (arith, t.repeats L h, (no_timer p).1 L, (no_timer p).1 (L + Q));
      in_proportion = omega (arith, t.in_proportion);
    }))

module _ {l : List ℕ} {count d period : ℕ} (held : Held l count) (repeats : Repeats l count d period) (P Q : ℕ) (left_out : LeftOutRepeats l count P Q) where
  -- What is left out of the first n terms repeats itself.
  terms_rest : (n : ℕ) → n ≤ count
      → RestRepeats (λ L. sum_below n (λ i. held_term l i L))
      (λ L. sum_below n (λ i. term_demand (held_b l i) (held_a l i) (taken_into_part P (held_b l i) (held_w l i)) (held_up l i) (held_down l i) L)) d Q period
      (sum_below n (λ i. left_out_of_part P (held_b l i) (held_growth l period i)))
  unfolding sum_below
  terms_rest zero h = record { rest_growth = 0; again = λ L k. omega arith; in_proportion = omega arith }
  terms_rest (suc n) h =
      two_rests (terms_rest n (omega arith))
      (term_rest (held_b l n) (held_a l n) (held_w l n) (held_up l n) (held_down l n) d P Q period (held.good n (omega arith)).some_b
      (repeats.from_d n (omega arith)) (repeats.b_divides n (omega arith)) (left_out.b_divides n (omega arith)))

  -- What is left out of the demand that the array holds repeats itself.
  all_rest : RestRepeats (held_demand l count) (part_demand l count P) d Q period (line_slope l count P period)
  unfolding held_demand part_demand line_slope
  all_rest =
      two_rests (terms_rest count (omega arith))
      (timer_rest (held_s l) (held_p l) d P Q period held.header.good_timer.some_p (omega (arith, held.header.good_timer.s_below_p))
      repeats.p_divides left_out.p_divides)

-- ---- every length

module _ {f part : ℕ → ℕ} {start Q H slope : ℕ} (lift : ℕ) (rest : RestRepeats f part start Q H slope) (some : 1 ≤ Q)
    (first : (L : ℕ) → L < start + Q → H * f L ≤ H * part L + (slope * L + lift)) where
  -- A line that is above what is left out in M is above it in M + Q.
  one_turn_on : (M : ℕ) → start ≤ M → H * f M ≤ H * part M + (slope * M + lift) → H * f (M + Q) ≤ H * part (M + Q) + (slope * (M + Q) + lift)
  one_turn_on M from below =
      let g = rest.rest_growth in
      let all : H * (f (M + Q) + part M) ≡ H * (f M + part (M + Q) + g) = ap (λ (n : ℕ). H * n) (rest.again M from) in
      omega (arith, rest.in_proportion)

  -- It is above it in the lengths of the first n turns and before them.
  in_turns : (n L : ℕ) → L < start + Q + n * Q → H * f L ≤ H * part L + (slope * L + lift)
  in_turns zero L h = first L (omega arith)
  in_turns (suc n) L h = by_lt L (start + Q)
      (λ early. first L early)
      (λ later.
      let e : L ≡ L - Q + Q = omega arith in
      rw e (one_turn_on (L - Q) (omega arith) (in_turns n (L - Q) (omega arith))))

  -- So it is above it in every length.
  pub in_every_length : LineAbove f part H slope lift
  in_every_length L = in_turns L L (omega (arith, mul-le-mul_left L some))

-- The line with the lower lift is above what is left out in every length, where it is above it in the lengths below d + Q.
module _ {l : List ℕ} {count d period : ℕ} (held : Held l count) (repeats : Repeats l count d period) (P Q : ℕ) (part : List ℕ) (size : ℕ) where
  pub lower_line_above : {slope lift : ℕ} (r : ℕ) → LeftOutRepeats l count P Q → 1 ≤ Q → ((L : ℕ) → held_demand part size L ≡ part_demand l count P L)
      → slope ≡ line_slope l count P period → LowerLift (held_demand l count) (held_demand part size) period slope lift (d + Q) r
      → LineAbove (held_demand l count) (held_demand part size) period slope r
  lower_line_above {slope} r left_out some demands is_slope lower =
      let all = all_rest held repeats P Q left_out in
      let rest : RestRepeats (held_demand l count) (held_demand part size) d Q period slope =
      record {
        rest_growth = all.rest_growth;
        again = λ L h. omega (arith, demands L, demands (L + Q), all.again L h);
        in_proportion = rw is_slope all.in_proportion;
      } in
      in_every_length r rest some lower.above

-- ---- the line in use

-- A line with a lower lift still has small numbers.
pub lower_good_line : {slope lift period r : ℕ} → GoodLine slope lift period → r ≤ lift → GoodLine slope r period
lower_good_line good low = record { some_period = good.some_period; most_slope = good.most_slope; most_lift = omega (arith, good.most_lift) }

-- With a lower lift f is in parts as before.
pub lower_in_parts : {f part : ℕ → ℕ} {start P H growth slope lift : ℕ} (r : ℕ) → InParts f part start P H growth slope lift → LineAbove f part H slope r
    → InParts f part start P H growth slope r
lower_in_parts r parts above =
    record { part_growth = parts.part_growth; repeats = parts.repeats; rest_below = above; in_proportion = parts.in_proportion }
