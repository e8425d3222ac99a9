-- The proofs about classes of lengths. k periods of P after c the part is higher by k times its growth in P, and the line by k · P times its slope. Both grow
-- together by `growth` in H, so that H · f(c + k · P) is at most H · part(c) + slope · c + lift + k · P · growth. Here growth is at most H + K, and k · P is at
-- most H. So k · P · growth is at most H · (k · P + K), and f(c + k · P) is below part(c) + line(c) + 1 + K + k · P.
use Prim.Native.Nat.{ℕ, zero, suc, ◌+◌, ◌-◌, ◌*◌, ◌/◌, ◌%◌, ◌≤◌, ◌<◌}
use mathlib.Core.Path.{◌≡◌, ap}
use native.Mathlib.Omega.{arith}
use native.Mathlib.Nat.{add-mul-mod_self_right, div-add-mod', lt-div-mul-add, lt_of_mul-lt-mul_left, mod-eq_of_lt, mod-lt, mul-le-mul_left, mul-le-mul_right}
use Rattle.theory.specs.Lines.{line_at}
use Rattle.theory.specs.Parts.{InParts}
use Rattle.theory.specs.Classes.{class_of, turn_of, InClass, ClassFits, ClassOfASumFits, FitsBelowItsLine, EachInItsClass, OneClassOnly}
use Rattle.theory.specs.Classes.{NothingToSettle, SettledByLooks, SettledByAWalk, AllSettled, NoneFound, BestIsSmallest}
use Rattle.theory.specs.Classes.{WalkStarts, WalkGoesOn, WalkFinds, WalkEnds}
use Rattle.theory.proofs.Cases.{by_lt, by_eq}

-- ---- one class

-- k periods of P after c the part is higher by k times its growth.
part_repeats : {f part : ℕ → ℕ} {start P H growth slope lift : ℕ} (parts : InParts f part start P H growth slope lift) (c k : ℕ) → start ≤ c
    → part (c + k * P) ≡ part c + k * parts.part_growth
part_repeats {P = P} parts c zero h = let here : c + 0 * P ≡ c = omega arith in rw here (omega arith)
part_repeats {P = P} parts c (suc k) h =
    let here : c + suc k * P ≡ c + k * P + P = omega arith in
    rw here (omega (arith, parts.repeats (c + k * P) (omega arith), part_repeats parts c k h))

pub class_fits : ClassFits
unfolding line_at
class_fits f part start P H growth slope lift K c k parts some grows from looked turns =
    let g = parts.part_growth in
    let q = (slope * c + lift) / H in
    let there = c + k * P in
    let below : H * f there ≤ H * part there + (slope * there + lift) = parts.rest_below there in
    let part_there : H * part there ≡ H * (part c + k * g) = ap (λ (n : ℕ). H * n) (part_repeats parts c k from) in
    let proportion : k * (growth * P) ≡ k * (g * H + slope * P) = ap (λ (n : ℕ). k * n) parts.in_proportion in
    let line : slope * c + lift < q * H + H = lt-div-mul-add some in
    let growth_in : k * P * growth ≤ k * P * (H + K) = mul-le-mul_left (k * P) grows in
    let spare : k * P * K ≤ H * K = mul-le-mul_right K turns in
    let fits : H * (part c + q + K) ≤ H * c = mul-le-mul_left H looked in
    let near : f there < there + 1 = lt_of_mul-lt-mul_left H (omega arith) in
    omega arith

pub class_of_a_sum_fits : ClassOfASumFits
unfolding line_at
class_of_a_sum_fits f part rest start P H part_growth growth slope lift K c k split repeats below proportion some grows from looked turns =
    let parts : InParts f part start P H growth slope lift = record {
      part_growth = part_growth;
      repeats = repeats;
      rest_below = λ L. omega (arith, ap (λ (n : ℕ). H * n) (split L), below L);
      in_proportion = proportion;
    } in
    class_fits f part start P H growth slope lift K c k parts some grows from looked turns

pub fits_below_its_line : FitsBelowItsLine
fits_below_its_line f H slope lift L below slow low =
    let near : f L < L + 1 = lt_of_mul-lt-mul_left H (omega (arith, below L, mul-le-mul_right L slow)) in
    omega arith

-- ---- all classes

pub each_in_its_class : EachInItsClass
each_in_its_class start P H L some above at_most =
    let i = L - (start + 1) in
    let parts : i / P * P + i % P ≡ i = div-add-mod' i P in
    let below : i % P < P = mod-lt i some in
    record { here = omega arith; above = omega arith; at_most = omega arith; turns = omega arith }

pub one_class_only : OneClassOnly
one_class_only start P c k above at_most =
    let i = c - (start + 1) in
    let moved : c + k * P - (start + 1) ≡ i + k * P = omega arith in
    let below : i < P = omega arith in
    rw (moved, add-mul-mod_self_right i k P, mod-eq_of_lt below) (omega arith)

pub nothing_to_settle : NothingToSettle
nothing_to_settle f start P H best some L above at_most sooner outside =
    let none : class_of start P L ≤ start + P = (each_in_its_class start P H L some above at_most).at_most in
    absurd (omega arith)

pub settled_by_looks : SettledByLooks
settled_by_looks f part start P H growth slope lift K x top best parts some period grows looked settled L above at_most sooner inside =
    let c = class_of start P L in
    let k = turn_of start P L in
    let its : InClass start P H c k L = each_in_its_class start P H L period above at_most in
    by_lt top c (λ high. settled L above at_most sooner high)
    (λ low.
    let here : L ≡ c + k * P = its.here in
    let fits : f (c + k * P) ≤ c + k * P =
    class_fits f part start P H growth slope lift K c k parts some grows (omega arith) (looked c its.above inside low) (omega (arith, its.turns)) in
    rw here fits)

pub settled_by_a_walk : SettledByAWalk
settled_by_a_walk f start P H x best sooner period earlier walked settled L above at_most before inside =
    let c = class_of start P L in
    let k = turn_of start P L in
    let its : InClass start P H c k L = each_in_its_class start P H L period above at_most in
    by_eq c x
    (λ same.
    let here : L ≡ x + k * P = omega (arith, its.here) in
    let there : x + k * P < sooner = omega arith in
    rw here (walked k there))
    (λ other. settled L above at_most (omega arith) (omega arith))

pub all_settled : AllSettled
all_settled f start P H best L settled above at_most sooner = settled L above at_most sooner (omega arith)

pub none_found : NoneFound
none_found f start P H best settled far L from until = all_settled f start P H best L settled (omega arith) until (omega arith)

pub best_is_smallest : BestIsSmallest
best_is_smallest f start P H best settled above at_most fails = record {
  from_lo = omega arith;
  to_hi = at_most;
  fails = fails;
  smaller_fit = λ M from sooner. all_settled f start P H best M settled (omega arith) (omega arith) sooner;
}

-- ---- a walk along a class

pub walk_starts : WalkStarts
walk_starts f P c best = record { turn = 0; here = omega arith; fit = λ k h s. absurd (omega arith) }

pub walk_goes_on : WalkGoesOn
walk_goes_on f P c now best walked fits = record {
  turn = suc walked.turn;
  here = omega (arith, walked.here);
  fit = λ k h s. by_eq k walked.turn
      (λ same. let here : c + k * P ≡ now = omega (arith, walked.here, ap (λ (n : ℕ). n * P) same) in rw here fits)
      (λ other. walked.fit k (omega arith) s);
}

pub walk_finds : WalkFinds
walk_finds f P c now best walked sooner = record {
  turn = suc walked.turn;
  here = omega (arith, walked.here);
  fit = λ k h s. by_eq k walked.turn
      (λ same. absurd (omega (arith, walked.here, ap (λ (n : ℕ). n * P) same)))
      (λ other. walked.fit k (omega arith) (omega arith));
}

pub walk_ends : WalkEnds
walk_ends f P c now best walked past k sooner =
    by_lt k walked.turn (λ before. walked.fit k before sooner)
    (λ after. absurd (omega (arith, walked.here, mul-le-mul_right P after)))
