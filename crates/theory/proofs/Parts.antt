-- The proofs about parts. A function is in parts with itself as the part where it is a curve with period P, and with no part at all where it is below a line.
-- Sums of functions in parts are in parts, because all that is asked of parts, growths, slopes and lifts adds up.
use Prim.Native.Nat.{ℕ, ◌+◌, ◌-◌, ◌*◌, ◌/◌, ◌%◌, ◌≤◌}
use mathlib.Core.Path.{◌≡◌, refl, ap}
use mathlib.Core.Logic.{◌≢◌}
use mathlib.Core.List.{[], ◌∷◌}
use native.Mathlib.Omega.{arith}
use native.Mathlib.Nat.{div-mul_cancel, dvd_of_mod-eq-zero, mul-add-div, le-div_iff_mul-le}
use borrow.Author.Tests.{eq-eqb, ne_eqb}
use Rattle.theory.specs.Lists.{total}
use Rattle.theory.specs.Demand.{row_demand, row_growth}
use Rattle.theory.specs.Servers.{server_demand, server_growth}
use Rattle.theory.specs.Ticks.{timer_takes}
use Rattle.theory.specs.Terms.{term_demand}
use Rattle.theory.specs.TermCurves.{term_growth}
use Rattle.theory.specs.Lines.{line_at}
use Rattle.theory.specs.Parts.{taken_into_part, left_out_of_part, CurveAndRest, CurveAndRestByPeriods, CurveTakenIn, LineLeftOut, TermTakenIn, TermLeftOut}
use Rattle.theory.specs.Parts.{RowTakenIn, RowLeftOut, ServerTakenIn, ServerLeftOut, TimerTakenIn, TimerLeftOut, TermInParts, TimerInParts}
use Rattle.theory.specs.Parts.{TwoInParts, SumsInParts, PartAndLineNeverFall, AtMostPartAndLine}
use Rattle.theory.proofs.Cases.{by_eq}
use Rattle.theory.proofs.Curves.{starts_later}
use Rattle.theory.proofs.Demand.{rows_are_curves}
use Rattle.theory.proofs.Servers.{server_is_a_curve}
use Rattle.theory.proofs.Timers.{timer_is_a_curve, no_timer}
use Rattle.theory.proofs.TermCurves.{term_is_a_curve, term_grows_in_proportion, row_term_grows, server_term_grows, no_demand_without_weight}
use Rattle.theory.proofs.Lines.{term_has_a_line, row_has_a_line, server_has_a_line, timer_has_a_line, lines_never_fall}

-- ---- any function

pub curve_and_rest : CurveAndRest
curve_and_rest f part rest start P H part_growth growth slope lift split curve below proportion = record {
  part_growth = part_growth;
  repeats = curve.repeats;
  rest_below = λ L. omega (arith, ap (λ (n : ℕ). H * n) (split L), below L);
  in_proportion = proportion;
}

pub curve_and_rest_by_periods : CurveAndRestByPeriods
curve_and_rest_by_periods f part rest start P H part_growth growth slope lift whole split curve below grows =
    let n = H / P in
    let proportion : growth * P ≡ part_growth * H + slope * P =
    omega (arith, ap (λ (k : ℕ). k * P) grows, ap (λ (k : ℕ). k * part_growth) (div-mul_cancel P whole)) in
    curve_and_rest f part rest start P H part_growth growth slope lift split curve below proportion

pub curve_taken_in : CurveTakenIn
curve_taken_in f part start P H part_growth growth same curve proportion = record {
  part_growth = part_growth;
  repeats = λ L h. omega (arith, same L, same (L + P), curve.repeats L h);
  rest_below = λ L. omega (arith, ap (λ (n : ℕ). H * n) (same L));
  in_proportion = omega arith;
}

pub line_left_out : LineLeftOut
line_left_out f part start P H growth lift none below = record {
  part_growth = 0;
  repeats = λ L h. omega (arith, none L, none (L + P));
  rest_below = λ L. omega (arith, below L);
  in_proportion = omega arith;
}

pub two_in_parts : TwoInParts
two_in_parts f g part part' start P H growth slope lift growth' slope' lift' one other = record {
  part_growth = one.part_growth + other.part_growth;
  repeats = λ L h. omega (arith, one.repeats L h, other.repeats L h);
  rest_below = λ L. omega (arith, one.rest_below L, other.rest_below L);
  in_proportion = omega (arith, one.in_proportion, other.in_proportion);
}

pub sums_in_parts : SumsInParts
unfolding total
sums_in_parts A f part growth slope lift start P H [] all =
    record { part_growth = 0; repeats = λ L h. omega arith; rest_below = λ L. omega arith; in_proportion = omega arith }
sums_in_parts A f part growth slope lift start P H (a ∷ l) all =
    two_in_parts (f a) (λ L. total (λ b. f b L) l) (part a) (λ L. total (λ b. part b L) l) start P H
    (growth a) (slope a) (lift a) (total growth l) (total slope l) (total lift l)
    all.0 (sums_in_parts A f part growth slope lift start P H l all.1)

-- ---- the parts of terms, rows, servers and the timer

pub term_taken_in : TermTakenIn
term_taken_in b a w up down start P H pb from whole whole' =
    curve_taken_in (term_demand b a w up down) (term_demand b a w up down) start P H (term_growth b a w P) (term_growth b a w H) (λ L. refl)
    (term_is_a_curve b a w up down start P pb from whole) (term_grows_in_proportion b a w H P whole' whole)

pub term_left_out : TermLeftOut
term_left_out b a w up down start P H whole =
    line_left_out (term_demand b a w up down) (term_demand b a 0 up down) start P H (term_growth b a w H) (term_growth b a w H * up)
    (no_demand_without_weight b a up down) (term_has_a_line b a w up down H whole)

pub row_taken_in : RowTakenIn
row_taken_in x y d c start P H py from whole whole' =
    curve_taken_in (row_demand x y d c) (row_demand x y d c) start P H (row_growth x y c P) (row_growth x y c H) (λ L. refl)
    (starts_later (row_demand x y d c) d start P (row_growth x y c P) from (rows_are_curves x y d c P py whole))
    (rw (row_term_grows x y c H, row_term_grows x y c P) at (term_grows_in_proportion y 1 (x * c) H P whole' whole))

pub row_left_out : RowLeftOut
row_left_out x y d c start P H py whole =
    line_left_out (row_demand x y d c) (λ L. 0) start P H (row_growth x y c H) (row_growth x y c H * (y - d)) (λ L. refl) (row_has_a_line x y d c H py whole)

pub server_taken_in : ServerTakenIn
server_taken_in a b start P H pb whole whole' =
    curve_taken_in (server_demand a b) (server_demand a b) start P H (server_growth a b P) (server_growth a b H) (λ L. refl)
    (starts_later (server_demand a b) 0 start P (server_growth a b P) (omega arith) (server_is_a_curve a b P pb whole))
    (rw (server_term_grows a b H, server_term_grows a b P) at (term_grows_in_proportion b a 1 H P whole' whole))

pub server_left_out : ServerLeftOut
server_left_out a b start P H whole =
    line_left_out (server_demand a b) (λ L. 0) start P H (server_growth a b H) 0 (λ L. refl) (server_has_a_line a b H whole)

pub timer_taken_in : TimerTakenIn
timer_taken_in s p start P H some most whole whole' =
    curve_taken_in (timer_takes s p) (timer_takes s p) start P H (s * (P / p)) (s * (H / p)) (λ L. refl)
    (starts_later (timer_takes s p) 0 start P (s * (P / p)) (omega arith) (timer_is_a_curve s p P some most whole))
    (rw (server_term_grows s p H, server_term_grows s p P) at (term_grows_in_proportion p s 1 H P whole' whole))

pub timer_left_out : TimerLeftOut
timer_left_out s p start P H some most whole =
    line_left_out (timer_takes s p) (timer_takes 0 p) start P H (s * (H / p)) (s * (H / p) * (p - s)) (no_timer p).1 (timer_has_a_line s p H some most whole)

-- Where b divides P an amount is taken in whole, and nothing of it is left out.
all_taken_in : (P b n : ℕ) → P % b ≡ 0 → (taken_into_part P b n ≡ n) × (left_out_of_part P b n ≡ 0)
all_taken_in P b n even = (rw (eq-eqb (P % b) 0 even), rw (eq-eqb (P % b) 0 even))

-- Where b does not divide P nothing of an amount is taken in, and it is left out whole.
all_left_out : (P b n : ℕ) → P % b ≢ 0 → (taken_into_part P b n ≡ 0) × (left_out_of_part P b n ≡ n)
all_left_out P b n odd = (rw (ne_eqb (P % b) 0 odd), rw (ne_eqb (P % b) 0 odd))

pub term_in_parts : TermInParts
term_in_parts b a w up down start P H some from whole =
    let g = term_growth b a w H in
    by_eq (P % b) 0
    (λ even. rw ((all_taken_in P b w even).0, (all_taken_in P b g even).1, (all_taken_in P b (g * up) even).1)
    (term_taken_in b a w up down start P H some from (dvd_of_mod-eq-zero b even) whole))
    (λ odd. rw ((all_left_out P b w odd).0, (all_left_out P b g odd).1, (all_left_out P b (g * up) odd).1)
    (term_left_out b a w up down start P H whole))

pub timer_in_parts : TimerInParts
timer_in_parts s p start P H some most whole =
    let g = s * (H / p) in
    by_eq (P % p) 0
    (λ even. rw ((all_taken_in P p s even).0, (all_taken_in P p g even).1, (all_taken_in P p (g * (p - s)) even).1)
    (timer_taken_in s p start P H some most (dvd_of_mod-eq-zero p even) whole))
    (λ odd. rw ((all_left_out P p s odd).0, (all_left_out P p g odd).1, (all_left_out P p (g * (p - s)) odd).1)
    (timer_left_out s p start P H some most whole))

-- ---- the part and the line

pub part_and_line_never_fall : PartAndLineNeverFall
part_and_line_never_fall part H slope lift some grows L M h = omega (arith, grows L M h, lines_never_fall H slope lift some L M h)

pub at_most_part_and_line : AtMostPartAndLine
unfolding line_at
at_most_part_and_line f part start P H growth slope lift L some parts =
    let line = slope * L + lift in
    let within : f L ≤ (H * part L + line) / H = (le-div_iff_mul-le some).1 (omega (arith, parts.rest_below L)) in
    rw (mul-add-div some (part L) line) at within
