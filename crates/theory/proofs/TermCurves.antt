-- The proofs that terms are curves. One period longer, a · v is higher by (period/b) · a times b, so that the quotient by b is higher by (period/b) · a.
use Prim.Native.Nat.{ℕ, ◌+◌, ◌-◌, ◌*◌, ◌/◌, ◌≤◌}
use mathlib.Core.Path.{◌≡◌, ap}
use native.Mathlib.Omega.{arith}
use native.Mathlib.Nat.{add-mul-div_right, div-mul_cancel, mul-le-mul_left, mul-le-mul_right}
use Rattle.theory.specs.Demand.{row_growth}
use Rattle.theory.specs.Terms.{term_demand}
use Rattle.theory.specs.TermCurves.{term_growth, RowTermGrows, ServerTermGrows, NoDemandWithoutWeight, TermNeverFalls, TermIsACurve}
use Rattle.theory.specs.TermCurves.{TermGrowsInProportion}
use Rattle.theory.proofs.Demand.{floor_is_monotone}

pub row_term_grows : RowTermGrows
unfolding term_growth row_growth
row_term_grows x y c period = omega arith

pub server_term_grows : ServerTermGrows
unfolding term_growth
server_term_grows a b period = omega arith

pub no_demand_without_weight : NoDemandWithoutWeight
unfolding term_demand
no_demand_without_weight b a up down L = omega arith

pub term_never_falls : TermNeverFalls
unfolding term_demand
term_never_falls b a w up down some L M h =
    let further : L + up - down ≤ M + up - down = omega arith in
    mul-le-mul_right w (floor_is_monotone (a * (L + up - down)) (a * (M + up - down)) b some (mul-le-mul_left a further))

pub term_is_a_curve : TermIsACurve
unfolding term_demand term_growth
term_is_a_curve b a w up down start period some from whole = record {
  monotone = term_never_falls b a w up down some;
  repeats = λ L h.
      let v = L + up - down in
      let moved : L + period + up - down ≡ v + period = omega arith in
      let longer : a * (v + period) ≡ a * v + period / b * a * b = omega (arith, ap (λ (n : ℕ). a * n) (div-mul_cancel b whole)) in
      rw (moved, longer, add-mul-div_right (a * v) (period / b * a) some) (omega arith);
}

pub term_grows_in_proportion : TermGrowsInProportion
unfolding term_growth
term_grows_in_proportion b a w period other whole whole' =
    let m = period / b in
    let n = other / b in
    omega (arith, ap (λ (k : ℕ). m * a * w * k) (div-mul_cancel b whole'), ap (λ (k : ℕ). n * a * w * k) (div-mul_cancel b whole))
