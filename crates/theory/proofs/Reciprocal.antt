-- The proofs about quotients by reciprocals. Let m · b = a · n + e, and let k be the quotient and t the rest of a · v by b. Then b · (v · m) is
-- k · b · n + (t · n + v · e). Here t is at most b − 1 and v · e is below n, so that t · n + v · e is below b · n. So v · m is at least k · n and below
-- (k + 1) · n.
use Prim.Native.Nat.{ℕ, ◌+◌, ◌-◌, ◌*◌, ◌/◌, ◌%◌, ◌≤◌, ◌<◌, max}
use mathlib.Core.Path.{◌≡◌, refl, ap, ◌∙◌}
use native.Mathlib.Omega.{arith}
use native.Mathlib.Nat.{add-div_right, add-mul-div_right, add-mul-mod_self_right, div-add-mod', div-eq_of_lt, div-eq_of_lt-le, div-mul-le_self}
use native.Mathlib.Nat.{le_of_mul-le-mul_right, lt-div-mul-add, lt_of_mul-lt-mul_right, mod-eq_of_lt, mod-lt, mul-le-mul_right}
use Rattle.theory.specs.Servers.{server_demand}
use Rattle.theory.specs.Terms.{term_demand}
use Rattle.theory.specs.Reciprocal.{ByAnyReciprocal, FloorByReciprocal, ReciprocalFailsAtN, RowByItsQuotient, RowByItsForm, TimerByItsQuotient}
use Rattle.theory.specs.Reciprocal.{TermByReciprocal, RowByReciprocal, ServerByReciprocal, TimerByReciprocal}
use Rattle.theory.proofs.Cases.{by_lt}
use Rattle.theory.proofs.Demand.{no_demand_below_d, demand_from_d}
use Rattle.theory.proofs.Terms.{row_is_a_term, by_reciprocal}

-- ---- reciprocals

pub by_any_reciprocal : ByAnyReciprocal
by_any_reciprocal n a b m e v some near small =
    let k = a * v / b in
    let t = a * v % b in
    let below : t + 1 ≤ b = omega (arith, mod-lt (a * v) some) in
    let scaled : v * m * b ≡ a * v * n + v * e = omega (arith, ap (λ (i : ℕ). v * i) near) in
    let parts : a * v * n ≡ k * b * n + t * n = omega (arith, ap (λ (i : ℕ). i * n) (div-add-mod' (a * v) b)) in
    let rest : t * n + n ≤ b * n = omega (arith, mul-le-mul_right n below) in
    div-eq_of_lt-le n (le_of_mul-le-mul_right {k = b} (omega arith) some) (lt_of_mul-lt-mul_right b (omega arith))

pub floor_by_reciprocal : FloorByReciprocal
floor_by_reciprocal n b v some small =
    let once : 1 * n ≡ n = omega arith in
    let once' : 1 * v ≡ v = omega arith in
    rw (once, once') at (by_reciprocal n 1 b v some small)

pub reciprocal_fails_at_n : ReciprocalFailsAtN
reciprocal_fails_at_n = (refl, refl)

-- ---- quotients

pub row_by_its_quotient : RowByItsQuotient
row_by_its_quotient x y d c up down L some shift = by_lt L d
    (λ low.
    let below : L + up - down < y = omega arith in
    rw (no_demand_below_d x y d c L low, div-eq_of_lt below) (omega arith))
    (λ high.
    let moved : L + up - down ≡ L - d + y = omega arith in
    rw (demand_from_d x y d c L high, moved, add-div_right (L - d) some) (omega arith))

pub row_by_its_form : RowByItsForm
row_by_its_form x y d c L some =
    let same : max (L + (y - d)) (d - y) - (d - y) ≡ L + (y - d) - (d - y) = omega arith in
    rw same (row_by_its_quotient x y d c (y - d) (d - y) L some (omega arith))

pub timer_by_its_quotient : TimerByItsQuotient
timer_by_its_quotient s p q r L below whole =
    let some : 1 ≤ p = omega arith in
    let here : L ≡ r + q * p = omega arith in
    rw (here, add-mul-div_right r q some, add-mul-mod_self_right r q p, div-eq_of_lt below, mod-eq_of_lt below) (omega arith)

-- ---- quotients by reciprocals

pub term_by_reciprocal : TermByReciprocal
unfolding term_demand
term_by_reciprocal n b a w up down L v some moved small = rw (by_reciprocal n a b v some small, moved)

pub row_by_reciprocal : RowByReciprocal
row_by_reciprocal n x y d c L v some moved small =
    term_by_reciprocal n y 1 (x * c) (y - d) (d - y) L v some moved small ∙ row_is_a_term x y d c L some

pub server_by_reciprocal : ServerByReciprocal
unfolding server_demand
server_by_reciprocal n a b L some small = by_reciprocal n a b L some small

pub timer_by_reciprocal : TimerByReciprocal
timer_by_reciprocal n s p L q some small found =
    let quotient : q ≡ 1 * L / p = found ∙ by_reciprocal n 1 p L some small in
    let whole : q * p ≤ L = rw quotient (omega (arith, div-mul-le_self (1 * L) p)) in
    let near : L < q * p + p = rw quotient (omega (arith, lt-div-mul-add {a = 1 * L} some)) in
    timer_by_its_quotient s p q (L - q * p) L (omega arith) (omega arith)
