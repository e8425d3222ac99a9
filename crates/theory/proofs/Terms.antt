-- The proofs that rows and servers are terms, and that a reciprocal stands for a division.
use Prim.Native.Nat.{ℕ, ◌+◌, ◌-◌, ◌*◌, ◌/◌, ◌≤◌, ◌<◌}
use mathlib.Core.Path.{◌≡◌}
use native.Mathlib.Omega.{arith}
use native.Mathlib.Nat.{add-div_right, div-eq_of_lt, div-eq_of_lt-le, div-mul-le_self, lt-div-mul-add, mul-le-mul_left, le_of_mul-le-mul_left}
use native.Mathlib.Nat.{lt_of_mul-lt-mul_left}
use Rattle.theory.specs.Servers.{server_demand}
use Rattle.theory.specs.Terms.{term_demand, reciprocal, RowIsATerm, ServerIsATerm, ByReciprocal}
use Rattle.theory.proofs.Cases.{by_lt}
use Rattle.theory.proofs.Demand.{no_demand_below_d, demand_from_d}

-- Below d the v of a row is below y, and from d on it is y above L − d.
pub row_is_a_term : RowIsATerm
unfolding term_demand
row_is_a_term x y d c L some = by_lt L d
    (λ low.
    let none : 1 * (L + (y - d) - (d - y)) / y ≡ 0 = div-eq_of_lt (omega arith) in
    rw (none, no_demand_below_d x y d c L low) (omega arith))
    (λ high.
    let v : 1 * (L + (y - d) - (d - y)) ≡ L - d + y = omega arith in
    rw (v, demand_from_d x y d c L high, add-div_right (L - d) some) (omega arith))

pub server_is_a_term : ServerIsATerm
unfolding term_demand server_demand
server_is_a_term a b L =
    let v : L + 0 - 0 ≡ L = omega arith in
    rw v (omega arith)

module _ (n a b v : ℕ) (some : 1 ≤ b) (small : v * b < n) where
  -- The product is at least n times the quotient.
  not_less : a * v / b * n ≤ v * reciprocal n a b
  not_less =
      let m = reciprocal n a b in
      let up : a * n ≤ m * b = omega (arith, lt-div-mul-add {a = a * n} some) in
      le_of_mul-le-mul_left {m = a * v / b * n} {n = v * m} {k = b}
      (omega (arith, mul-le-mul_left v up, mul-le-mul_left n (div-mul-le_self (a * v) b))) some

  -- The product is below n times the quotient and one more.
  not_more : v * reciprocal n a b < (a * v / b + 1) * n
  not_more =
      let m = reciprocal n a b in
      let down : m * b ≤ a * n + b = omega (arith, div-mul-le_self (a * n) b) in
      let next : a * v + 1 ≤ a * v / b * b + b = omega (arith, lt-div-mul-add {a = a * v} some) in
      lt_of_mul-lt-mul_left b {m = v * m} {n = (a * v / b + 1) * n}
      (omega (arith, mul-le-mul_left v down, mul-le-mul_left n next))

pub by_reciprocal : ByReciprocal
by_reciprocal n a b v some small = div-eq_of_lt-le n (not_less n a b v some small) (not_more n a b v some small)
