-- Divisibility: Euclid's rule for the greatest common divisor of two numbers, and their least common multiple by it.
use Prim.Native.Nat.{ℕ, ◌*◌, ◌/◌, ◌%◌, ◌≤◌, ◌∣◌}
use mathlib.Core.Path.{◌≡◌, ap}
use native.Mathlib.Omega.{arith}
use native.Mathlib.Nat.{
  dvd_refl,
  dvd-zero,
  dvd-mul_left,
  dvd-mul_right,
  dvd-mod_iff,
  pos_of_dvd_of_pos,
  div-mul_cancel,
  dvd_of_mul-dvd-mul_right,
  mul-dvd-mul_left,
}
use Rattle.periods.specs.Multiples.{IsGreatestDivisor}

-- Every number divides 0, so the greatest common divisor of 0 and n is n.
pub of_zero : (n : ℕ) → IsGreatestDivisor 0 n n
of_zero n = record { of_first = dvd-zero n; of_second = dvd_refl n; greatest = λ k p q. q }

-- Euclid's step: the greatest common divisor of m and n is that of (n mod m) and m, since what divides m divides n exactly when it divides n mod m.
pub euclid : {m n g : ℕ} → IsGreatestDivisor (n % m) m g → IsGreatestDivisor m n g
euclid {g = g} d = record {
  of_first = d.of_second;
  of_second = (dvd-mod_iff g d.of_second).0 d.of_first;
  greatest = λ k p q. d.greatest k ((dvd-mod_iff k p).1 q) p;
}

module _ (a y g : ℕ) (d : IsGreatestDivisor a y g) where
  -- Where g is the greatest common divisor of a and y, a / g * y is a multiple of a. (That it is a multiple of y is plain.)
  pub multiple_of_first : a ∣ a / g * y
  multiple_of_first = rw (div-mul_cancel g d.of_first) at (mul-dvd-mul_left g (a / g) d.of_second)

  -- The multiple a / g * y divides l, where l is a common multiple of a and y that divides all others. For t = a * y / l divides both a and y, and hence g.
  -- And a / g * y * g = a * y = l * t, which divides l * g.
  pub divides_least : (l : ℕ) → 1 ≤ a → 1 ≤ y → a ∣ l → y ∣ l → ((m : ℕ) → a ∣ m → y ∣ m → l ∣ m) → a / g * y ∣ l
  divides_least l some_a some_y p q least =
      let t = a * y / l in
      let e : t * l ≡ a * y = div-mul_cancel l (least (a * y) (dvd-mul_right a y) (dvd-mul_left y a)) in
      let f : t * l ≡ y * a = omega arith in
      let t_y : t ∣ y = dvd_of_mul-dvd-mul_right t some_a (rw f at (mul-dvd-mul_left a t p)) in
      let t_a : t ∣ a = dvd_of_mul-dvd-mul_right t some_y (rw e at (mul-dvd-mul_left y t q)) in
      let k : l * t ≡ a / g * y * g = omega (arith, ap (λ n. n * y) (div-mul_cancel g d.of_first)) in
      dvd_of_mul-dvd-mul_right (a / g * y) (pos_of_dvd_of_pos d.of_second some_y) (rw k at (mul-dvd-mul_left t l (d.greatest t t_a t_y)))
