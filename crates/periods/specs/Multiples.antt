-- The least common multiple of some numbers, and the greatest common divisor of two. (docs/RULES.md, 3.4.)
use Rattle.std.specs.Prelude.{ℕ, zero, suc, ◌+◌, ◌*◌, ◌%◌, ◌≤◌, Bool, true, cond, ◌&&◌, eqb}
use Rattle.std.specs.Int.{◌∣◌}
use mathlib.Core.List.{List, [], ◌∷◌, Memᴰ}

-- The number n is a multiple of every number in the list.
abbrev pub is_multiple : List ℕ → ℕ → Bool
is_multiple [] n = true
is_multiple (y ∷ ys) n = eqb (n % y) 0 && is_multiple ys n

-- The product of the numbers in a list. It is 1 for the empty list.
abbrev pub product : List ℕ → ℕ
product [] = 1
product (y ∷ ys) = y * product ys

-- The first number from n on that is a multiple of every number in the list. The search makes at most `tries` tries.
unfoldable pub first_multiple : (tries : ℕ) → List ℕ → (n : ℕ) → ℕ
first_multiple zero ys n = n
first_multiple (suc tries) ys n = cond (is_multiple ys n) n (first_multiple tries ys (n + 1))

-- The least common multiple of some numbers: the first number from 1 on that is a multiple of each of them. For no numbers it is 1. Their product, which is a
-- multiple of each, bounds the search. (3.4)
unfoldable pub least_common_multiple : List ℕ → ℕ
least_common_multiple ys = first_multiple (product ys) ys 1

-- The number h is the least common multiple of some numbers: it is positive, it is a multiple of each, and it divides every other common multiple. (3.4)
pub record IsLeastCommonMultiple (ys : List ℕ) (h : ℕ) : Type 0 where
  pub positive : 1 ≤ h
  pub multiple : (y : ℕ) → Memᴰ y ys → y ∣ h
  pub least : (m : ℕ) → ((y : ℕ) → Memᴰ y ys → y ∣ m) → h ∣ m

-- The number g is the greatest common divisor of a and b: it divides both, and every number that divides both divides it.
pub record IsGreatestDivisor (a b g : ℕ) : Type 0 where
  pub of_first : g ∣ a
  pub of_second : g ∣ b
  pub greatest : (n : ℕ) → n ∣ a → n ∣ b → n ∣ g

-- ---- what is proved (proofs/Multiples.antt)

-- For positive numbers, `least_common_multiple` is their least common multiple. (3.4)
abbrev pub PeriodIsLeast : Type 0
PeriodIsLeast = (ys : List ℕ) → ((y : ℕ) → Memᴰ y ys → 1 ≤ y) → IsLeastCommonMultiple ys (least_common_multiple ys)
