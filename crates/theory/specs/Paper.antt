-- The expression of the paper's Lemma 4.1: f(floor((L − d + y)/y)) · x · c, where f(a) is a for a ≥ 0 and 0 for a < 0. It is taken over all integers, since
-- L − d + y may be negative. It is proved to equal a row's demand, and the promises state the paper's Theorem 4.2 with it. (docs/RULES.md, 5.2.)
use Rattle.std.specs.Prelude.{ℕ, ◌*◌, ◌/◌, ◌≤◌, ◌<◌, ◌≡◌, ℤ, pos, negsuc, ◌+ℤ◌, ◌-ℤ◌, ◌*ℤ◌}
use Rattle.theory.specs.Demand.{row_demand}

-- The paper's f: f(a) is a for a ≥ 0, and 0 for a < 0. (Here `pos n` is the integer n, and `negsuc n` is −(n + 1).) (5.2)
abbrev pub cut_at_zero : ℤ → ℕ
cut_at_zero (pos n) = n
cut_at_zero (negsuc n) = 0

-- The floor of an integer divided by y. The floor of −(n + 1)/y is −(floor(n/y) + 1). (5.2)
abbrev pub floor_div : ℤ → ℕ → ℤ
floor_div (pos n) y = pos (n / y)
floor_div (negsuc n) y = negsuc (n / y)

-- The paper's expression (2), of its Lemma 4.1: f(floor((L − d + y)/y)) · x · c. (5.2)
unfoldable pub paper_demand : (x y d c L : ℕ) → ℕ
paper_demand x y d c L = cut_at_zero (floor_div (pos L -ℤ pos d +ℤ pos y) y) * (x * c)

-- ---- what is proved about it (proofs/Paper.antt)

-- `floor_div n y` is the floor of n/y: n is that many times y, plus a rest from 0 to y − 1.
abbrev pub FloorIsFloor : Type 0
FloorIsFloor = (n : ℤ) (y : ℕ) → 1 ≤ y → (rest : ℕ) × (rest < y) × (n ≡ floor_div n y *ℤ pos y +ℤ pos rest)

-- A row's demand equals the expression of the paper's Lemma 4.1. (5.2)
abbrev pub DemandIsLemma41 : Type 0
DemandIsLemma41 = (x y d c L : ℕ) → 1 ≤ y → row_demand x y d c L ≡ paper_demand x y d c L
