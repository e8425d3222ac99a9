-- Quotients by reciprocals. The demand of a row or a server and the ticks of a timer are worked out from quotients by y, b and p. Each quotient can be had from
-- a product with a reciprocal and a division by one fixed number n. (docs/RULES.md, 5.1, 5.3 and 5.16.)
use Rattle.std.specs.Prelude.{ℕ, ◌+◌, ◌-◌, ◌*◌, ◌/◌, ◌≤◌, ◌<◌, min, max, ◌≡◌}
use Rattle.theory.specs.Demand.{row_demand}
use Rattle.theory.specs.Servers.{server_demand}
use Rattle.theory.specs.Ticks.{timer_takes}
use Rattle.theory.specs.Terms.{term_demand, reciprocal}

-- ---- what is proved about reciprocals (proofs/Reciprocal.antt)

-- Let m · b be a · n + e. Then m serves as the reciprocal of b/a for every v with v · e < n.
abbrev pub ByAnyReciprocal : Type 0
ByAnyReciprocal = (n a b m e v : ℕ) → 1 ≤ b → m * b ≡ a * n + e → v * e < n → v * m / n ≡ a * v / b

-- For a = 1 the reciprocal is floor(n/b) + 1, and it gives floor(v/b).
abbrev pub FloorByReciprocal : Type 0
FloorByReciprocal = (n b v : ℕ) → 1 ≤ b → v * b < n → v * (n / b + 1) / n ≡ v / b

-- v · b must be below n. Where it equals n, as with a = 1, b = 2, v = 1 and n = 2, the reciprocal may give 1 where the quotient is 0.
abbrev pub ReciprocalFailsAtN : Type 0
ReciprocalFailsAtN = (1 * reciprocal 2 1 2 / 2 ≡ 1) × (1 * 1 / 2 ≡ 0)

-- ---- what is proved about demands by quotients (proofs/Reciprocal.antt)

-- Where up + d = y + down, a row's demand in a length L is floor((L + up − down)/y) · (x · c). (5.1)
abbrev pub RowByItsQuotient : Type 0
RowByItsQuotient = (x y d c up down L : ℕ) → 1 ≤ y → up + d ≡ y + down → (L + up - down) / y * (x * c) ≡ row_demand x y d c L

-- A row's demand in a length L is floor(v/y) · (x · c), with up = max(y − d, 0), down = max(d − y, 0) and v = max(L + up, down) − down. (5.1)
abbrev pub RowByItsForm : Type 0
RowByItsForm = (x y d c L : ℕ) → 1 ≤ y → (max (L + (y - d)) (d - y) - (d - y)) / y * (x * c) ≡ row_demand x y d c L

-- Where q is the quotient and r the rest of L by p, a timer takes q · s + min(s, r) ticks in L. (5.3)
abbrev pub TimerByItsQuotient : Type 0
TimerByItsQuotient = (s p q r L : ℕ) → r < p → q * p + r ≡ L → q * s + min s r ≡ timer_takes s p L

-- ---- what is proved about demands by reciprocals (proofs/Reciprocal.antt)

-- A term's demand, by the reciprocal of its b/a. Here v is the term's moved length.
abbrev pub TermByReciprocal : Type 0
TermByReciprocal = (n b a w up down L v : ℕ) → 1 ≤ b → v ≡ L + up - down → v * b < n → v * reciprocal n a b / n * w ≡ term_demand b a w up down L

-- A row's demand, by the reciprocal of its y. (5.1)
abbrev pub RowByReciprocal : Type 0
RowByReciprocal = (n x y d c L v : ℕ) → 1 ≤ y → v ≡ L + (y - d) - (d - y) → v * y < n → v * reciprocal n 1 y / n * (x * c) ≡ row_demand x y d c L

-- A server's demand, by the reciprocal of its b/a. (5.16)
abbrev pub ServerByReciprocal : Type 0
ServerByReciprocal = (n a b L : ℕ) → 1 ≤ b → L * b < n → L * reciprocal n a b / n ≡ server_demand a b L

-- The ticks that a timer takes in L, by the reciprocal of its p: with q the quotient of L by p, they are q · s + min(s, L − q · p). (5.3)
abbrev pub TimerByReciprocal : Type 0
TimerByReciprocal = (n s p L q : ℕ) → 1 ≤ p → L * p < n → q ≡ L * reciprocal n 1 p / n → q * s + min s (L - q * p) ≡ timer_takes s p L
