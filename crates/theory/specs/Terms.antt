-- Terms: one form for the demand of a row and for that of a server. Where a demand is worked out in many lengths, each term's division can be made once: later
-- it is a product with the term's reciprocal and a division by one fixed number. (docs/RULES.md, 5.1 and 5.16.)
use Rattle.std.specs.Prelude.{ℕ, ◌+◌, ◌-◌, ◌*◌, ◌/◌, ◌≤◌, ◌<◌, ◌≡◌}
use Rattle.theory.specs.Demand.{row_demand}
use Rattle.theory.specs.Servers.{server_demand}

-- A term's demand in a length L is floor(a · v / b) · w, where v is L + up − down, or 0 if that is below 0.
unfoldable pub term_demand : (b a w up down L : ℕ) → ℕ
term_demand b a w up down L = a * (L + up - down) / b * w

-- The reciprocal of b / a in parts of n: floor(a · n / b) + 1.
abbrev pub reciprocal : (n a b : ℕ) → ℕ
reciprocal n a b = a * n / b + 1

-- ---- what is proved (proofs/Terms.antt)

-- A row's demand is a term: b is y, a is 1, w is x · c, and up or down is what y and d differ by. (5.1)
abbrev pub RowIsATerm : Type 0
RowIsATerm = (x y d c L : ℕ) → 1 ≤ y → term_demand y 1 (x * c) (y - d) (d - y) L ≡ row_demand x y d c L

-- A server's demand is a term with a w of 1. (5.16)
abbrev pub ServerIsATerm : Type 0
ServerIsATerm = (a b L : ℕ) → term_demand b a 1 0 0 L ≡ server_demand a b L

-- Where v · b is below n, floor(a · v / b) is v times the reciprocal, divided by n and rounded down.
abbrev pub ByReciprocal : Type 0
ByReciprocal = (n a b v : ℕ) → 1 ≤ b → v * b < n → v * reciprocal n a b / n ≡ a * v / b
