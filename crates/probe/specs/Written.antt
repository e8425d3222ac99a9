-- What the probe's call of the number writer returns. (docs/RULES.md, 2.12 and 2.13.)
use Rattle.std.specs.Prelude.{ℕ, [], ◌∷◌}
use Rattle.kinds.specs.Numbering.{Says, numbered, values}

-- What the number writer says, in one number: the spelling's length, which is its only value, or the refusal's number. (2.12, 2.13)
abbrev pub in_one_number : Says → ℕ
in_one_number (values []) = 0
in_one_number (values (length ∷ more)) = length
in_one_number (numbered s) = s.number
