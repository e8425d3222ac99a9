-- How a number is spelled in bytes. (docs/RULES.md, section 2.)
use Rattle.std.specs.Prelude.{ℕ, zero, suc, ◌+◌, ◌-◌, ◌/◌, ◌%◌, ◌^◌, cond, List, [], ◌∷◌, ltb}

-- The most groups that a number may have. (2.2)
abbrev pub max_groups : ℕ
max_groups = 6

-- The largest number that can be spelled: six groups of seven bits that are all set, which is 2^42 − 1. (2.4)
abbrev pub max_number : ℕ
max_number = 128 ^ max_groups - 1

-- A number in at most `most` groups of seven bits, one group a byte, the lowest group first. The top bit, worth 128, is set in each byte that another byte of
-- the same number follows. (2.1)
unfoldable pub groups_of : (most n : ℕ) → List ℕ
groups_of zero n = []
groups_of (suc most) n = cond (ltb n 128) (n ∷ []) ((n % 128 + 128) ∷ groups_of most (n / 128))

-- The spelling of a number of at most 2^42 − 1. (2.1, 2.2)
abbrev pub spelling : ℕ → List ℕ
spelling n = groups_of max_groups n
