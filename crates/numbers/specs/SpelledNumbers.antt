-- What it means that a number is spelled at a place, and that a number was written. (docs/RULES.md, section 2.)
use Rattle.std.specs.Prelude.{ℕ, ◌+◌, ◌≤◌, ◌<◌, ◌≡◌, List, ◌++◌, length, get_or, drop}
use Rattle.numbers.specs.declared.Number.{Number}
use Rattle.numbers.specs.Spelling.{max_number, spelling}

-- Every element of a list is a byte.
abbrev pub Bytes : List ℕ → Type 0
Bytes s = (i : ℕ) → get_or s i 0 < 256

-- The bytes s hold the spelling of a number from the place `at` on. The number is in range, and its `next` is the place right after the spelling, which is
-- within the bytes. (2.4, 2.6)
pub record Spelled (s : List ℕ) (at : ℕ) (number : Number) : Type 0 where
  pub in_range : number.value ≤ max_number
  pub stands_here : drop at s ≡ spelling number.value ++ drop number.next s
  pub ends : number.next ≡ at + length (spelling number.value)
  pub forward : at < number.next
  pub within : number.next ≤ length s

-- The bytes s hold no number's spelling from the place `at` on.
abbrev pub NoNumber : List ℕ → (at : ℕ) → Type 0
NoNumber s at = (n : Number) → Spelled s at n → ⊥

-- What is known about n where the writer answers the length `took` for a buffer of `room` bytes: n is in range, its spelling has that length, and the buffer
-- has room for it. (2.12, 2.13)
pub record Wrote (n room took : ℕ) : Type 0 where
  pub in_range : n ≤ max_number
  pub spelled : took ≡ length (spelling n)
  pub had_room : took ≤ room
