-- What it means that a word stands at a place. (docs/RULES.md, section 9.)
use Rattle.std.specs.Prelude.{ℕ, ◌+◌, ◌≤◌, ◌≡◌, List, length, take, drop}
use Rattle.words.specs.Words.{word_length, lowest_first}

-- The bytes s hold the word of the number n at the place `at`: its eight bytes stand there, and `next` is the place right after them, within s. (9.4)
pub record WordHere (s : List ℕ) (at n next : ℕ) : Type 0 where
  pub stands_here : take word_length (drop at s) ≡ lowest_first word_length n
  pub ends : next ≡ at + word_length
  pub within : next ≤ length s
