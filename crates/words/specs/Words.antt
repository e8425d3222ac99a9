-- Words: numbers in eight bytes, the lowest byte first. (docs/RULES.md, 9.4 and 10.7.)
use Rattle.std.specs.Prelude.{ℕ, zero, suc, ◌+◌, ◌*◌, ◌/◌, ◌%◌, cond, List, [], ◌∷◌, ◌++◌, leb, length, take, drop, Result, Ok, Err}
use Rattle.kinds.specs.declared.RefusedAt.{RefusedAt}
use Rattle.kinds.specs.declared.Refusal.{Refusal}
use Rattle.kinds.specs.declared.Refusal.TheVariants.{NoRoom}
use Rattle.numbers.specs.declared.Number.{Number}
use Rattle.numbers.specs.Reading.{misspelled_at}

-- The length of a word in bytes. (9.4)
abbrev pub word_length : ℕ
word_length = 8

-- A number in a given number of bytes, the lowest byte first. What does not fit is left out. (9.4)
unfoldable pub lowest_first : (bytes n : ℕ) → List ℕ
lowest_first zero n = []
lowest_first (suc k) n = n % 256 ∷ lowest_first k (n / 256)

-- The number that a list of bytes says, the lowest byte first. (9.4)
unfoldable pub from_lowest_first : List ℕ → ℕ
from_lowest_first [] = 0
from_lowest_first (b ∷ bytes) = b + 256 * from_lowest_first bytes

-- The answer of writing a word into a buffer of `room` bytes: the length 8, or refusal 12 where the buffer has fewer bytes. (10.7)
abbrev pub put_word : (room : ℕ) → Result ℕ Refusal
put_word room = cond (leb word_length room) (Ok word_length) (Err NoRoom)

-- The buffer after the answer of writing a word. After a length it holds the word and then the bytes after it as they were. After a refusal it is
-- unchanged. (10.7)
abbrev pub rest_with : Result ℕ Refusal → (value : ℕ) → List ℕ → List ℕ
rest_with (Ok k) value rest = lowest_first word_length value ++ drop k rest
rest_with (Err r) value rest = rest

-- The answer of reading a word at a place: its number and the place right after its eight bytes. Where fewer than eight bytes stand there, it is refusal 1 at
-- that place. (10.7)
abbrev pub word_at : List ℕ → (at : ℕ) → Result Number RefusedAt
word_at s at =
    cond (leb (at + word_length) (length s))
    (Ok (record { value = from_lowest_first (take word_length (drop at s)); next = at + word_length }))
    (misspelled_at at)
