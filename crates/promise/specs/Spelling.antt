-- Spelling. Every number written reads back as itself, and one number has one spelling. (1.19, 2.5)
use Rattle.std.specs.Prelude.{ℕ, ◌≡◌, List, [], ◌∷◌, length}
use Rattle.kinds.specs.Numbering.{values}
use Rattle.numbers.specs.SpelledNumbers.{Bytes, Spelled}
use Rattle.numbers.specs.Reading.{read_at}
use Rattle.numbers.specs.Writing.{written, buffer_after}
use Rattle.numbers.specs.Answers.{number_says, written_says}

-- A number that the writer wrote into a buffer reads back as itself, and the place after it is the length that the writer answered. (2.5, 2.6, 2.12)
abbrev pub WrittenReadsBack : Type 0
WrittenReadsBack = (n took : ℕ) (buffer : List ℕ) → written_says (written n (length buffer)) ≡ values (took ∷ [])
    → number_says (read_at (buffer_after (written n (length buffer)) n buffer) 0) ≡ values (n ∷ took ∷ [])

-- Wherever a number reads as n, the bytes up to the place after it are the one spelling of n. (2.5)
abbrev pub OneSpelling : Type 0
OneSpelling = (s : List ℕ) (at n next : ℕ) → Bytes s → number_says (read_at s at) ≡ values (n ∷ next ∷ [])
    → Spelled s at (record { value = n; next = next })
