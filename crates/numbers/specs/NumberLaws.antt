-- The laws of numbers and their spelling. Whoever reads or writes numbers cites these, and not the text of the definitions. (docs/RULES.md, section 2.)
use Rattle.std.specs.Prelude.{ℕ, ◌+◌, ◌≤◌, ◌<◌, ◌≡◌, ◌⊎◌, List, [], ◌∷◌, ◌++◌, length, Ok}
use Rattle.kinds.specs.Numbering.{Said, numbered, values, refusal_at, refused_with}
use Rattle.numbers.specs.declared.Number.{Number}
use Rattle.numbers.specs.Spelling.{max_groups, max_number, spelling}
use Rattle.numbers.specs.Reading.{read_at}
use Rattle.numbers.specs.Writing.{length_of, written, buffer_after}
use Rattle.numbers.specs.Answers.{number_says, written_says}
use Rattle.numbers.specs.SpelledNumbers.{Bytes, Spelled, Wrote}

-- The largest number that can be spelled is 2^42 − 1 = 4,398,046,511,103. (2.4)
abbrev pub LargestNumber : Type 0
LargestNumber = max_number ≡ 4398046511103

-- The spelling of every number up to 2^42 − 1 reads back as that number, whatever bytes stand before and after it. (2.4, 2.5)
abbrev pub ReadsBack : Type 0
ReadsBack = (front : List ℕ) (n : ℕ) (rest : List ℕ) → n ≤ max_number
    → read_at (front ++ (spelling n ++ rest)) (length front) ≡ Ok (record { value = n; next = length front + length (spelling n) })

-- The writer answers a length only where the number is in range, its spelling has that length, and the buffer has room for it. (2.12, 2.13)
abbrev pub LengthAnswered : Type 0
LengthAnswered = (n room took : ℕ) → written_says (written n room) ≡ values (took ∷ []) → Wrote n room took

-- The writer refuses with 25 only a number above 2^42 − 1, and with 12 only a number in range whose spelling is longer than the buffer. It has no other
-- refusal. (2.13)
abbrev pub RefusalAnswered : Type 0
RefusalAnswered = (n room : ℕ) (said : Said) → written_says (written n room) ≡ numbered said
    → ((said ≡ refusal_at 25 0) × (max_number < n)) ⊎ ((said ≡ refusal_at 12 0) × (n ≤ max_number) × (room < length (spelling n)))

-- The call that answers how long a spelling is answers the length of the spelling for every number in range. (10.7)
abbrev pub LengthOfASpelling : Type 0
LengthOfASpelling = (n : ℕ) → n ≤ max_number → written_says (length_of n) ≡ values (length (spelling n) ∷ [])

-- The call that answers how long a spelling is refuses every number above 2^42 − 1 with 25. (10.7)
abbrev pub TooBigHasNoLength : Type 0
TooBigHasNoLength = (n : ℕ) → max_number < n → written_says (length_of n) ≡ refused_with 25 0

-- Every number written reads back as itself at the buffer's start, and the place right after it is the length that the writer answered. (2.5, 2.12)
abbrev pub NumberWrittenReadsBack : Type 0
NumberWrittenReadsBack = (n took : ℕ) (buffer : List ℕ) → written n (length buffer) ≡ Ok took
    → read_at (buffer_after (Ok took) n buffer) 0 ≡ Ok (record { value = n; next = took })

-- Where bytes read as a number at a place, the bytes from that place to the next are exactly the number's spelling. So one number has one spelling. (2.3, 2.5)
abbrev pub NumberHasOneSpelling : Type 0
NumberHasOneSpelling = (s : List ℕ) (at : ℕ) (number : Number) → Bytes s → read_at s at ≡ Ok number → Spelled s at number

-- A spelling has 1 to 6 bytes. (2.2)
abbrev pub SpellingLength : Type 0
SpellingLength = (n : ℕ) → (1 ≤ length (spelling n)) × (length (spelling n) ≤ max_groups)

-- Every element of a spelling is a byte. (2.1)
abbrev pub SpelledInBytes : Type 0
SpelledInBytes = (n : ℕ) → Bytes (spelling n)

-- Where two equal lists each begin with the spelling of a number in range, the two numbers are equal, and so is what follows. So different numbers have
-- different spellings, and no spelling is the beginning of another. (2.5)
abbrev pub SpellingsDiffer : Type 0
SpellingsDiffer = (m n : ℕ) (s t : List ℕ) → m ≤ max_number → n ≤ max_number → spelling m ++ s ≡ spelling n ++ t → (m ≡ n) × (s ≡ t)

-- A place at the end or past it is refused with 1, at the length of the bytes. (2.8, 2.9)
abbrev pub NothingPastTheEnd : Type 0
NothingPastTheEnd = (s : List ℕ) (at : ℕ) → length s ≤ at → number_says (read_at s at) ≡ refused_with 1 (length s)
