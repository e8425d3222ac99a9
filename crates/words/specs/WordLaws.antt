-- The laws of words of eight bytes: what each call says, and that a word reads back. (docs/RULES.md, section 9.)
use Rattle.std.specs.Prelude.{ℕ, ◌+◌, ◌^◌, ◌<◌, ◌≤◌, ◌≡◌, List, [], ◌∷◌, ◌++◌, length}
use Rattle.kinds.specs.Numbering.{values, refused_with}
use Rattle.numbers.specs.Answers.{number_says, written_says}
use Rattle.numbers.specs.SpelledNumbers.{Bytes}
use Rattle.words.specs.Words.{word_length, lowest_first, put_word, rest_with, word_at}
use Rattle.words.specs.StoredWords.{WordHere}

-- ---- what each call says (proofs/Storing.antt)

-- Where a buffer has eight bytes or more, a word is written, and the answer says the length 8. (10.7)
abbrev pub WordIsPut : Type 0
WordIsPut = (room : ℕ) → word_length ≤ room → written_says (put_word room) ≡ values (8 ∷ [])

-- Where a buffer has fewer than eight bytes, writing a word is refused with 12. (10.7)
abbrev pub NoRoomForAWord : Type 0
NoRoomForAWord = (room : ℕ) → room < word_length → written_says (put_word room) ≡ refused_with 12 0

-- Where fewer than eight bytes stand from a place on, reading a word there is refused with 1, at that place. (10.7)
abbrev pub WordCutOff : Type 0
WordCutOff = (s : List ℕ) (at : ℕ) → length s < at + word_length → number_says (word_at s at) ≡ refused_with 1 at

-- Where the bytes read as the word of a number at a place, they hold the eight bytes of that number there. (9.4)
abbrev pub WordStands : Type 0
WordStands = (s : List ℕ) (at n next : ℕ) → Bytes s → number_says (word_at s at) ≡ values (n ∷ next ∷ []) → WordHere s at n next

-- ---- every number written as a word reads back as itself

-- The word of every number below 2^64 reads back as that number, whatever bytes stand before and after it. (9.4)
abbrev pub WordReadsBack : Type 0
WordReadsBack = (front : List ℕ) (n : ℕ) (rest : List ℕ) → n < 2 ^ 64
    → number_says (word_at (front ++ (lowest_first word_length n ++ rest)) (length front)) ≡ values (n ∷ (length front + word_length) ∷ [])

-- Every number below 2^64 that is written as a word into a buffer with room reads back as itself at the buffer's start. (9.4)
abbrev pub PutReadsBack : Type 0
PutReadsBack = (n : ℕ) (rest : List ℕ) → n < 2 ^ 64 → word_length ≤ length rest
    → number_says (word_at (rest_with (put_word (length rest)) n rest) 0) ≡ values (n ∷ word_length ∷ [])

-- Two numbers below 2^64 that have the same eight bytes are equal. (9.4)
abbrev pub BytesSayTheNumber : Type 0
BytesSayTheNumber = (n m : ℕ) → n < 2 ^ 64 → m < 2 ^ 64 → lowest_first word_length n ≡ lowest_first word_length m → n ≡ m
