-- The bad byte of a number that can't be read. It is the first byte with which no number goes on, or the end of the bytes where the number is not finished
-- there. All of it is said by spellings, and not by the reader. (docs/RULES.md, 2.7 to 2.9.)
use Rattle.std.specs.Prelude.{ℕ, ◌+◌, ◌-◌, ◌≤◌, ◌≡◌, ◌⊎◌, ◌↔◌, List, [], ◌∷◌, ◌++◌, length, take, drop}
use Rattle.kinds.specs.Numbering.{Said, numbered, refusal_at, refused_with}
use Rattle.numbers.specs.declared.Number.{Number}
use Rattle.numbers.specs.Spelling.{max_number, spelling}
use Rattle.numbers.specs.Reading.{read_at}
use Rattle.numbers.specs.Answers.{number_says}
use Rattle.numbers.specs.SpelledNumbers.{Bytes, Spelled, NoNumber}

-- The bytes from one place up to another. The byte at the other place is not among them.
abbrev pub bytes_between : List ℕ → (start place : ℕ) → List ℕ
bytes_between s start place = take (place - start) (drop start s)

-- Some bytes begin a number: with the right bytes after them, or with none, they are the spelling of a number. (2.1 to 2.4)
pub record Begins (front : List ℕ) : Type 0 where
  pub n : ℕ
  pub rest : List ℕ
  pub in_range : n ≤ max_number
  pub goes_on : front ++ rest ≡ spelling n

-- Some bytes begin a number and want more bytes: with the right bytes after them, at least one, they are the spelling of a number. (2.1 to 2.4)
pub record WantsMore (front : List ℕ) : Type 0 where
  pub n : ℕ
  pub byte : ℕ
  pub rest : List ℕ
  pub in_range : n ≤ max_number
  pub goes_on : front ++ (byte ∷ rest) ≡ spelling n

-- The number that starts at `at` has its bad byte at `place`. The bytes before that place want more, and then the bytes end, or with the byte at that
-- place they begin no number. (2.7)
pub record BadByteAt (s : List ℕ) (at place : ℕ) : Type 0 where
  pub from : at ≤ place
  pub within : place ≤ length s
  pub unfinished : WantsMore (bytes_between s at place)
  pub no_further : (place ≡ length s) ⊎ (Begins (bytes_between s at (place + 1)) → ⊥)

-- From one place up to another stand numbers, each where the one before it ends.
pub data NumbersBetween (s : List ℕ) : (start end : ℕ) → Type 0 where
  nothing_between : {at : ℕ} → NumbersBetween s at at
  number_first : {start end : ℕ} (n : Number) → Spelled s start n → NumbersBetween s n.next end → NumbersBetween s start end

-- Bytes that should be numbers, one after another, have their first bad byte at a place: up to some start they are numbers, and the number that starts there
-- has its bad byte at the place.
pub record FirstBadByte (s : List ℕ) (place : ℕ) : Type 0 where
  pub start : ℕ
  pub before : NumbersBetween s 0 start
  pub bad : BadByteAt s start place

-- ---- what is proved (proofs/BadByte.antt)

-- The number reader refuses with 1 at a place exactly when the bad byte is at this place. (2.7, 2.8)
abbrev pub RefusedAtTheBadByte : Type 0
RefusedAtTheBadByte = (s : List ℕ) (at place : ℕ) → Bytes s → at ≤ length s
    → (number_says (read_at s at) ≡ refused_with 1 place) ↔ BadByteAt s at place

-- A number has at most one bad byte, so no other place fits. (2.7)
abbrev pub OneBadByte : Type 0
OneBadByte = (s : List ℕ) (at place other : ℕ) → BadByteAt s at place → BadByteAt s at other → place ≡ other

-- Bytes have at most one first bad byte, so no other place fits. (2.7)
abbrev pub OneFirstBadByte : Type 0
OneFirstBadByte = (s : List ℕ) (place other : ℕ) → FirstBadByte s place → FirstBadByte s other → place ≡ other

-- There is a bad byte exactly when no number is spelled from the start on. (2.7)
abbrev pub BadByteIfNoNumber : Type 0
BadByteIfNoNumber = (s : List ℕ) (at : ℕ) → Bytes s → at ≤ length s → NoNumber s at ↔ ((place : ℕ) × BadByteAt s at place)

-- Whatever the reader refuses, it refuses with 1, between the number's start and the end of the bytes. (2.7)
abbrev pub RefusedWithOne : Type 0
RefusedWithOne = (s : List ℕ) (at : ℕ) (said : Said) → number_says (read_at s at) ≡ numbered said
    → (said ≡ refusal_at 1 said.first) × (said.first ≤ length s) × (at ≤ length s → at ≤ said.first)

-- A superfluous zero group is bad: 80 00 begins no number, and its bad byte is the 00 at place 1. (2.7)
abbrev pub ZeroGroupIsBad : Type 0
ZeroGroupIsBad = (Begins (128 ∷ 0 ∷ []) → ⊥) × BadByteAt (128 ∷ 0 ∷ []) 0 1

-- A sixth group that asks for more is bad: six times 80 begins no number, and the bad byte is the sixth, with a byte after it or none. (2.7)
abbrev pub SixthGroupIsBad : Type 0
SixthGroupIsBad = (Begins (128 ∷ 128 ∷ 128 ∷ 128 ∷ 128 ∷ 128 ∷ []) → ⊥)
    × BadByteAt (128 ∷ 128 ∷ 128 ∷ 128 ∷ 128 ∷ 128 ∷ []) 0 5
    × BadByteAt (128 ∷ 128 ∷ 128 ∷ 128 ∷ 128 ∷ 128 ∷ 1 ∷ []) 0 5

-- A number that is cut off is bad at the end of the bytes: five times 80 begins a number, and no bytes at all begin one. (2.7, 2.8)
abbrev pub CutOffIsBad : Type 0
CutOffIsBad = Begins (128 ∷ 128 ∷ 128 ∷ 128 ∷ 128 ∷ []) × BadByteAt (128 ∷ 128 ∷ 128 ∷ 128 ∷ 128 ∷ []) 0 5 × Begins [] × BadByteAt [] 0 0
