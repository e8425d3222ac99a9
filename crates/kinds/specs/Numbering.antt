-- The largest time, the numbers of the refusals, and what an answer says to a caller outside. (docs/RULES.md, sections 6, 9 and 10.)
use Rattle.std.specs.Prelude.{ℕ, ◌^◌, ◌≤◌, ◌<◌, ◌≡◌, ◌⊎◌, List, [], ◌∷◌, map}
use Rattle.kinds.specs.declared.Refusal.{Refusal}
use Rattle.kinds.specs.declared.Refusal.TheVariants as refusal
use Rattle.kinds.specs.declared.RefusedAt.{RefusedAt}

-- The largest time, 2^40. No clock, script time or due time may be above it. (4.7, 6.1, 8.6)
abbrev pub max_time : ℕ
max_time = 2 ^ 40

-- The number of each refusal. (10.3)
abbrev pub refusal_number : Refusal → ℕ
refusal_number refusal.Misspelled = 1
refusal_number refusal.TooManyRows = 2
refusal_number refusal.ValueOutOfRange = 3
refusal_number refusal.ExtraBytes = 4
refusal_number refusal.PeriodTooLong = 5
refusal_number refusal.NoSuchRow = 6
refusal_number refusal.CostOutOfRange = 7
refusal_number refusal.PlacesFull = 8
refusal_number refusal.DueTooLate = 9
refusal_number refusal.TimeTooLate = 10
refusal_number refusal.RunNotSound = 11
refusal_number refusal.NoRoom = 12
refusal_number refusal.AnswerNot16Bytes = 13
refusal_number refusal.ScriptMisspelled = 14
refusal_number refusal.HopelessRow = 16
refusal_number refusal.NotPending = 17
refusal_number refusal.TooManyEnded = 18
refusal_number refusal.NumberTooBig = 25

-- What an answer with a number says: its number and two more numbers, which are 0 where there is nothing to say. (9.5)
pub record Said : Type 0 where
  pub number : ℕ
  pub first : ℕ
  pub second : ℕ

-- A refusal says its number, its place and 0. (1.17, 9.5)
abbrev pub refused_says : RefusedAt → Said
refused_says r = record { number = refusal_number r.refusal; first = r.place; second = 0 }

-- What is said about a refusal: its number, its place and 0. (9.5)
abbrev pub refusal_at : (number place : ℕ) → Said
refusal_at number place = record { number = number; first = place; second = 0 }

-- A refusal for which the rules name no place has place 0. (10.2)
abbrev pub without_place : Refusal → RefusedAt
without_place r = record { refusal = r; place = 0 }

-- What any answer of a call says. (1.17)
pub data Says : Type 0 where
  -- An answer that has a number in the rules says that number and two more.
  numbered : Said → Says
  -- Any other answer says its values alone.
  values : List ℕ → Says

-- An answer that is a refusal says the refusal's number and place. A refusal that names no place says place 0. (9.5, 10.2)
abbrev pub refused_with : (number place : ℕ) → Says
refused_with number place = numbered (refusal_at number place)

-- ---- what it is for answers never to be numbered 0, and to be told apart

-- An answer that has a number does not have the number 0. (1.16)
abbrev pub NotZero : Says → Type 0
NotZero (numbered s) = 1 ≤ s.number
NotZero (values vs) = Unit {0}

-- No answer of type A has the number 0, where `says` tells what each answer says. (1.16)
abbrev pub NeverNumberedZero : {A : Type 0} → (A → Says) → Type 0
NeverNumberedZero {A} says = (a : A) → NotZero (says a)

-- Two different answers of type A never say the same, where `says` tells what each answer says.
abbrev pub SaysApart : {A : Type 0} → (A → Says) → Type 0
SaysApart {A} says = (a b : A) → says a ≡ says b → a ≡ b

-- ---- what is proved about the numbers (proofs/Numbering.antt)

-- No two refusals share a number. (10.1)
abbrev pub NumbersDiffer : Type 0
NumbersDiffer = (r s : Refusal) → refusal_number r ≡ refusal_number s → r ≡ s

-- Two refusals with places that say the same are the same refusal at the same place. (10.1)
abbrev pub RefusalsApart : Type 0
RefusalsApart = SaysApart (λ (r : RefusedAt). numbered (refused_says r))

-- Two refusals without a place that say the same are the same refusal. (10.1)
abbrev pub PlainRefusalsApart : Type 0
PlainRefusalsApart = SaysApart (λ (r : Refusal). numbered (refused_says (without_place r)))

-- No refusal has the number 0. (1.16)
abbrev pub NeverZero : Type 0
NeverZero = (r : Refusal) → 1 ≤ refusal_number r

-- No refusal has one of the numbers 20 to 23, which belong to the other answers. (1.15)
abbrev pub NeverAnAnswer : Type 0
NeverAnAnswer = (r : Refusal) → (refusal_number r < 20) ⊎ (23 < refusal_number r)

-- The largest time is 2^40 = 1,099,511,627,776. (6.1)
abbrev pub LatestTime : Type 0
LatestTime = max_time ≡ 1099511627776

-- All refusals, in the order of the rules' table. (10.3)
abbrev pub all_refusals : List Refusal
all_refusals =
    refusal.Misspelled
    ∷ refusal.TooManyRows
    ∷ refusal.ValueOutOfRange
    ∷ refusal.ExtraBytes
    ∷ refusal.PeriodTooLong
    ∷ refusal.NoSuchRow
    ∷ refusal.CostOutOfRange
    ∷ refusal.PlacesFull
    ∷ refusal.DueTooLate
    ∷ refusal.TimeTooLate
    ∷ refusal.RunNotSound
    ∷ refusal.NoRoom
    ∷ refusal.AnswerNot16Bytes
    ∷ refusal.ScriptMisspelled
    ∷ refusal.HopelessRow
    ∷ refusal.NotPending
    ∷ refusal.TooManyEnded
    ∷ refusal.NumberTooBig
    ∷ []

-- The numbers of the refusals, in the order of the rules' table, are 1 to 14, then 16 to 18 and then 25. (10.3)
abbrev pub NumbersInOrder : Type 0
NumbersInOrder = map refusal_number all_refusals ≡ 1 ∷ 2 ∷ 3 ∷ 4 ∷ 5 ∷ 6 ∷ 7 ∷ 8 ∷ 9 ∷ 10 ∷ 11 ∷ 12 ∷ 13 ∷ 14 ∷ 16 ∷ 17 ∷ 18 ∷ 25 ∷ []

-- A refusal at a place says its number, the place and 0. (9.5)
abbrev pub RefusalSays : Type 0
RefusalSays = (r : Refusal) (place : ℕ)
    → refused_says (record { refusal = r; place = place }) ≡ record { number = refusal_number r; first = place; second = 0 }
