-- The period of some numbers, which is their least common multiple within a limit, and what the answers say. (docs/RULES.md, 3.4, 3.5, 3.12 and 10.7.)
use Rattle.std.specs.Prelude.{ℕ, ◌≤◌, ◌<◌, ◌≡◌, ◌↔◌, Bool, cond, leb, Result, Ok, Err}
use Rattle.std.specs.List.{list_all}
use mathlib.Core.List.{List, [], ◌∷◌, Memᴰ}
use Rattle.kinds.specs.declared.Refusal.{Refusal}
use Rattle.kinds.specs.declared.Refusal.TheVariants.{ValueOutOfRange, PeriodTooLong}
use Rattle.kinds.specs.Numbering.{Says, numbered, values, refused_says, without_place, NeverNumberedZero, SaysApart, refused_with}
use Rattle.periods.specs.Multiples.{least_common_multiple}

-- The test that none of the numbers is 0.
abbrev pub all_positive : List ℕ → Bool
all_positive ys = list_all (λ y. leb 1 y) ys

-- The answer for some numbers and a limit. It is refusal 3 where one of the numbers is 0, refusal 5 where their least common multiple is above the limit, and
-- else the least common multiple. (3.4, 3.12, 10.7)
abbrev pub period_within : (limit : ℕ) → List ℕ → Result ℕ Refusal
period_within limit ys =
    cond (all_positive ys) (cond (leb (least_common_multiple ys) limit) (Ok (least_common_multiple ys)) (Err PeriodTooLong)) (Err ValueOutOfRange)

-- The answer says the least common multiple, or the refusal, which names no place. (1.17, 10.2, 10.7)
abbrev pub period_says : Result ℕ Refusal → Says
period_says (Ok h) = values (h ∷ [])
period_says (Err r) = numbered (refused_says (without_place r))

-- Each of the numbers is at least 1.
abbrev pub EachPositive : List ℕ → Type 0
EachPositive ys = (y : ℕ) → Memᴰ y ys → 1 ≤ y

-- ---- what is proved (proofs/Periods.antt)

-- The answer says h exactly when each number is at least 1, h is their least common multiple, and h is at most the limit. (3.4, 10.7)
abbrev pub PeriodMeans : Type 0
PeriodMeans = (limit : ℕ) (ys : List ℕ) (h : ℕ)
    → (period_says (period_within limit ys) ≡ values (h ∷ [])) ↔ (EachPositive ys × (h ≡ least_common_multiple ys) × (h ≤ limit))

-- The answer is refusal 5 exactly when each number is at least 1 and their least common multiple is above the limit. (3.12, 10.7)
abbrev pub TooLongMeans : Type 0
TooLongMeans = (limit : ℕ) (ys : List ℕ)
    → (period_says (period_within limit ys) ≡ refused_with 5 0) ↔ (EachPositive ys × (limit < least_common_multiple ys))

-- The answer is refusal 3 exactly when one of the numbers is 0. (10.7)
abbrev pub ZeroMeans : Type 0
ZeroMeans = (limit : ℕ) (ys : List ℕ) → (period_says (period_within limit ys) ≡ refused_with 3 0) ↔ Memᴰ 0 ys

-- No answer has the number 0. (1.16)
abbrev pub PeriodsNeverZero : Type 0
PeriodsNeverZero = NeverNumberedZero period_says

-- Two different answers never say the same.
abbrev pub PeriodsSaidApart : Type 0
PeriodsSaidApart = SaysApart period_says
