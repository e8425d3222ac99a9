-- Demand curves. A curve gives the demand in each length of time. From its start on it repeats itself: one period later it is higher by its growth. A row's
-- demand is a curve, and so is a sum of curves with the same start and period. Two bounds settle a curve for every length, however long. Where the growth is at
-- most the period, it is enough to look at the lengths up to period + start. Where the growth is above the period, some length up to
-- (start + 1) · period + start has more demand than length. (docs/RULES.md, section 5.)
use Rattle.std.specs.Prelude.{ℕ, ◌+◌, ◌*◌, ◌≤◌, ◌<◌, ◌≡◌, ◌⊎◌, List}
use Rattle.theory.specs.Lists.{All, total}

-- The function f is a curve: it never falls, and from its start on it is higher by its growth one period later.
pub record Curve (f : ℕ → ℕ) (start period growth : ℕ) : Type 0 where
  pub monotone : (L M : ℕ) → L ≤ M → f L ≤ f M
  pub repeats : (L : ℕ) → start ≤ L → f (L + period) ≡ f L + growth

-- No length, however long, has more demand than length. A length with no more demand than length is said to fit. (5.4)
abbrev pub EveryLengthFits : (ℕ → ℕ) → Type 0
EveryLengthFits f = (L : ℕ) → 1 ≤ L → f L ≤ L

-- L is the smallest length whose demand is above it. A length whose demand is above it is said to fail. (5.5)
pub record SmallestFailing (f : ℕ → ℕ) (L : ℕ) : Type 0 where
  pub some_length : 1 ≤ L
  pub fails : L < f L
  pub smaller_fit : (M : ℕ) → 1 ≤ M → M < L → f M ≤ M

-- Every length from 1 to n fits: its demand is at most the length.
abbrev pub FitsUpTo : (ℕ → ℕ) → ℕ → Type 0
FitsUpTo f n = (L : ℕ) → 1 ≤ L → L ≤ n → f L ≤ L

-- There is a smallest failing length, and it is at or below n.
abbrev pub FailsUpTo : (ℕ → ℕ) → ℕ → Type 0
FailsUpTo f n = (L : ℕ) × SmallestFailing f L × (L ≤ n)

-- The sum over a list's elements of their demands in a length L. For the rows of a table it is the table's demand. (5.3)
abbrev pub sum_over : {A : Type 0} → (A → ℕ → ℕ) → List A → ℕ → ℕ
sum_over f l L = total (λ a. f a L) l

-- ---- what is proved about curves (proofs/Curves.antt)

-- A sum of curves with the same start and the same period is a curve, and its growth is the sum of their growths.
abbrev pub SumsAreCurves : Type 1
SumsAreCurves = (A : Type 0) (f : A → ℕ → ℕ) (growth : A → ℕ) (start period : ℕ) (l : List A)
    → All (λ a. Curve (f a) start period (growth a)) l → Curve (sum_over f l) start period (total growth l)

-- A curve with some start is also a curve with any later start.
abbrev pub StartsLater : Type 0
StartsLater = (f : ℕ → ℕ) (start later period growth : ℕ) → start ≤ later → Curve f start period growth → Curve f later period growth

-- Where the growth is at most the period and the lengths up to period + start fit, every length fits. (5.8)
abbrev pub SettledWithinAPeriod : Type 0
SettledWithinAPeriod = (f : ℕ → ℕ) (start period growth : ℕ) → Curve f start period growth → 1 ≤ period → growth ≤ period
    → FitsUpTo f (period + start) → EveryLengthFits f

-- Where the growth is at most the period, the smallest failing length, if there is one, is at most period + start. (5.8)
abbrev pub SmallestWithinAPeriod : Type 0
SmallestWithinAPeriod = (f : ℕ → ℕ) (start period growth : ℕ) → Curve f start period growth → 1 ≤ period → growth ≤ period
    → (L : ℕ) → SmallestFailing f L → L ≤ period + start

-- Where the growth is above the period, the length (start + 1) · period + start fails. (5.9)
abbrev pub FailsWhenGrowthIsAbove : Type 0
FailsWhenGrowthIsAbove = (f : ℕ → ℕ) (start period growth : ℕ) → Curve f start period growth → period < growth
    → (start + 1) * period + start < f ((start + 1) * period + start)

-- Where a length fails, there is a smallest failing length at or below it. (5.5)
abbrev pub HasSmallestFailing : Type 0
HasSmallestFailing = (f : ℕ → ℕ) (L : ℕ) → 1 ≤ L → L < f L → FailsUpTo f L

-- Whatever the growth is, either every length fits, or there is a smallest failing length at or below (start + 1) · period + start. (5.6, 5.9)
abbrev pub Decided : Type 0
Decided = (f : ℕ → ℕ) (start period growth : ℕ) → Curve f start period growth → 1 ≤ period
    → EveryLengthFits f ⊎ FailsUpTo f ((start + 1) * period + start)

-- There is at most one smallest failing length. (5.5)
abbrev pub OneSmallestFailing : Type 0
OneSmallestFailing = (f : ℕ → ℕ) (L M : ℕ) → SmallestFailing f L → SmallestFailing f M → L ≡ M

-- Where every length fits, there is no smallest failing length. (5.6)
abbrev pub NoneWhereEveryLengthFits : Type 0
NoneWhereEveryLengthFits = (f : ℕ → ℕ) (L : ℕ) → EveryLengthFits f → ¬ SmallestFailing f L
