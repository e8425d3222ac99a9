-- What the quick search for a verdict finds, and that it agrees with the scan of every length. (docs/RULES.md, section 5.)
use Rattle.std.specs.Prelude.{ℕ, ◌≤◌, ◌<◌, ◌≡◌, List, Option, MatchOption}
use Rattle.theory.specs.Descent.{FitsBetween, LargestFrom, SmallestFrom}
use Rattle.verdict.specs.declared.Verdict.{Verdict}
use Rattle.verdict.specs.Verdict.{Judged}

-- L is a failing length from lo on.
abbrev pub Failing : (f : ℕ → ℕ) (lo L : ℕ) → Type 0
Failing f lo L = (lo ≤ L) × (L < f L)

-- Either none was found and every length from lo to hi fits, or the largest of them that fails was found.
abbrev pub LargestOrNone : (f : ℕ → ℕ) (lo hi : ℕ) → Option ℕ → Type 0
LargestOrNone f lo hi found = MatchOption found (FitsBetween f lo hi) (LargestFrom f lo hi)

-- Either none was found and every length from lo to hi fits, or the smallest of them that fails was found.
abbrev pub SmallestOrNone : (f : ℕ → ℕ) (lo hi : ℕ) → Option ℕ → Type 0
SmallestOrNone f lo hi found = MatchOption found (FitsBetween f lo hi) (SmallestFrom f lo hi)

-- ---- what is proved (proofs/QuickVerdict.antt)

-- Whatever verdict each of two calls answers for some bytes, the verdicts are the same where both are right for these bytes. So `judge` and
-- `judge_every_length` agree on all bytes. (5.6)
abbrev pub BothAgree : Type 0
BothAgree = (bytes : List ℕ) (quick every : Verdict) → Judged bytes quick → Judged bytes every → quick ≡ every
