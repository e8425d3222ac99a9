-- Curves by descent. Where a curve never falls, one length that fits with room to spare settles all lengths down to its demand, so that a stretch of lengths is
-- settled from its end by few looks. Where the growth is above the period and the lengths of the first period fit, the smallest failing length is some whole
-- periods above a length of that first period, and looks at that period alone tell which. (docs/RULES.md, 5.4 to 5.9.)
use Rattle.std.specs.Prelude.{ℕ, ◌+◌, ◌*◌, ◌/◌, ◌≤◌, ◌<◌, ◌≡◌}
use Rattle.theory.specs.Curves.{Curve, SmallestFailing, FitsUpTo}

-- In a longer time the function is no smaller.
abbrev pub NeverFalls : (ℕ → ℕ) → Type 0
NeverFalls f = (L M : ℕ) → L ≤ M → f L ≤ f M

-- The curve that is higher by `extra` in every length. A length fits it exactly when it fits f with at least `extra` ticks to spare.
abbrev pub raised : (ℕ → ℕ) → (extra : ℕ) → ℕ → ℕ
raised f extra L = f L + extra

-- Every length from lo to hi fits.
abbrev pub FitsBetween : (ℕ → ℕ) → (lo hi : ℕ) → Type 0
FitsBetween f lo hi = (L : ℕ) → lo ≤ L → L ≤ hi → f L ≤ L

-- L is a failing length from lo to hi, and every length from L + 1 to hi fits.
pub record LargestFrom (f : ℕ → ℕ) (lo hi L : ℕ) : Type 0 where
  pub from_lo : lo ≤ L
  pub to_hi : L ≤ hi
  pub fails : L < f L
  pub larger_fit : (M : ℕ) → L < M → M ≤ hi → f M ≤ M

-- L is a failing length from lo to hi, and every length from lo to L − 1 fits.
pub record SmallestFrom (f : ℕ → ℕ) (lo hi L : ℕ) : Type 0 where
  pub from_lo : lo ≤ L
  pub to_hi : L ≤ hi
  pub fails : L < f L
  pub smaller_fit : (M : ℕ) → lo ≤ M → M < L → f M ≤ M

-- Each length from lo to hi fits with at least m ticks to spare, and one of them with exactly m.
pub record LeastSlack (f : ℕ → ℕ) (lo hi m : ℕ) : Type 0 where
  pub to_spare : (L : ℕ) → lo ≤ L → L ≤ hi → f L + m ≤ L
  pub tightest : ℕ
  pub from_lo : lo ≤ tightest
  pub to_hi : tightest ≤ hi
  pub no_more : f tightest + m ≡ tightest

-- Where the demand grows in each period by `over` more than the period, and m is the least slack of one period, the slack of that period is used up after so
-- many periods.
abbrev pub periods_to_fail : (m over : ℕ) → ℕ
periods_to_fail m over = m / over + 1

-- ---- what is proved (proofs/Descent.antt)

-- Where f never falls and the length t fits the raised f, every length from that demand to t fits the raised f.
abbrev pub Descent : Type 0
Descent = (f : ℕ → ℕ) (extra t : ℕ) → NeverFalls f → raised f extra t ≤ t → FitsBetween (raised f extra) (raised f extra t) t

-- The length with the least slack is a failing length after `periods_to_fail` periods. So some length of the period is the smallest such one. (5.9)
abbrev pub TightestFails : Type 0
TightestFails = (f : ℕ → ℕ) (lo hi m over : ℕ) → 1 ≤ over → (least : LeastSlack f lo hi m)
    → least.tightest < raised f (periods_to_fail m over * over) least.tightest

-- Where the growth is above the period by `over`, the slack used up in `periods_to_fail` periods is at most the start, and so is the number of these periods.
-- (5.9)
abbrev pub FailsSoon : Type 0
FailsSoon = (f : ℕ → ℕ) (start period over m : ℕ) → Curve f start period (period + over) → 1 ≤ period → 1 ≤ over
    → LeastSlack f (start + 1) (start + period) m
    → (m + over ≤ start) × (periods_to_fail m over * over ≤ start) × (periods_to_fail m over ≤ start)

-- Where the growth is above the period by `over` and the lengths up to the start fit, let m be the least slack of the period after the start, k the number of
-- `periods_to_fail`, and r the smallest length of that period that fails the curve raised by k · over. Then the smallest failing length is k periods after r, and
-- its demand is that in r and k times the growth. (5.5, 5.9)
abbrev pub Late : Type 0
Late = (f : ℕ → ℕ) (start period over m r : ℕ) → Curve f start period (period + over) → 1 ≤ period → 1 ≤ over → FitsUpTo f start
    → LeastSlack f (start + 1) (start + period) m
    → SmallestFrom (raised f (periods_to_fail m over * over)) (start + 1) (start + period) r
    → SmallestFailing f (periods_to_fail m over * period + r)
    × (f (periods_to_fail m over * period + r) ≡ periods_to_fail m over * (period + over) + f r)
