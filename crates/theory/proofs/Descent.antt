-- The proofs about curves by descent. Each length above the start is some whole periods j above a length q of the first period after the start, and there it
-- fails exactly when q fails the curve raised by j times the excess of the growth over the period.
use Prim.Native.Nat.{ℕ, ◌+◌, ◌-◌, ◌*◌, ◌/◌, ◌%◌, ◌≤◌, ◌<◌}
use mathlib.Core.Path.{◌≡◌, ap}
use native.Mathlib.Omega.{arith}
use native.Mathlib.Nat.{div-add-mod', div-mul-le_self, lt-div-mul-add, mod-lt, mul-le-mul_left, mul-le-mul_right}
use Rattle.theory.specs.Curves.{Curve, FitsUpTo}
use Rattle.theory.specs.Descent.{raised, LeastSlack, SmallestFrom, periods_to_fail, Descent, TightestFails, FailsSoon, Late}
use Rattle.theory.proofs.Cases.{by_lt}
use Rattle.theory.proofs.Curves.{repeats_times}

-- The demand in every length between is at most that in t.
pub descent : Descent
descent f extra t never_falls fits L low high = omega (arith, never_falls L t high)

-- One period more than the slack lasts for uses up more than the slack.
more_than_slack : (m over : ℕ) → 1 ≤ over → m < periods_to_fail m over * over
more_than_slack m over some = omega (arith, lt-div-mul-add {a = m} {b = over} some)

pub tightest_fails : TightestFails
tightest_fails f lo hi m over some least = omega (arith, more_than_slack m over some, least.no_more)

-- At start + period the slack is at most the start, less the excess of the growth.
pub fails_soon : FailsSoon
fails_soon f start period over m curve some_period some least =
    let k = periods_to_fail m over in
    let all : m + over ≤ start = omega (arith, curve.repeats start (omega arith), least.to_spare (start + period) (omega arith) (omega arith)) in
    let used : k * over ≤ start = omega (arith, div-mul-le_self m over) in
    (all, used, omega (arith, mul-le-mul_left k some))

-- ---- late failing lengths

-- A length above the start is j periods above a length q of the first period after the start.
record Folded (start period L : ℕ) : Type 0 where
  periods : ℕ
  place : ℕ
  above_start : start + 1 ≤ place
  within_period : place ≤ start + period
  adds_up : periods * period + place ≡ L

-- Every length above the start is folded so.
folded : (start period L : ℕ) → 1 ≤ period → start < L → Folded start period L
folded start period L some above =
    let n = L - (start + 1) in
    record {
      periods = n / period;
      place = start + 1 + n % period;
      above_start = omega arith;
      within_period = omega (arith, mod-lt n some);
      adds_up = omega (arith, div-add-mod' n period);
    }

module _ (f : ℕ → ℕ) (start period over m r : ℕ) (curve : Curve f start period (period + over)) (some_period : 1 ≤ period) (some : 1 ≤ over)
    (least : LeastSlack f (start + 1) (start + period) m)
    (first : SmallestFrom (raised f (periods_to_fail m over * over)) (start + 1) (start + period) r) where
  -- The demand j periods after a length q above the start.
  after_periods : (q j : ℕ) → start ≤ q → f (j * period + q) ≡ j * period + j * over + f q
  after_periods q j h = omega (arith, repeats_times curve q j h)

  -- A length above the start that is smaller than the one found fits.
  folded_fits : (q j : ℕ) → start + 1 ≤ q → q ≤ start + period → j * period + q < periods_to_fail m over * period + r → f (j * period + q) ≤ j * period + q
  folded_fits q j low high below =
      let k = periods_to_fail m over in
      let e = after_periods q j (omega arith) in
      by_lt j k
      (λ soon.
      let lasts : j ≤ m / over = omega arith in
      omega (arith, e, mul-le-mul_right over lasts, div-mul-le_self m over, least.to_spare q low high))
      (λ late. by_lt k j
      (λ later. absurd (omega (arith, mul-le-mul_right period later, first.to_hi)))
      (λ same.
      let it : j ≡ k = omega arith in
      omega (arith, e, ap (λ n. n * over) it, first.smaller_fit q low (omega (arith, rw it at below)))))

  -- The same for a length that is given by where it is folded to.
  where_folded : (M : ℕ) → Folded start period M → M < periods_to_fail m over * period + r → f M ≤ M
  where_folded M at below =
      rw at.adds_up at (folded_fits at.place at.periods at.above_start at.within_period (omega (arith, at.adds_up)))

  -- Every smaller length fits: up to the start by what is known, and above it because it is folded.
  smaller_fits : FitsUpTo f start → (M : ℕ) → 1 ≤ M → M < periods_to_fail m over * period + r → f M ≤ M
  smaller_fits fit M one below = by_lt start M
      (λ above. where_folded M (folded start period M some_period above) below)
      (λ low. fit M one low)

pub late : Late
late f start period over m r curve some_period some fit least first =
    let k = periods_to_fail m over in
    let e = after_periods f start period over m r curve some_period some least first r k (omega (arith, first.from_lo)) in (
      record {
        some_length = omega (arith, first.from_lo);
        fails = omega (arith, e, first.fails);
        smaller_fit = smaller_fits f start period over m r curve some_period some least first fit;
      },
      omega (arith, e),
    )
