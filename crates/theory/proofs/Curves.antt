-- The proofs about curves: sums of curves are curves, and finitely many lengths settle a curve. Up to any bound the lengths can be tried in turn: either they
-- all fit, or there is a smallest that fails. Where the growth is at most the period, a smallest failing length can't lie above period + start, because the
-- curve would fail one period before it too. Where the growth is above the period, each period adds at least one more tick of demand than of length, so that
-- after start + 1 periods the demand is above the length.
use Prim.Native.Nat.{ℕ, zero, suc, ◌+◌, ◌-◌, ◌*◌, ◌≤◌, ◌<◌}
use mathlib.Core.Path.{◌≡◌}
use mathlib.Core.Logic.{◌⊎◌, inl, inr, ⊎_elim}
use mathlib.Core.List.{[], ◌∷◌}
use native.Mathlib.Omega.{arith}
use native.Mathlib.Nat.{zero-mul, zero-add, mul-le-mul_left}
use Rattle.theory.specs.Lists.{total}
use Rattle.theory.specs.Curves.{Curve, EveryLengthFits, SmallestFailing, FitsUpTo, FailsUpTo}
use Rattle.theory.specs.Curves.{SumsAreCurves, StartsLater, SettledWithinAPeriod, SmallestWithinAPeriod, FailsWhenGrowthIsAbove}
use Rattle.theory.specs.Curves.{HasSmallestFailing, Decided, OneSmallestFailing, NoneWhereEveryLengthFits}
use Rattle.theory.proofs.Cases.{by_lt}

-- ---- making curves

-- The function that is 0 for every length is a curve.
pub nothing_is_a_curve : (start period : ℕ) → Curve (λ L. 0) start period 0
nothing_is_a_curve start period = record { monotone = λ L M h. omega arith; repeats = λ L h. omega arith }

-- The sum of two curves with the same start and the same period is a curve, and its growth is the sum of their growths.
pub two_curves_add_up : {f g : ℕ → ℕ} {start period growth growth' : ℕ} → Curve f start period growth → Curve g start period growth'
    → Curve (λ L. f L + g L) start period (growth + growth')
two_curves_add_up c e = record {
  monotone = λ L M h. omega (arith, c.monotone L M h, e.monotone L M h);
  repeats = λ L h. omega (arith, c.repeats L h, e.repeats L h);
}

-- The sum of a list of curves with the same start and the same period is a curve, and its growth is the sum of their growths.
pub sums_are_curves : SumsAreCurves
unfolding total
sums_are_curves A f growth start period [] curves = nothing_is_a_curve start period
sums_are_curves A f growth start period (a ∷ l) curves = two_curves_add_up curves.0 (sums_are_curves A f growth start period l curves.1)

-- A curve with some start is also a curve with any later start.
pub starts_later : StartsLater
starts_later f start later period growth h curve = record { monotone = curve.monotone; repeats = λ L k. curve.repeats L (omega arith) }

-- ---- the smallest failing length

-- A smallest failing length at or below m is at or below every n from m on.
fails_up_to_more : {f : ℕ → ℕ} {m n : ℕ} → m ≤ n → FailsUpTo f m → FailsUpTo f n
fails_up_to_more h s = (s.0, s.1, omega arith)

-- Where the lengths up to n fit and the next one fails, that next one is the smallest failing length.
next_is_smallest : (f : ℕ → ℕ) (n : ℕ) → FitsUpTo f n → suc n < f (suc n) → SmallestFailing f (suc n)
next_is_smallest f n fit h = record { some_length = omega arith; fails = h; smaller_fit = λ M p l. fit M p (omega arith) }

-- Where the lengths up to n fit and n + 1 fits, the lengths up to n + 1 fit.
next_fits_too : (f : ℕ → ℕ) (n : ℕ) → FitsUpTo f n → f (suc n) ≤ suc n → FitsUpTo f (suc n)
next_fits_too f n fit h L p l = by_lt n L (λ k. let e : L ≡ suc n = omega arith in rw e h) (λ k. fit L p k)

-- Either every length up to n fits, or there is a smallest failing length at or below n. The lengths are tried in turn.
pub fits_or_fails_up_to : (f : ℕ → ℕ) (n : ℕ) → FitsUpTo f n ⊎ FailsUpTo f n
fits_or_fails_up_to f zero = inl (λ L p l. absurd (omega arith))
fits_or_fails_up_to f (suc n) = ⊎_elim
    (λ fit. by_lt (suc n) (f (suc n)) (λ h. inr (suc n, next_is_smallest f n fit h, omega arith)) (λ h. inl (next_fits_too f n fit h)))
    (λ s. inr (fails_up_to_more (omega arith) s)) (fits_or_fails_up_to f n)

-- Where a length fails, there is a smallest failing length at or below it.
pub has_smallest_failing : HasSmallestFailing
has_smallest_failing f L p h = ⊎_elim (λ fit. absurd (omega (arith, fit L p (omega arith)))) (λ s. s) (fits_or_fails_up_to f L)

-- No failing length is below the smallest.
pub none_fails_below : {f : ℕ → ℕ} {L : ℕ} → SmallestFailing f L → (M : ℕ) → 1 ≤ M → M < f M → L ≤ M
none_fails_below {f} {L} s M p h = by_lt M L (λ k. omega (arith, s.smaller_fit M p k)) (λ k. k)

-- There is at most one smallest failing length.
pub one_smallest_failing : OneSmallestFailing
one_smallest_failing f L M s t =
    omega (arith, none_fails_below s M t.some_length t.fails, none_fails_below t L s.some_length s.fails)

-- Where every length fits, there is no smallest failing length.
pub none_where_every_length_fits : NoneWhereEveryLengthFits
none_where_every_length_fits f L fit s = omega (arith, fit L s.some_length)

-- ---- growth above the period

-- After k periods a curve is higher by k times its growth.
pub repeats_times : {f : ℕ → ℕ} {start period growth : ℕ} → Curve f start period growth
    → (L k : ℕ) → start ≤ L → f (k * period + L) ≡ k * growth + f L
repeats_times curve L zero h = simp (zero-mul, zero-add)
repeats_times {period = period} curve L (suc k) h =
    let e : suc k * period + L ≡ k * period + L + period = omega arith in
    rw e (omega (arith, curve.repeats (k * period + L) (omega arith), repeats_times curve L k h))

-- Where the growth is above the period, the curve fails start + 1 periods after its start.
pub fails_when_growth_is_above : FailsWhenGrowthIsAbove
fails_when_growth_is_above f start period growth curve above =
    omega (arith, repeats_times curve start (start + 1) (omega arith), mul-le-mul_left (start + 1) above)

-- ---- growth at most the period

-- The smallest failing length is at most period + start, because one period before any longer failing length there is another failing length.
pub smallest_within_a_period : SmallestWithinAPeriod
smallest_within_a_period f start period growth curve some_period slow L s = by_lt (period + start) L
    (λ far.
    let e : L - period + period ≡ L = omega arith in
    omega (arith, s.smaller_fit (L - period) (omega arith) (omega arith), rw e at (curve.repeats (L - period) (omega arith))))
    (λ near. near)

-- Where every length up to period + start fits, every length fits, because no length can be the smallest failing one.
pub settled_within_a_period : SettledWithinAPeriod
settled_within_a_period f start period growth curve some_period slow fit L p = by_lt L (f L)
    (λ h.
    let s : FailsUpTo f L = has_smallest_failing f L p h in
    let near = smallest_within_a_period f start period growth curve some_period slow s.0 s.1 in
    omega (arith, fit s.0 s.1.some_length near))
    (λ h. h)

-- Where the growth is at most the period, every length fits, or there is a smallest failing length at or below period + start.
pub decided_within_a_period : (f : ℕ → ℕ) (start period growth : ℕ) → Curve f start period growth → 1 ≤ period → growth ≤ period
    → EveryLengthFits f ⊎ FailsUpTo f (period + start)
decided_within_a_period f start period growth curve some_period slow =
    ⊎_elim (λ fit. inl (settled_within_a_period f start period growth curve some_period slow fit)) inr (fits_or_fails_up_to f (period + start))

-- Whatever the growth is, every length fits, or there is a smallest failing length at or below (start + 1) · period + start.
pub decided : Decided
decided f start period growth curve some_period = by_lt period growth
    (λ above. inr (has_smallest_failing f ((start + 1) * period + start) (omega arith) (fails_when_growth_is_above f start period growth curve above)))
    (λ slow. ⊎_elim inl (λ s. inr (fails_up_to_more (omega arith) s)) (decided_within_a_period f start period growth curve some_period slow))
