-- The proofs about a timer that takes the first s ticks of every p. Before the time t it takes floor(t/p) · s + min(s, t mod p) ticks, by induction on t. Over
-- any window this count grows by at most its value for the window's length, so that it bounds every window. The n-th free tick is found by the p − s free ticks
-- of each period.
use Prim.Native.Nat.{ℕ, zero, suc, ◌+◌, ◌-◌, ◌*◌, ◌/◌, ◌%◌, ◌≤◌, ◌<◌, ◌∣◌, min}
use mathlib.Core.Path.{◌≡◌, sym, ◌∙◌}
use mathlib.Core.Bool.{false, true≢false}
use native.Mathlib.Omega.{arith}
use native.Mathlib.Decide.{le_ind}
use native.Mathlib.Nat.{add-mul-div_right, add-mul-mod_self_right, div-add-mod', div-eq_of_lt, div-mul_cancel, le_refl, mod-eq_of_lt, mod-lt}
use borrow.Author.Tests.{lt-ltb, le-ltb}
use Rattle.theory.specs.Ticks.{free_before, free, timer, timer_takes, free_tick_at, TimerTakesAtMost, TimerTakesNoLess}
use Rattle.theory.specs.Ticks.{TimerTakesFromZero, TimerTakesBetween, TimerIsACurve, NoTimer, FreeTicksAreCounted, FreeTickIsFoundByCount}
use Rattle.theory.proofs.Cases.{by_lt, by_test}
use Rattle.theory.proofs.Ticks.{after_a_taken_tick, after_a_free_tick, free_before_grows}

module _ (s p : ℕ) (some : 1 ≤ p) (most : s ≤ p) where
  -- In q whole periods and r more ticks a timer takes q · s + min(s, r) ticks.
  count_at : (q r : ℕ) → r < p → timer_takes s p (r + q * p) ≡ q * s + min s r
  count_at q r h = rw (add-mul-div_right r q some, add-mul-mod_self_right r q p, div-eq_of_lt h, mod-eq_of_lt h) (omega arith)

  -- Every time is a number of whole periods plus a rest.
  parts : (t : ℕ) → t % p + t / p * p ≡ t
  parts t = omega (arith, div-add-mod' t p)

  -- With each tick, the count of free ticks and the timer's count together grow by one.
  count_grows : (t : ℕ) → free_before (timer s p) (suc t) + timer_takes s p (suc t) ≡ suc (free_before (timer s p) t + timer_takes s p t)
  count_grows t =
      let q = t / p in
      let r = t % p in
      let below : r < p = mod-lt t some in
      let next : free_before (timer s p) (suc t) + min s (suc r) ≡ suc (free_before (timer s p) t + min s r) =
      by_lt r s
      (λ taken. omega (arith, after_a_taken_tick (timer s p) t (lt-ltb r s taken)))
      (λ left. omega (arith, after_a_free_tick (timer s p) t (le-ltb r s left))) in
      by_lt (suc r) p
      (λ inside.
      let here : suc r + q * p ≡ suc t = omega (arith, parts t) in
      omega (arith, next, rw here at (count_at q (suc r) inside), rw (parts t) at (count_at q r below)))
      (λ last.
      let here : 0 + suc q * p ≡ suc t = omega (arith, parts t) in
      omega (arith, next, rw here at (count_at (suc q) 0 (omega arith)), rw (parts t) at (count_at q r below)))

  -- The free ticks before a time and the timer's count for it add up to the time.
  counted : (t : ℕ) → free_before (timer s p) t + timer_takes s p t ≡ t
  unfolding free_before
  counted zero = let here : 0 + 0 * p ≡ 0 = omega arith in omega (arith, rw here at (count_at 0 0 (omega arith)))
  counted (suc t) = omega (arith, count_grows t, counted t)

  -- Over a window the timer's count grows by at most its value for the window's length.
  gains_at_most : (a L : ℕ) → timer_takes s p (a + L) ≤ timer_takes s p a + timer_takes s p L
  gains_at_most a L =
      let ra = a % p in
      let rl = L % p in
      let na : ra < p = mod-lt a some in
      let nl : rl < p = mod-lt L some in
      let at_a = rw (parts a) at (count_at (a / p) ra na) in
      let at_L = rw (parts L) at (count_at (L / p) rl nl) in
      by_lt (ra + rl) p
      (λ inside.
      let here : ra + rl + (a / p + L / p) * p ≡ a + L = omega (arith, parts a, parts L) in
      omega (arith, at_a, at_L, rw here at (count_at (a / p + L / p) (ra + rl) inside)))
      (λ over.
      let rest = ra + rl - p in
      let here : rest + suc (a / p + L / p) * p ≡ a + L = omega (arith, parts a, parts L) in
      omega (arith, at_a, at_L, rw here at (count_at (suc (a / p + L / p)) rest (omega arith))))

  -- With each tick the timer's count grows by at most one, and never falls.
  count_never_falls : (t : ℕ) → timer_takes s p t ≤ timer_takes s p (suc t)
  unfolding free_before
  count_never_falls t = by_test (timer s p t)
      (λ taken. omega (arith, count_grows t, after_a_taken_tick (timer s p) t taken))
      (λ left. omega (arith, count_grows t, after_a_free_tick (timer s p) t left))

  -- One period longer, the timer's count is higher by s for each p.
  count_repeats : (period : ℕ) → p ∣ period → (L : ℕ) → timer_takes s p (L + period) ≡ timer_takes s p L + s * (period / p)
  count_repeats period whole L =
      let r = L % p in
      let below : r < p = mod-lt L some in
      let here : r + (L / p + period / p) * p ≡ L + period = omega (arith, parts L, div-mul_cancel p whole) in
      omega (arith, rw (parts L) at (count_at (L / p) r below), rw here at (count_at (L / p + period / p) r below))

pub timer_takes_at_most : TimerTakesAtMost
unfolding free
timer_takes_at_most s p some most a b h =
    let whole : a + (b - a) ≡ b = omega arith in
    omega (arith, counted s p some most a, counted s p some most b, rw whole at (gains_at_most s p some most a (b - a)))

pub timer_takes_no_less : TimerTakesNoLess
unfolding free free_before
timer_takes_no_less s p some most bound few L =
    let whole : L - 0 ≡ L = omega arith in
    omega (arith, counted s p some most L, rw whole at (few 0 L (omega arith)))

pub timer_takes_from_zero : TimerTakesFromZero
unfolding free free_before
timer_takes_from_zero s p some most L = omega (arith, counted s p some most L)

pub timer_takes_between : TimerTakesBetween
unfolding free
timer_takes_between s p some most a b h =
    omega (arith, counted s p some most a, counted s p some most b, free_before_grows (timer s p) a b h)

pub timer_is_a_curve : TimerIsACurve
timer_is_a_curve s p period some most whole = record {
  monotone = λ L M h.
      le_ind (λ m. timer_takes s p L ≤ timer_takes s p m) (le_refl _) (λ m l k. omega (arith, k, count_never_falls s p some most m)) M h;
  repeats = λ L h. count_repeats s p some most period whole L;
}

pub no_timer : NoTimer
no_timer p = (λ t. le-ltb (t % p) 0 (omega arith), λ L. omega arith)

-- ---- free ticks by their number

module _ (s p : ℕ) (few : s < p) where
  -- `w` is how many free ticks a period has.
  abbrev w : ℕ
  w = p - s

  some_free : 1 ≤ w
  some_free = omega arith

  -- q periods have q · s taken ticks and q · w free ones.
  in_periods : (q : ℕ) → q * p ≡ q * s + q * w
  in_periods q =
      let split : q * (s + w) ≡ q * s + q * w = omega arith in
      let whole : s + w ≡ p = omega arith in
      rw whole at split

  -- In the period that starts at q · p, the tick that comes s + r ticks after the start is free, and before it come r free ticks of this period and all those of
  -- the periods before it.
  free_there : (q r : ℕ) → r < w → (timer s p (s + r + q * p) ≡ false) × (free_before (timer s p) (s + r + q * p) ≡ r + q * w)
  free_there q r h =
      let inside : s + r < p = omega arith in (
        rw (add-mul-mod_self_right (s + r) q p, mod-eq_of_lt inside) (le-ltb (s + r) s (omega arith)),
        omega (arith, counted s p (omega arith) (omega arith) (s + r + q * p), count_at s p (omega arith) (omega arith) q (s + r) inside, in_periods q),
      )

pub free_ticks_are_counted : FreeTicksAreCounted
free_ticks_are_counted s p n few =
    let q = n / (p - s) in
    let r = n % (p - s) in
    let there = free_there s p few q r (mod-lt n (some_free s p few)) in
    let here : s + r + q * p ≡ free_tick_at s p n = omega arith in
    let all : r + q * (p - s) ≡ n = omega (arith, div-add-mod' n (p - s)) in
    (rw here at there.0, (rw here at there.1) ∙ all)

pub free_tick_is_found_by_count : FreeTickIsFoundByCount
free_tick_is_found_by_count s p t few left =
    let q = t / p in
    let r = t % p - s in
    let past : s ≤ t % p = by_lt (t % p) s (λ taken. absurd (true≢false (sym (lt-ltb (t % p) s taken) ∙ left))) (λ h. h) in
    let some : 1 ≤ p = omega arith in
    let below : r < p - s = omega (arith, mod-lt t some) in
    let here : s + r + q * p ≡ t = omega (arith, div-add-mod' t p) in
    let many : free_before (timer s p) t ≡ r + q * (p - s) = rw here at (free_there s p few q r below).1 in
    rw (many, add-mul-div_right r q (some_free s p few), add-mul-mod_self_right r q (p - s), div-eq_of_lt below, mod-eq_of_lt below) (omega arith)
