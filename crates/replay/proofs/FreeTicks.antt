-- Free ticks as the code counts them: how many come before a time, and when the n-th of them has ended. (docs/RULES.md, 6.5.)
use Prim.Native.Nat.{ℕ, suc, ◌+◌, ◌-◌, ◌*◌, ◌/◌, ◌≤◌, ◌<◌}
use mathlib.Core.Path.{◌≡◌, ap, ◌∙◌}
use native.Mathlib.Omega.{arith}
use native.Mathlib.Nat.{div-add-mod', mul-le-mul_right}
use Rattle.kinds.specs.Numbering.{max_time}
use Rattle.theory.specs.Ticks.{free_before, free, timer, timer_takes, free_tick_at}
use Rattle.theory.proofs.Cases.{by_lt}
use Rattle.theory.proofs.Ticks.{free_before_grows, after_a_free_tick}
use Rattle.theory.proofs.Timers.{free_ticks_are_counted, timer_takes_from_zero}
use Rattle.table.specs.Timer.{GoodTimer}

-- The free ticks before a time and the ticks that the timer takes before it add up to the time.
pub free_and_taken : (s p t : ℕ) → s < p → free_before (timer s p) t + timer_takes s p t ≡ t
unfolding free free_before
free_and_taken s p t few = omega (arith, timer_takes_from_zero s p (omega arith) (omega arith) t)

-- Where s is 0, all ticks before a time are free.
pub all_before_free : (s p t : ℕ) → s < p → s ≡ 0 → t ≡ free_before (timer s p) t
all_before_free s p t few none =
    let nothing : t / p * s ≡ 0 = rw none (omega arith) in
    omega (arith, free_and_taken s p t few, nothing)

-- Where s is 0, the n-th free tick is the n-th tick.
pub each_is_free : (s p n : ℕ) → s ≡ 0 → 1 ≤ n → n ≡ free_tick_at s p (n - 1) + 1
each_is_free s p n none some =
    let whole : p - 0 ≡ p = omega arith in
    rw (none, whole) (omega (arith, div-add-mod' (n - 1) p))

-- The start of the period in which the n-th free tick comes is no large number.
pub small_start : (s p n : ℕ) → GoodTimer s p → n ≤ max_time → n / (p - s) * p ≤ max_time * 4096
small_start s p n good soon =
    let w = p - s in
    let some : 1 ≤ w = omega (arith, good.s_below_p) in
    let few : n / w ≤ max_time = omega (arith, mul-le-mul_right (n / w) some, div-add-mod' n w) in
    omega (arith, mul-le-mul_right p few, good.most_p)

module _ (s p : ℕ) (few : s < p) where
  -- Right after the n-th free tick, counted from 1, there have been n free ticks.
  pub free_after : (n : ℕ) → 1 ≤ n → free_before (timer s p) (free_tick_at s p (n - 1) + 1) ≡ n
  free_after n some =
      let there = free_ticks_are_counted s p (n - 1) few in
      let next : free_tick_at s p (n - 1) + 1 ≡ suc (free_tick_at s p (n - 1)) = omega arith in
      ap (free_before (timer s p)) next ∙ omega (arith, after_a_free_tick (timer s p) (free_tick_at s p (n - 1)) there.0, there.1)

  -- Where there are at least n free ticks before a time, the n-th of them has ended by that time.
  pub ended_by : (n until : ℕ) → 1 ≤ n → n ≤ free_before (timer s p) until → free_tick_at s p (n - 1) + 1 ≤ until
  ended_by n until some enough = by_lt (free_tick_at s p (n - 1)) until
      (λ before. omega arith)
      (λ past.
      absurd (omega (arith, (free_ticks_are_counted s p (n - 1) few).1, free_before_grows (timer s p) until (free_tick_at s p (n - 1)) past)))
