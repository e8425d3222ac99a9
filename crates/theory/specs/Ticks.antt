-- Free ticks and taken ticks. `taken t` says that no job can have the tick that starts at t. Every other tick is free. Where every tick is free, a window has
-- as many free ticks as its length.
use Rattle.std.specs.Prelude.{ℕ, zero, suc, ◌+◌, ◌-◌, ◌*◌, ◌/◌, ◌%◌, ◌≤◌, ◌<◌, min, ◌≡◌, Bool, false, cond, eqb, ltb}
use Rattle.std.specs.Int.{◌∣◌}
use Rattle.std.proofs.Math.Option.{Option, none, some}
use Rattle.theory.specs.Curves.{Curve}

-- How many of the ticks before t are free.
unfoldable pub free_before : (taken : ℕ → Bool) (t : ℕ) → ℕ
free_before taken zero = 0
free_before taken (suc t) = cond (taken t) 0 1 + free_before taken t

-- How many of the ticks from a on and before b are free.
unfoldable pub free : (taken : ℕ → Bool) (a b : ℕ) → ℕ
free taken a b = free_before taken b - free_before taken a

-- 1 where the tick was given to the job named n, and otherwise 0. A tick that no job had is `none`.
abbrev pub had : (n : ℕ) → Option ℕ → ℕ
had n none = 0
had n (some m) = cond (eqb m n) 1 0

-- Every tick is free for jobs: none is taken. So it is with a timer whose s is 0. (6.5)
abbrev pub none_taken : ℕ → Bool
none_taken t = false

-- In every window, the number of taken ticks is at most the bound for the window's length.
abbrev pub TakenAtMost : (ℕ → ℕ) → (ℕ → Bool) → Type 0
TakenAtMost bound taken = (a b : ℕ) → a ≤ b → b - a ≤ free taken a b + bound (b - a)

-- A timer takes the first s ticks of every p: it takes the tick at t when t mod p < s. (6.5)
abbrev pub timer : (s p : ℕ) → ℕ → Bool
timer s p t = ltb (t % p) s

-- How many ticks a timer takes in L ticks that begin with one of its periods: floor(L/p) · s + min(s, L mod p). (5.3)
abbrev pub timer_takes : (s p L : ℕ) → ℕ
timer_takes s p L = L / p * s + min s (L % p)

-- The time of a timer's n-th free tick, counted from 0. Each period has p − s free ticks, and the first of them comes s ticks after the period's start.
abbrev pub free_tick_at : (s p n : ℕ) → ℕ
free_tick_at s p n = n / (p - s) * p + s + n % (p - s)

-- ---- what is proved about free ticks (proofs/Ticks.antt)

-- Where every tick is free, a window has as many free ticks as its length. (6.5)
abbrev pub AllFree : Type 0
AllFree = (a b : ℕ) → free none_taken a b ≡ b - a

-- Where every tick is free, at most 0 ticks of each window are taken. (6.5)
abbrev pub NoneTakenAtMost : Type 0
NoneTakenAtMost = TakenAtMost (λ L. 0) none_taken

-- ---- what is proved about a timer (proofs/Timers.antt)

-- Wherever a window of L ticks begins, a timer takes at most floor(L/p) · s + min(s, L mod p) of its ticks.
abbrev pub TimerTakesAtMost : Type 0
TimerTakesAtMost = (s p : ℕ) → 1 ≤ p → s ≤ p → TakenAtMost (timer_takes s p) (timer s p)

-- No smaller bound on the ticks that a timer takes is right: for every length, the window that begins at zero reaches this one.
abbrev pub TimerTakesNoLess : Type 0
TimerTakesNoLess = (s p : ℕ) → 1 ≤ p → s ≤ p → (bound : ℕ → ℕ) → TakenAtMost bound (timer s p) → (L : ℕ) → timer_takes s p L ≤ bound L

-- Of the first L ticks, counted from zero, a timer takes exactly floor(L/p) · s + min(s, L mod p).
abbrev pub TimerTakesFromZero : Type 0
TimerTakesFromZero = (s p : ℕ) → 1 ≤ p → s ≤ p → (L : ℕ) → free (timer s p) 0 L + timer_takes s p L ≡ L

-- Of the ticks from a on and before b, a timer takes exactly as many as its count from zero grows from a to b.
abbrev pub TimerTakesBetween : Type 0
TimerTakesBetween = (s p : ℕ) → 1 ≤ p → s ≤ p → (a b : ℕ) → a ≤ b → free (timer s p) a b + timer_takes s p b ≡ timer_takes s p a + (b - a)

-- The ticks that a timer takes are a curve that starts at 0. Any multiple of p may be its period, in which it grows by s for each p.
abbrev pub TimerIsACurve : Type 0
TimerIsACurve = (s p period : ℕ) → 1 ≤ p → s ≤ p → p ∣ period → Curve (timer_takes s p) 0 period (s * (period / p))

-- A timer with s = 0 takes no tick, and its count is 0 in every length.
abbrev pub NoTimer : Type 0
NoTimer = (p : ℕ) → ((t : ℕ) → timer 0 p t ≡ false) × ((L : ℕ) → timer_takes 0 p L ≡ 0)

-- The tick at `free_tick_at s p n` is free, and n free ticks come before it.
abbrev pub FreeTicksAreCounted : Type 0
FreeTicksAreCounted = (s p n : ℕ) → s < p → (timer s p (free_tick_at s p n) ≡ false) × (free_before (timer s p) (free_tick_at s p n) ≡ n)

-- A free tick with n free ticks before it is the one at `free_tick_at s p n`.
abbrev pub FreeTickIsFoundByCount : Type 0
FreeTickIsFoundByCount = (s p t : ℕ) → s < p → timer s p t ≡ false → free_tick_at s p (free_before (timer s p) t) ≡ t
