-- Steps of the demand. From one length to the next, the demand of a row, of a server or of a timer rises only at some lengths, its steps. A row rises by x · c
-- at d and at every y ticks after it. A server rises by 1 at the least L with a · L ≥ i · b, for i = 1, 2 and so on. A timer rises by 1 at each length that
-- ends with a taken tick. The rises of a sum are the sums of the rises. So the demand in each length can be added up from the steps alone.
-- (docs/RULES.md, 5.1, 5.3 and 5.16.)
use Rattle.std.specs.Prelude.{ℕ, ◌+◌, ◌-◌, ◌*◌, ◌/◌, ◌%◌, ◌≤◌, ◌<◌, ◌≡◌, ◌≢◌, ◌↔◌, cond, List, ltb}
use Rattle.std.specs.Int.{◌∣◌}
use Rattle.theory.specs.Lists.{All, total}
use Rattle.theory.specs.Curves.{sum_over}
use Rattle.theory.specs.Descent.{NeverFalls}
use Rattle.theory.specs.Demand.{row_demand}
use Rattle.theory.specs.Servers.{ticks_for, server_demand}
use Rattle.theory.specs.Ticks.{timer_takes}

-- How much f rises at the length L, from the length before it.
unfoldable pub rise_at : (f : ℕ → ℕ) (L : ℕ) → ℕ
rise_at f L = f L - f (L - 1)

-- What f rises by at L, where L is below `next`, and otherwise 0. These are the rises that are counted when the next step to be counted is at `next`.
unfoldable pub rise_below : (f : ℕ → ℕ) (next L : ℕ) → ℕ
rise_below f next L = cond (ltb L next) (rise_at f L) 0

-- `next` is after L, f stays the same from L until just before `next`, and at `next` it is higher by `rise`.
pub record RisesNext (f : ℕ → ℕ) (rise L next : ℕ) : Type 0 where
  pub after : L < next
  pub level : (M : ℕ) → L ≤ M → M < next → f M ≡ f L
  pub rises : f next ≡ f L + rise

-- `next` is the first step of a row after L. Its number among the row's steps, from 0 on, is `number`.
pub record RowStep (x y d c L next : ℕ) : Type 0 where
  pub number : ℕ
  pub here : next ≡ d + number * y
  pub step : RisesNext (row_demand x y d c) (x * c) L next

-- `next` is the first step of a server after L. Its number among the server's steps, from 1 on, is `number`, and a · next is `rem` above number · b.
pub record ServerStep (a b L next rem : ℕ) : Type 0 where
  pub number : ℕ
  pub here : a * next ≡ number * b + rem
  pub rest : rem < a
  pub step : RisesNext (server_demand a b) 1 L next

-- ---- what is proved about steps (proofs/Steps.antt)

-- What f is in the length before L, and its rise at L, are together what it is in L.
abbrev pub AddedUp : Type 0
AddedUp = (f : ℕ → ℕ) (L : ℕ) → NeverFalls f → f L ≡ f (L - 1) + rise_at f L

-- The rise of a sum of two functions is the sum of their rises.
abbrev pub TwoRise : Type 0
TwoRise = (f g : ℕ → ℕ) (L : ℕ) → NeverFalls f → NeverFalls g → rise_at (λ M. f M + g M) L ≡ rise_at f L + rise_at g L

-- The rise of a sum over a list is the sum of the rises.
abbrev pub SumsRise : Type 1
SumsRise = (A : Type 0) (f : A → ℕ → ℕ) (l : List A) (L : ℕ) → All (λ a. NeverFalls (f a)) l → rise_at (sum_over f l) L ≡ total (λ a. rise_at (f a) L) l

-- At the next step f rises by the step's rise.
abbrev pub RiseAtTheStep : Type 0
RiseAtTheStep = (f : ℕ → ℕ) (rise L next : ℕ) → RisesNext f rise L next → rise_at f next ≡ rise

-- Before the next step f does not rise.
abbrev pub NoRiseBeforeTheStep : Type 0
NoRiseBeforeTheStep = (f : ℕ → ℕ) (rise L next M : ℕ) → RisesNext f rise L next → L < M → M < next → rise_at f M ≡ 0

-- The next step after L is the next step after every later length before it.
abbrev pub SameStepFromLater : Type 0
SameStepFromLater = (f : ℕ → ℕ) (rise L M next : ℕ) → RisesNext f rise L next → L ≤ M → M < next → RisesNext f rise M next

-- ---- counting the steps of a stretch of lengths

-- After L no rise is counted until the first step after L is.
abbrev pub NoneCounted : Type 0
NoneCounted = (f : ℕ → ℕ) (rise L next M : ℕ) → RisesNext f rise L next → L < M → rise_below f next M ≡ 0

-- When a step is counted, the count at its own length goes from 0 to the step's rise.
abbrev pub StepCounted : Type 0
StepCounted = (f : ℕ → ℕ) (rise L now rise' next : ℕ) → RisesNext f rise L now → RisesNext f rise' now next
    → (rise_below f now now ≡ 0) × (rise_below f next now ≡ rise)

-- When a step is counted, the count at every other length stays the same.
abbrev pub CountsElsewhereStay : Type 0
CountsElsewhereStay = (f : ℕ → ℕ) (rise now next M : ℕ) → RisesNext f rise now next → M ≢ now → rise_below f next M ≡ rise_below f now M

-- When the next step is after M, the rise at M is counted.
abbrev pub AllCounted : Type 0
AllCounted = (f : ℕ → ℕ) (next M : ℕ) → M < next → rise_below f next M ≡ rise_at f M

-- ---- rows

-- A row rises by x · c at each length L of d or more for which y divides L − d.
abbrev pub RowRises : Type 0
RowRises = (x y d c L : ℕ) → 1 ≤ y → 1 ≤ L → d ≤ L → y ∣ L - d → rise_at (row_demand x y d c) L ≡ x * c

-- A row does not rise below d.
abbrev pub RowIsLevelBelowD : Type 0
RowIsLevelBelowD = (x y d c L : ℕ) → L < d → rise_at (row_demand x y d c) L ≡ 0

-- A row does not rise at a length L for which y does not divide L − d.
abbrev pub RowIsLevelBetween : Type 0
RowIsLevelBetween = (x y d c L : ℕ) → 1 ≤ y → d ≤ L → ¬ (y ∣ L - d) → rise_at (row_demand x y d c) L ≡ 0

-- The first step of a row after a length L is d + floor((L + up − down)/y) · y, where up + d = y + down.
abbrev pub RowStepAfter : Type 0
RowStepAfter = (x y d c up down L : ℕ) → 1 ≤ y → up + d ≡ y + down → RowStep x y d c L (d + (L + up - down) / y * y)

-- The steps of a row are y apart.
abbrev pub RowStepsOn : Type 0
RowStepsOn = (x y d c L now : ℕ) → 1 ≤ y → RowStep x y d c L now → RowStep x y d c now (now + y)

-- ---- servers

-- The i-th step of a server, `ticks_for a b i`, is the least L with a · L ≥ i · b.
abbrev pub ServerStepIsLeast : Type 0
ServerStepIsLeast = (a b i L : ℕ) → 1 ≤ a → (ticks_for a b i ≤ L) ↔ (i * b ≤ a * L)

-- A server's demand in L is the number of its steps up to L: it is i or more exactly when the i-th step is at L or before.
abbrev pub ServerDemandCountsSteps : Type 0
ServerDemandCountsSteps = (a b i L : ℕ) → 1 ≤ a → 1 ≤ b → (i ≤ server_demand a b L) ↔ (ticks_for a b i ≤ L)

-- L is the i-th step of a server when a · L is less than a above i · b.
abbrev pub ServerStepByRest : Type 0
ServerStepByRest = (a b i L rem : ℕ) → a * L ≡ i * b + rem → rem < a → ticks_for a b i ≡ L

-- The gap from the i-th step of a server to the next is b/a, and 1 more if rem < b mod a, where rem is what a · L is above i · b.
abbrev pub ServerGap : Type 0
ServerGap = (a b i L rem : ℕ) → a * L ≡ i * b + rem → rem < a → ticks_for a b (i + 1) ≡ L + (b / a + cond (ltb rem (b % a)) 1 0)

-- The first step of a server after a length L has the number floor(a · L / b) + 1.
abbrev pub ServerStepAfter : Type 0
ServerStepAfter = (a b L i next : ℕ) → 1 ≤ a → a ≤ b → i ≡ a * L / b + 1 → next ≡ ticks_for a b i → ServerStep a b L next (a * next - i * b)

-- Where rem is b mod a or more, the next step is b/a later, and b mod a is taken off rem.
abbrev pub ServerStepsOn : Type 0
ServerStepsOn = (a b L now rem : ℕ) → a ≤ b → ServerStep a b L now rem → b % a ≤ rem → ServerStep a b now (now + b / a) (rem - b % a)

-- Where rem is below b mod a, the next step is b/a + 1 later, and a − b mod a is added to rem.
abbrev pub ServerStepsOnLater : Type 0
ServerStepsOnLater = (a b L now rem : ℕ) → a ≤ b → ServerStep a b L now rem → rem < b % a → ServerStep a b now (now + (b / a + 1)) (rem + (a - b % a))

-- ---- timers

-- A timer rises by 1 at each length L with (L − 1) mod p < s.
abbrev pub TimerRises : Type 0
TimerRises = (s p L : ℕ) → 1 ≤ p → s ≤ p → 1 ≤ L → (L - 1) % p < s → rise_at (timer_takes s p) L ≡ 1

-- A timer does not rise at any other length.
abbrev pub TimerIsLevel : Type 0
TimerIsLevel = (s p L : ℕ) → 1 ≤ p → s ≤ p → s ≤ (L - 1) % p → rise_at (timer_takes s p) L ≡ 0

-- From one length to the next, the rest by p goes up by 1, and from p − 1 it goes back to 0.
abbrev pub NextRest : Type 0
NextRest = (p t : ℕ) → 1 ≤ p → (t + 1) % p ≡ cond (ltb (t % p + 1) p) (t % p + 1) 0
