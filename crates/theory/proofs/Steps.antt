-- The proofs about steps. From d + i · y on, until y ticks later, a row's demand is that of i + 1 batches, so that it rises just there. For a server the least
-- L with a · L ≥ i · b is the only one for which a · L is less than a above i · b, so that the rest of one step gives the rest of the next.
use Prim.Native.Nat.{ℕ, suc, ◌+◌, ◌-◌, ◌*◌, ◌/◌, ◌%◌, ◌≤◌, ◌<◌}
use mathlib.Core.Path.{◌≡◌, refl, sym, ap, ◌∙◌}
use mathlib.Core.List.{List, [], ◌∷◌}
use native.Mathlib.Omega.{arith}
use native.Mathlib.Nat.{add-div_right, add-mul-div_right, add-mul-mod_self_right, div-add-mod', div-eq_of_lt, div-eq_of_lt-le, div-mul_cancel, div-mul-le_self}
use native.Mathlib.Nat.{dvd_of_mod-eq-zero, le-div_iff_mul-le, lt-div-mul-add, lt_of_mul-lt-mul_left, mod-eq_of_lt, mod-lt, mul-le-mul_left}
use borrow.Author.Tests.{lt-ltb, le-ltb}
use Rattle.theory.specs.Lists.{All, total}
use Rattle.theory.specs.Curves.{sum_over}
use Rattle.theory.specs.Descent.{NeverFalls}
use Rattle.theory.specs.Demand.{row_demand}
use Rattle.theory.specs.Servers.{ticks_for, server_demand}
use Rattle.theory.specs.Ticks.{free, timer, timer_takes}
use Rattle.theory.specs.Steps.{rise_at, rise_below, RisesNext, AddedUp, TwoRise, SumsRise}
use Rattle.theory.specs.Steps.{RiseAtTheStep, NoRiseBeforeTheStep, SameStepFromLater, NoneCounted, StepCounted, CountsElsewhereStay, AllCounted}
use Rattle.theory.specs.Steps.{RowRises, RowIsLevelBelowD, RowIsLevelBetween, RowStepAfter, RowStepsOn}
use Rattle.theory.specs.Steps.{ServerStepIsLeast, ServerDemandCountsSteps, ServerStepByRest, ServerGap, ServerStepAfter, ServerStepsOn}
use Rattle.theory.specs.Steps.{ServerStepsOnLater, TimerRises, TimerIsLevel, NextRest}
use Rattle.theory.proofs.Cases.{by_lt, by_eq}
use Rattle.theory.proofs.Ticks.{after_a_taken_tick, after_a_free_tick}
use Rattle.theory.proofs.Timers.{timer_takes_between}
use Rattle.theory.proofs.Demand.{no_demand_below_d, demand_from_d}
use Rattle.theory.proofs.Servers.{rounded_up}

-- ---- any function

pub added_up : AddedUp
unfolding rise_at
added_up f L grows = omega (arith, grows (L - 1) L (omega arith))

pub two_rise : TwoRise
unfolding rise_at
two_rise f g L grows grows' = omega (arith, grows (L - 1) L (omega arith), grows' (L - 1) L (omega arith))

-- A sum over a list of functions that never fall never falls.
sums_never_fall : (A : Type 0) (f : A → ℕ → ℕ) (l : List A) → All (λ a. NeverFalls (f a)) l → NeverFalls (sum_over f l)
unfolding total
sums_never_fall A f [] all L M h = omega arith
sums_never_fall A f (a ∷ l) all L M h = omega (arith, all.0 L M h, sums_never_fall A f l all.1 L M h)

pub sums_rise : SumsRise
unfolding rise_at total
sums_rise A f [] L all = omega arith
sums_rise A f (a ∷ l) L all =
    omega (arith, all.0 (L - 1) L (omega arith), sums_never_fall A f l all.1 (L - 1) L (omega arith), sums_rise A f l L all.1)

pub rise_at_the_step : RiseAtTheStep
unfolding rise_at
rise_at_the_step f rise L next step = omega (arith, step.level (next - 1) (omega arith) (omega arith), step.rises)

pub no_rise_before_the_step : NoRiseBeforeTheStep
unfolding rise_at
no_rise_before_the_step f rise L next M step after before =
    omega (arith, step.level (M - 1) (omega arith) (omega arith), step.level M (omega arith) before)

pub same_step_from_later : SameStepFromLater
same_step_from_later f rise L M next step later before = record {
  after = before;
  level = λ K h k. omega (arith, step.level K (omega arith) k, step.level M later before);
  rises = omega (arith, step.level M later before, step.rises);
}

-- ---- counting

-- A rise below `next` is counted.
pub all_counted : AllCounted
unfolding rise_below
all_counted f next M h = rw (lt-ltb M next h)

-- A rise at `next` or after it is not counted.
pub none_beyond : (f : ℕ → ℕ) (next M : ℕ) → next ≤ M → rise_below f next M ≡ 0
unfolding rise_below
none_beyond f next M h = rw (le-ltb M next h)

pub none_counted : NoneCounted
none_counted f rise L next M step after = by_lt M next
    (λ before. all_counted f next M before ∙ no_rise_before_the_step f rise L next M step after before)
    (λ beyond. none_beyond f next M beyond)

pub step_counted : StepCounted
step_counted f rise L now rise' next step step' =
    (none_beyond f now now (omega arith), all_counted f next now step'.after ∙ rise_at_the_step f rise L now step)

pub counts_elsewhere_stay : CountsElsewhereStay
counts_elsewhere_stay f rise now next M step other = by_lt M now
    (λ before. all_counted f next M (omega (arith, step.after)) ∙ sym (all_counted f now M before))
    (λ after. none_counted f rise now next M step (omega arith) ∙ sym (none_beyond f now M after))

-- ---- rows

-- A row's demand from its i-th step on, until the next, is that of i + 1 batches.
row_after : (x y d c i r : ℕ) → r < y → row_demand x y d c (d + i * y + r) ≡ (i + 1) * (x * c)
row_after x y d c i r h =
    let some : 1 ≤ y = omega arith in
    let moved : d + i * y + r - d ≡ r + i * y = omega arith in
    rw (demand_from_d x y d c (d + i * y + r) (omega arith), moved, add-mul-div_right r i some, div-eq_of_lt h) (omega arith)

-- From the i-th step on, until the next, a row's demand is the same.
row_between : (x y d c i M : ℕ) → d + i * y ≤ M → M < d + i * y + y → row_demand x y d c M ≡ (i + 1) * (x * c)
row_between x y d c i M from until =
    let r = M - (d + i * y) in
    let here : d + i * y + r ≡ M = omega arith in
    rw here at (row_after x y d c i r (omega arith))

-- Below d the next step of a row is at d.
row_first : (x y d c L : ℕ) → 1 ≤ y → L < d → RisesNext (row_demand x y d c) (x * c) L d
row_first x y d c L some low = record {
  after = low;
  level = λ M h k. omega (arith, no_demand_below_d x y d c M k, no_demand_below_d x y d c L low);
  rises = omega (arith, no_demand_below_d x y d c L low, row_between x y d c 0 d (omega arith) (omega arith));
}

-- From the i-th step on, until the next, the next step of a row is y after the i-th.
row_next : (x y d c i L : ℕ) → d + i * y ≤ L → L < d + i * y + y → RisesNext (row_demand x y d c) (x * c) L (d + i * y + y)
row_next x y d c i L from until = record {
  after = until;
  level = λ M h k. omega (arith, row_between x y d c i M (omega arith) k, row_between x y d c i L from until);
  rises = omega (arith, row_between x y d c i L from until, row_between x y d c (i + 1) (d + i * y + y) (omega arith) (omega arith));
}

pub row_step_after : RowStepAfter
row_step_after x y d c up down L some shift = by_lt L d
    (λ low.
    let below : L + up - down < y = omega arith in
    let none : (L + up - down) / y ≡ 0 = div-eq_of_lt below in
    let here : d + (L + up - down) / y * y ≡ d = rw none (omega arith) in
    rw here (record { number = 0; here = omega arith; step = row_first x y d c L some low }))
    (λ high.
    let i = (L - d) / y in
    let moved : L + up - down ≡ L - d + y = omega arith in
    let next : (L + up - down) / y ≡ i + 1 = rw (moved, add-div_right (L - d) some) in
    let here : d + (L + up - down) / y * y ≡ d + i * y + y = rw next (omega arith) in
    rw here (record {
      number = i + 1;
      here = omega arith;
      step = row_next x y d c i L (omega (arith, div-mul-le_self (L - d) y)) (omega (arith, lt-div-mul-add {a = L - d} some));
    }))

pub row_steps_on : RowStepsOn
row_steps_on x y d c L now some step =
    let i = step.number in
    let here : now ≡ d + i * y = step.here in
    record {
      number = i + 1;
      here = omega arith;
      step = rw here (row_next x y d c i (d + i * y) (omega arith) (omega arith));
    }

pub row_rises : RowRises
row_rises x y d c L some long from whole =
    let i = (L - d) / y in
    let here : L ≡ d + i * y = omega (arith, div-mul_cancel y whole) in
    by_eq i 0
    (λ first.
    let at_d : L ≡ d = omega (arith, ap (λ (n : ℕ). n * y) first) in
    rw at_d (rise_at_the_step (row_demand x y d c) (x * c) (d - 1) d (row_first x y d c (d - 1) some (omega arith))))
    (λ later.
    let j = i - 1 in
    let next : i ≡ j + 1 = omega arith in
    let there : L ≡ d + j * y + y = omega (arith, ap (λ (n : ℕ). n * y) next) in
    rw there
    (rise_at_the_step (row_demand x y d c) (x * c) (d + j * y) (d + j * y + y) (row_next x y d c j (d + j * y) (omega arith) (omega arith))))

pub row_is_level_below_d : RowIsLevelBelowD
unfolding rise_at
row_is_level_below_d x y d c L low = omega (arith, no_demand_below_d x y d c L low)

pub row_is_level_between : RowIsLevelBetween
row_is_level_between x y d c L some from part =
    let i = (L - d) / y in
    let r = (L - d) % y in
    let whole : i * y + r ≡ L - d = div-add-mod' (L - d) y in
    let below : r < y = mod-lt (L - d) some in
    by_eq r 0
    (λ none. absurd (part (dvd_of_mod-eq-zero y none)))
    (λ more. no_rise_before_the_step (row_demand x y d c) (x * c) (d + i * y) (d + i * y + y) L
    (row_next x y d c i (d + i * y) (omega arith) (omega arith)) (omega arith) (omega arith))

-- ---- servers

pub server_step_is_least : ServerStepIsLeast
server_step_is_least a b i L pa = (
  λ late. omega (arith, (rounded_up a b i pa).0, mul-le-mul_left a late),
  λ enough.
      let near : ticks_for a b i < L + 1 = lt_of_mul-lt-mul_left a (omega (arith, (rounded_up a b i pa).1)) in
      omega arith,
)

pub server_demand_counts_steps : ServerDemandCountsSteps
unfolding server_demand
server_demand_counts_steps a b i L pa pb = (
  λ h. (server_step_is_least a b i L pa).1 ((le-div_iff_mul-le pb).0 h),
  λ h. (le-div_iff_mul-le pb).1 ((server_step_is_least a b i L pa).0 h),
)

pub server_step_by_rest : ServerStepByRest
server_step_by_rest a b i L rem here rest =
    let some : 1 ≤ a = omega arith in
    let late : ticks_for a b i ≤ L = (server_step_is_least a b i L some).1 (omega arith) in
    let near : L < ticks_for a b i + 1 = lt_of_mul-lt-mul_left a (omega (arith, (rounded_up a b i some).0)) in
    omega arith

-- Where rem is b mod a or more, the rest b/a later is b mod a less.
rest_soon : (a b i L rem : ℕ) → a * L ≡ i * b + rem → b % a ≤ rem → a * (L + b / a) ≡ (i + 1) * b + (rem - b % a)
rest_soon a b i L rem here enough = omega (arith, div-add-mod' b a)

-- Where rem is below b mod a, the rest b/a + 1 later is a − b mod a more.
rest_later : (a b i L rem : ℕ) → a * L ≡ i * b + rem → rem < a → a * (L + (b / a + 1)) ≡ (i + 1) * b + (rem + (a - b % a))
rest_later a b i L rem here rest =
    let some : 1 ≤ a = omega arith in
    omega (arith, div-add-mod' b a, mod-lt b some)

pub server_gap : ServerGap
server_gap a b i L rem here rest = by_lt rem (b % a)
    (λ few.
    rw (lt-ltb rem (b % a) few)
    (server_step_by_rest a b (i + 1) (L + (b / a + 1)) (rem + (a - b % a)) (rest_later a b i L rem here rest) (omega arith)))
    (λ enough.
    let gap : b / a + 0 ≡ b / a = omega arith in
    rw (le-ltb rem (b % a) enough, gap)
    (server_step_by_rest a b (i + 1) (L + b / a) (rem - b % a) (rest_soon a b i L rem here enough) (omega arith)))

-- A server's demand in L is i where a · L is less than b above i · b.
server_demand_is : (a b i L rem : ℕ) → a * L ≡ i * b + rem → rem < b → server_demand a b L ≡ i
unfolding server_demand
server_demand_is a b i L rem here rest = div-eq_of_lt-le b (omega arith) (omega arith)

-- Where a server's demand in L is i, the next step after L is the length that is the step i + 1.
server_next : (a b i L next rem : ℕ) → a ≤ b → server_demand a b L ≡ i → a * next ≡ (i + 1) * b + rem → rem < a → RisesNext (server_demand a b) 1 L next
unfolding server_demand
server_next a b i L next rem most is here rest =
    let some : 1 ≤ b = omega arith in
    let low : a * L < a * L / b * b + b = lt-div-mul-add some in
    let now : a * L / b * b ≡ i * b = ap (λ (n : ℕ). n * b) is in
    let after : L < next = lt_of_mul-lt-mul_left a (omega arith) in
    record {
      after = after;
      level = λ M h k.
          let before : M + 1 ≤ next = omega arith in
          let upper : a * M < (i + 1) * b = omega (arith, mul-le-mul_left a before) in
          let lower : a * L ≤ a * M = mul-le-mul_left a h in
          div-eq_of_lt-le b (omega (arith, div-mul-le_self (a * L) b)) (omega arith) ∙ sym is;
      rises = server_demand_is a b (i + 1) next rem here (omega arith) ∙ ap (λ (n : ℕ). n + 1) (sym is);
    }

pub server_step_after : ServerStepAfter
unfolding server_demand
server_step_after a b L i next pa most number at =
    let up : (i * b ≤ a * next) × (a * next < i * b + a) = rw at (rounded_up a b i pa) in
    let here : a * next ≡ i * b + (a * next - i * b) = omega arith in
    record {
      number = i;
      here = here;
      rest = omega arith;
      step = server_next a b (a * L / b) L next (a * next - i * b) most refl
          (omega (arith, ap (λ (n : ℕ). n * b) number)) (omega arith);
    }

pub server_steps_on : ServerStepsOn
server_steps_on a b L now rem most step enough =
    let i = step.number in
    let there = rest_soon a b i now rem step.here enough in
    let rest : rem < a = step.rest in
    record {
      number = i + 1;
      here = there;
      rest = omega arith;
      step = server_next a b i now (now + b / a) (rem - b % a) most (server_demand_is a b i now rem step.here (omega arith)) there (omega arith);
    }

pub server_steps_on_later : ServerStepsOnLater
server_steps_on_later a b L now rem most step few =
    let i = step.number in
    let rest : rem < a = step.rest in
    let there = rest_later a b i now rem step.here rest in
    record {
      number = i + 1;
      here = there;
      rest = omega arith;
      step = server_next a b i now (now + (b / a + 1)) (rem + (a - b % a)) most (server_demand_is a b i now rem step.here (omega arith)) there (omega arith);
    }

-- ---- timers

-- From t to t + 1 a timer's count grows by one where the tick at t is taken.
timer_one_more : (s p t : ℕ) → 1 ≤ p → s ≤ p → t % p < s → timer_takes s p (suc t) ≡ timer_takes s p t + 1
unfolding free
timer_one_more s p t some most taken =
    omega (arith, timer_takes_between s p some most t (suc t) (omega arith), after_a_taken_tick (timer s p) t (lt-ltb (t % p) s taken))

-- From t to t + 1 a timer's count stays the same where the tick at t is free.
timer_no_more : (s p t : ℕ) → 1 ≤ p → s ≤ p → s ≤ t % p → timer_takes s p (suc t) ≡ timer_takes s p t
unfolding free
timer_no_more s p t some most left =
    omega (arith, timer_takes_between s p some most t (suc t) (omega arith), after_a_free_tick (timer s p) t (le-ltb (t % p) s left))

pub timer_rises : TimerRises
unfolding rise_at
timer_rises s p L some most long taken =
    let here : suc (L - 1) ≡ L = omega arith in
    omega (arith, rw here at (timer_one_more s p (L - 1) some most taken))

pub timer_is_level : TimerIsLevel
unfolding rise_at
timer_is_level s p L some most left = by_eq L 0
    (λ none. let same : L - 1 ≡ L = omega arith in rw same (omega arith))
    (λ long.
    let here : suc (L - 1) ≡ L = omega arith in
    omega (arith, rw here at (timer_no_more s p (L - 1) some most left)))

pub next_rest : NextRest
next_rest p t some =
    let q = t / p in
    let r = t % p in
    let whole : q * p + r ≡ t = div-add-mod' t p in
    let below : r < p = mod-lt t some in
    by_lt (r + 1) p
    (λ inside.
    let here : t + 1 ≡ r + 1 + q * p = omega arith in
    rw (here, lt-ltb (r + 1) p inside, add-mul-mod_self_right (r + 1) q p, mod-eq_of_lt inside))
    (λ last.
    let here : t + 1 ≡ 0 + (q + 1) * p = omega arith in
    rw (here, le-ltb (r + 1) p last, add-mul-mod_self_right 0 (q + 1) p, mod-eq_of_lt some))
