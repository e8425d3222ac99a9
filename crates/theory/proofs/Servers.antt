-- The proofs about servers. A job of a server moves the server's last due time forward, by at least its cost at the server's size. So over a window from A to B
-- the last due time, kept between A and B, moves forward by at least what the jobs inside the window cost at that size, and by at most B − A. This bounds their
-- cost by a · (B − A) / b.
use Prim.Native.Nat.{ℕ, ◌+◌, ◌-◌, ◌*◌, ◌/◌, ◌≤◌, ◌<◌, min, max}
use mathlib.Core.Path.{◌≡◌, refl, ap}
use mathlib.Core.List.{List, [], ◌∷◌}
use native.Mathlib.Omega.{arith}
use native.Mathlib.Nat.{add-mul-div_right, div-lt_iff_lt-mul, div-mul_cancel, div-mul-le_self, le-div_iff_mul-le, lt-div-mul-add}
use native.Mathlib.Nat.{mul-le-mul_left, mul-le-mul_right}
use Rattle.theory.specs.Lists.{total, weight_if}
use Rattle.theory.specs.Jobs.{Job, within, weighed, asked}
use Rattle.theory.specs.DueTimes.{dues}
use Rattle.theory.specs.Servers.{ticks_for, server_due, last_due, server_demand, ByServer}
use Rattle.theory.specs.Servers.{RoundedUp, OddDueAfterRelease, ServerIsBounded, ServerIsACurve, ServerReachesItsDemand, NoLongerOddJob, SlidesExample}
use Rattle.theory.proofs.Cases.{by_lt}
use Rattle.theory.proofs.Jobs.{weight_inside, weight_early, weight_late}
use Rattle.theory.proofs.Demand.{floor_is_monotone}

-- ---- one due time

-- A cost takes e · b / a ticks, rounded up.
pub rounded_up : RoundedUp
unfolding ticks_for
rounded_up a b e pa =
    let n = e * b + (a - 1) in
    (omega (arith, lt-div-mul-add {a = n} pa), omega (arith, div-mul-le_self n a))

-- A cost of one unit or more takes one tick or more.
takes_a_tick : (a b e : ℕ) → 1 ≤ a → 1 ≤ b → 1 ≤ e → 1 ≤ ticks_for a b e
unfolding ticks_for
takes_a_tick a b e pa pb pe = (le-div_iff_mul-le {x = 1} {y = e * b + (a - 1)} pa).1 (omega (arith, mul-le-mul_right b pe))

-- A job that costs something is due after its release.
pub odd_due_after_release : OddDueAfterRelease
unfolding server_due
odd_due_after_release a b last t e pa pb pe = omega (arith, takes_a_tick a b e pa pb pe)

-- ---- windows

module _ (a b from until : ℕ) where
  -- How far into the window the server's last due time has come: the last due time itself, or the nearer end of the window where it is outside.
  abbrev reached : List Job → ℕ
  reached js = max from (min until (last_due (dues js)))

  -- A server's job never moves the last due time back, because no job is due before the job that came before it.
  never_back : (j : Job) (js : List Job) → ByServer a b (j ∷ js) → reached js + 0 ≤ reached (j ∷ js)
  unfolding ByServer server_due
  never_back j js r = omega (arith, r.0)

  -- A server's job inside the window moves the last due time forward, inside the window, by at least the ticks that its cost takes.
  moves_forward : (j : Job) (js : List Job) → ByServer a b (j ∷ js) → from ≤ j.release → j.due ≤ until
      → reached js + ticks_for a b j.cost ≤ reached (j ∷ js)
  unfolding ByServer server_due
  moves_forward j js r after in_time = omega (arith, r.0)

  -- A job counts with n units in the window, and moves the last due time forward in it by at least as many ticks as n units take at the server's size. Then the
  -- bound on the costs holds after the job, if it holds before it.
  one_more : (j : Job) (js : List Job) (n ticks : ℕ) → weight_if (within from until) (λ i. i.cost) j ≡ n → b * n ≤ a * ticks
      → reached js + ticks ≤ reached (j ∷ js) → b * asked from until js + a * from ≤ a * reached js
      → b * asked from until (j ∷ js) + a * from ≤ a * reached (j ∷ js)
  unfolding weighed total
  one_more j js n ticks counts paid forward earlier = rw counts (omega (arith, paid, mul-le-mul_left a forward, earlier))

  -- What the jobs inside the window cost is at most what the server gives from the window's start to the time in it that the last due time has reached.
  paid_by_time : 1 ≤ a → (js : List Job) → ByServer a b js → b * asked from until js + a * from ≤ a * reached js
  unfolding ByServer weighed total
  paid_by_time pa [] r = let inside : from ≤ reached [] = omega arith in omega (arith, mul-le-mul_left a inside)
  paid_by_time pa (j ∷ js) r =
      let earlier = paid_by_time pa js r.1 in
      by_lt j.release from
      (λ early. one_more j js 0 0 (weight_early (λ i. i.cost) from until j early) (omega arith) (never_back j js r) earlier)
      (λ after. by_lt until j.due
      (λ late. one_more j js 0 0 (weight_late (λ i. i.cost) from until j late) (omega arith) (never_back j js r) earlier)
      (λ in_time.
      let paid : b * j.cost ≤ a * ticks_for a b j.cost = omega (arith, (rounded_up a b j.cost pa).0) in
      one_more j js j.cost (ticks_for a b j.cost) (weight_inside (λ i. i.cost) from until j after in_time) paid
      (moves_forward j js r after in_time) earlier))

-- In any window a server's jobs that are released and due inside it cost at most the server's demand.
pub server_is_bounded : ServerIsBounded
unfolding server_demand
server_is_bounded a b js pa pb r from until ordered =
    let inside : reached a b from until js ≤ from + (until - from) = omega arith in
    (le-div_iff_mul-le pb).1 (omega (arith, paid_by_time a b from until pa js r, mul-le-mul_left a inside))

-- ---- demand

-- A server's demand is a curve that starts at 0, and any multiple of b may be its period.
pub server_is_a_curve : ServerIsACurve
unfolding server_demand
server_is_a_curve a b period pb whole = record {
  monotone = λ L M h. floor_is_monotone (a * L) (a * M) b pb (mul-le-mul_left a h);
  repeats = λ L h.
      let longer : a * L + a * (period / b) * b ≡ a * (L + period) = omega (arith, ap (λ (n : ℕ). a * n) (div-mul_cancel b whole)) in
      rw longer at (add-mul-div_right (a * L) (a * (period / b)) pb);
}

-- One job that costs the demand in L, released at zero as the server's first, is due within L.
pub server_reaches_its_demand : ServerReachesItsDemand
unfolding ByServer server_due ticks_for server_demand
server_reaches_its_demand a b source name L pa pb =
    let n = a * L / b * b + (a - 1) in
    let in_time : n / a < L + 1 = (div-lt_iff_lt-mul pa).1 (omega (arith, div-mul-le_self (a * L) b)) in
    ((refl, tt), omega arith)

-- A job released at zero as the server's first that is due within L costs at most the demand in L.
pub no_longer_odd_job : NoLongerOddJob
unfolding server_due server_demand
no_longer_odd_job a b e L pa pb in_time =
    let few : ticks_for a b e ≤ L = omega arith in
    (le-div_iff_mul-le pb).1 (omega (arith, (rounded_up a b e pa).0, mul-le-mul_left a few))

-- The due times in the example of the slides are those of the rule.
pub slides_example : SlidesExample
unfolding server_due ticks_for
slides_example = (refl, refl, refl)
