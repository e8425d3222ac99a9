-- Laws about ticks: how the count of free ticks before a time grows, that it equals the time where every tick is free, and which job has a tick.
use Prim.Native.Nat.{ℕ, zero, suc, ◌≤◌}
use mathlib.Core.Path.{◌≡◌, refl, sym}
use mathlib.Core.Logic.{◌≢◌}
use mathlib.Core.Bool.{Bool, true, false}
use mathlib.Core.Option.{some}
use native.Mathlib.Omega.{arith}
use native.Mathlib.Decide.{le_ind}
use native.Mathlib.Nat.{le_refl}
use borrow.Author.Tests.{eq-eqb, ne_eqb}
use Rattle.theory.specs.Ticks.{free_before, free, had, none_taken, AllFree, NoneTakenAtMost}
use Rattle.theory.proofs.Cases.{by_eq}

-- ---- free ticks

-- The count of free ticks before a later time is no smaller.
pub free_before_grows : (taken : ℕ → Bool) (a b : ℕ) → a ≤ b → free_before taken a ≤ free_before taken b
unfolding free_before
free_before_grows taken a b h = le_ind (λ m. free_before taken a ≤ free_before taken m) (le_refl _) (λ m l k. omega arith) b h

-- A taken tick adds nothing to the count of free ticks.
pub after_a_taken_tick : (taken : ℕ → Bool) (t : ℕ) → taken t ≡ true → free_before taken (suc t) ≡ free_before taken t
unfolding free_before
after_a_taken_tick taken t k = rw k (omega arith)

-- A free tick adds one to the count of free ticks.
pub after_a_free_tick : (taken : ℕ → Bool) (t : ℕ) → taken t ≡ false → free_before taken (suc t) ≡ suc (free_before taken t)
unfolding free_before
after_a_free_tick taken t k = rw k (omega arith)

-- Where every tick is free, the count of free ticks before n is n.
none_taken_before : (n : ℕ) → free_before none_taken n ≡ n
unfolding free_before
none_taken_before zero = refl
none_taken_before (suc n) = omega (arith, none_taken_before n)

-- Where every tick is free, a window has as many free ticks as its length.
pub all_free : AllFree
unfolding free
all_free a b = rw (none_taken_before a, none_taken_before b)

-- Where every tick is free, at most 0 ticks of each window are taken.
pub none_taken_at_most : NoneTakenAtMost
none_taken_at_most a b h = omega (arith, all_free a b)

-- ---- who has a tick

-- The job to which a tick goes has that tick.
pub had_by_its_own : (n m : ℕ) → m ≡ n → had n (some m) ≡ 1
had_by_its_own n m q = rw eq-eqb

-- A job with another name than the one to which a tick goes does not have that tick.
pub not_had_by_another : (n m : ℕ) → m ≢ n → had n (some m) ≡ 0
not_had_by_another n m q = rw ne_eqb

-- The job n has a tick that goes to m exactly when the job m has a tick that goes to n.
pub had_either_way : (n m : ℕ) → had n (some m) ≡ had m (some n)
had_either_way n m = by_eq m n
    (λ q. omega (arith, had_by_its_own n m q, had_by_its_own m n (sym q)))
    (λ q. omega (arith, not_had_by_another n m q, not_had_by_another m n (λ p. q (sym p))))
