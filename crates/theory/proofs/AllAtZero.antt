-- Jobs of a row that are all released at zero and at full cost. They are due in batches of x jobs, y ticks apart: job number n, counted from 0, is due at
-- d + floor(n/x) · y. So exactly the first `row_jobs` of them are due within L. The bound on a row's jobs in a window is reached, and these jobs cost the row's
-- demand.
use Prim.Native.Nat.{ℕ, zero, suc, ◌+◌, ◌-◌, ◌*◌, ◌/◌, ◌≤◌, ◌<◌, min}
use mathlib.Core.Path.{◌≡◌, refl}
use mathlib.Core.Logic.{◌≢◌}
use mathlib.Core.List.{List}
use native.Mathlib.Omega.{arith}
use native.Mathlib.Nat.{le_refl, sub-zero, suc-sub-suc, mul-le-mul_right, div-eq_of_lt, div-eq-sub-div, div-lt_iff_lt-mul, le-div_iff_mul-le}
use lib.ListN.{length, get_or, length-map}
use Rattle.theory.specs.Lists.{All, total}
use Rattle.theory.specs.Jobs.{Job, DistinctNames, weighed, jobs_in}
use Rattle.theory.specs.Demand.{row_jobs, row_demand}
use Rattle.theory.specs.DueTimes.{due_time, dues, latest, ByRule, all_at_zero, BoundIsReached, FirstAreDueWithin, FirstCostTheDemand}
use Rattle.theory.specs.Sources.{AllAtZeroAreNumbered}
use Rattle.theory.proofs.Cases.{by_lt}
use Rattle.theory.proofs.Jobs.{weight_inside, weight_late}
use Rattle.theory.proofs.Demand.{batches}
use Rattle.theory.proofs.DueTimes.{due_of_the_first, due_of_the_further}

module _ (x y d c source first : ℕ) where
  -- The list of the first n jobs, newest first.
  abbrev first_jobs : ℕ → List Job
  first_jobs n = all_at_zero x y d c source first n

  -- Job number n, counted from 0.
  abbrev number : ℕ → Job
  number n = record { name = first + n; source = source; release = 0; due = due_time x y d (dues (first_jobs n)) 0; cost = c }

  -- Where each job with a number below n has a property, all of the first n jobs have it.
  all_of_the_first : (P : Job → Type 0) (n : ℕ) → ((i : ℕ) → i < n → P (number i)) → All P (first_jobs n)
  unfolding all_at_zero
  all_of_the_first P zero f = tt
  all_of_the_first P (suc n) f = (f n (omega arith), all_of_the_first P n λ i h. f i (omega arith))

  -- The list of the first n jobs has n elements.
  length_of_the_first : (n : ℕ) → length (first_jobs n) ≡ n
  unfolding all_at_zero
  length_of_the_first zero = refl
  length_of_the_first (suc n) = omega (arith, length_of_the_first n)

  -- The first n jobs together cost n · c.
  cost_of_the_first : (n : ℕ) → total (λ j. j.cost) (first_jobs n) ≡ n * c
  unfolding all_at_zero total
  cost_of_the_first zero = omega arith
  cost_of_the_first (suc n) = omega (arith, cost_of_the_first n)

  -- No two of the first n jobs have the same name.
  distinct_names : (n : ℕ) → DistinctNames (first_jobs n)
  unfolding all_at_zero
  distinct_names zero = tt
  distinct_names (suc n) = (all_of_the_first (λ j. j.name ≢ first + n) n (λ i h e. omega arith), distinct_names n)

  -- The newest of the first n jobs is released at zero.
  latest_at_zero : (n : ℕ) → latest (first_jobs n) ≡ 0
  unfolding all_at_zero
  latest_at_zero zero = refl
  latest_at_zero (suc n) = refl

  -- Each of the first n jobs has the due time of the rules.
  pub all_at_zero_by_rule : (n : ℕ) → ByRule x y d c (first_jobs n)
  unfolding ByRule all_at_zero
  all_at_zero_by_rule zero = tt
  all_at_zero_by_rule (suc n) =
      (record { in_order = omega (arith, latest_at_zero n); due_by_rule = refl; cost_at_most = le_refl c }, all_at_zero_by_rule n)

  module _ (px : 1 ≤ x) where
    -- Job number n is due at d + floor(n/x) · y, if the x-th job before it, where there is one, is due at d + floor((n − x)/x) · y.
    due_one_batch_later : (n : ℕ) → (x ≤ n → get_or (dues (first_jobs n)) (x - 1) 0 ≡ d + (n - x) / x * y) → (number n).due ≡ d + n / x * y
    due_one_batch_later n before =
        let many : length (dues (first_jobs n)) ≡ n = simp length-map (length_of_the_first n) in
        by_lt n x
        (λ h. rw (due_of_the_first x y d (dues (first_jobs n)) 0 (omega arith), div-eq_of_lt h) (omega arith))
        (λ h. rw (due_of_the_further x y d (dues (first_jobs n)) 0 (omega arith), before h, div-eq-sub-div px h) (omega arith))

    -- Each of the first n jobs is due as its number says: k places behind the newest stands job number n − (k + 1).
    due_behind : (n k : ℕ) → k < n → get_or (dues (first_jobs n)) k 0 ≡ d + (n - suc k) / x * y
    unfolding all_at_zero
    due_behind zero k h = absurd (omega arith)
    due_behind (suc n) zero h =
        let e : suc (x - 1) ≡ x = omega arith in
        rw (suc-sub-suc, sub-zero) (due_one_batch_later n λ l. rw e at (due_behind n (x - 1) (omega arith)))
    due_behind (suc n) (suc k) h = rw suc-sub-suc (due_behind n k (omega arith))

    -- Job number n is due at d + floor(n/x) · y.
    pub due_by_batch : (n : ℕ) → (number n).due ≡ d + n / x * y
    unfolding all_at_zero
    due_by_batch n = rw (suc-sub-suc, sub-zero) at (due_behind (suc n) zero (omega arith))

    module _ (py : 1 ≤ y) (L : ℕ) where
      -- The jobs with numbers below `row_jobs` are due within L.
      number_due_within : (n : ℕ) → n < row_jobs x y d L → (number n).due ≤ L
      number_due_within n h =
          let t = batches x y d L py in
          rw (due_by_batch n) (t.due_within (n / x) ((div-lt_iff_lt-mul px).1 (rw t.all_their_jobs at h)))

      -- The jobs with numbers from `row_jobs` on are due after L.
      number_due_after : (n : ℕ) → row_jobs x y d L ≤ n → L < (number n).due
      number_due_after n h =
          let t = batches x y d L py in
          omega (arith, due_by_batch n, mul-le-mul_right y ((le-div_iff_mul-le px).1 (rw t.all_their_jobs at h)))

      -- Of the first n jobs, the smaller of n and `row_jobs` are due within L.
      jobs_due_within : (n : ℕ) → jobs_in 0 L (first_jobs n) ≡ min n (row_jobs x y d L)
      unfolding all_at_zero weighed total
      jobs_due_within zero = omega arith
      jobs_due_within (suc n) = by_lt n (row_jobs x y d L)
          (λ h. omega (arith, weight_inside (λ _. 1) 0 L (number n) (le_refl 0) (number_due_within n h), jobs_due_within n))
          (λ h. omega (arith, weight_late (λ _. 1) 0 L (number n) (number_due_after n h), jobs_due_within n))

-- The first n jobs have the due times of the rules, and exactly `row_jobs` of them are due within L, where n is at least `row_jobs`.
pub bound_is_reached : BoundIsReached
bound_is_reached x y d c source first L n px py h =
    (all_at_zero_by_rule x y d c source first n, omega (arith, jobs_due_within x y d c source first px py L n))

-- The first `row_jobs` jobs are due within L.
pub first_are_due_within : FirstAreDueWithin
first_are_due_within x y d c source first L n px py h =
    all_of_the_first x y d c source first (λ j. j.due ≤ L) n (λ i k. number_due_within x y d c source first px py L i (omega arith))

-- The first `row_jobs` jobs together cost the row's demand in L.
pub first_cost_the_demand : FirstCostTheDemand
unfolding row_demand
first_cost_the_demand x y d c source first L = cost_of_the_first x y d c source first (row_jobs x y d L)

-- The first n jobs are named from the first name on.
pub all_at_zero_are_numbered : AllAtZeroAreNumbered
all_at_zero_are_numbered x y d c source first n = record {
  distinct = distinct_names x y d c source first n;
  names = rw (length_of_the_first x y d c source first n)
      (all_of_the_first x y d c source first (λ j. (first ≤ j.name) × (j.name < first + n)) n (λ i h. (omega arith, omega arith)));
}
