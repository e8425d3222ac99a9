-- The proofs that a row's demand is a curve. Each law is first proved for the number of jobs: none below d, the formula with the floor from d on, never fewer
-- in a longer time, and x more for every y ticks more. The demand is that number times the cost. The last part counts the same jobs as batches of x jobs that
-- are due y ticks apart.
use Prim.Native.Nat.{ℕ, ◌+◌, ◌-◌, ◌*◌, ◌/◌, ◌≤◌, ◌<◌}
use mathlib.Core.Path.{◌≡◌}
use native.Mathlib.Omega.{arith}
use native.Mathlib.Nat.{add-mul-div_right, div-mul_cancel, div-mul-le_self, le-div_iff_mul-le, lt-div-mul-add, mul-le-mul_right}
use borrow.Author.Tests.{lt-ltb, le-ltb}
use Rattle.theory.specs.Demand.{row_jobs, row_demand, row_growth}
use Rattle.theory.specs.Demand.{NoJobsBelowD, JobsFromD, NoDemandBelowD, DemandFromD, DemandIsMonotone, RowsAreCurves}
use Rattle.theory.proofs.Cases.{by_lt}

-- Where m is at most n, floor(m/y) is at most floor(n/y).
pub floor_is_monotone : (m n y : ℕ) → 1 ≤ y → m ≤ n → m / y ≤ n / y
floor_is_monotone m n y p h = (le-div_iff_mul-le p).1 (omega (arith, div-mul-le_self m y))

-- In a length below d no job can be both released and due.
pub no_jobs_below_d : NoJobsBelowD
unfolding row_jobs
no_jobs_below_d x y d L h = rw (lt-ltb L d h)

-- In a length L of d or more, (floor((L − d)/y) + 1) · x jobs can be both released and due.
pub jobs_from_d : JobsFromD
unfolding row_jobs
jobs_from_d x y d L h = rw (le-ltb L d h)

-- In a longer time no fewer jobs can be both released and due.
pub jobs_are_monotone : (x y d L M : ℕ) → 1 ≤ y → L ≤ M → row_jobs x y d L ≤ row_jobs x y d M
jobs_are_monotone x y d L M p h = by_lt L d (λ low. omega (arith, no_jobs_below_d x y d L low))
    (λ high. rw (jobs_from_d x y d L high, jobs_from_d x y d M (omega arith))
    (mul-le-mul_right x (omega (arith, floor_is_monotone (L - d) (M - d) y p (omega arith)))))

-- From d on, k · x more jobs can be both released and due in k · y more ticks.
pub jobs_repeat : (x y d L k : ℕ) → 1 ≤ y → d ≤ L → row_jobs x y d (L + k * y) ≡ row_jobs x y d L + k * x
jobs_repeat x y d L k p h =
    let e : L + k * y - d ≡ L - d + k * y = omega arith in
    rw (jobs_from_d x y d (L + k * y) (omega arith), jobs_from_d x y d L h, e, add-mul-div_right (L - d) k p) (omega arith)

-- In a length below d a row's demand is 0.
pub no_demand_below_d : NoDemandBelowD
unfolding row_demand
no_demand_below_d x y d c L h = rw (no_jobs_below_d x y d L h) (omega arith)

-- In a length L of d or more a row's demand is (floor((L − d)/y) + 1) · x · c.
pub demand_from_d : DemandFromD
unfolding row_demand
demand_from_d x y d c L h = rw (jobs_from_d x y d L h)

-- A row's demand in a longer time is no smaller.
pub demand_is_monotone : DemandIsMonotone
unfolding row_demand
demand_is_monotone x y d c L M p h = mul-le-mul_right c (jobs_are_monotone x y d L M p h)

-- A row's demand is a curve that starts at d, and any multiple of y may be its period.
pub rows_are_curves : RowsAreCurves
unfolding row_demand row_growth
rows_are_curves x y d c period p v = record {
  monotone = λ L M h. demand_is_monotone x y d c L M p h;
  repeats = λ L h. rw (rw (div-mul_cancel y v) at (jobs_repeat x y d L (period / y) p h)) (omega arith);
}

-- ---- batches

-- Batch i of x jobs, counted from 0, is due at d + i · y. `count` batches are due within L, and `row_jobs` is the number of their jobs.
pub record Batches (x y d L : ℕ) : Type 0 where
  pub count : ℕ
  pub all_their_jobs : row_jobs x y d L ≡ count * x
  pub due_within : (i : ℕ) → i < count → d + i * y ≤ L
  pub next_due_after : L < d + count * y

-- For every L there is such a count of batches.
pub batches : (x y d L : ℕ) → 1 ≤ y → Batches x y d L
batches x y d L py = by_lt L d
    (λ h. record {
      count = 0;
      all_their_jobs = omega (arith, no_jobs_below_d x y d L h);
      due_within = λ i k. absurd (omega arith);
      next_due_after = omega arith;
    })
    (λ h. record {
      count = (L - d) / y + 1;
      all_their_jobs = jobs_from_d x y d L h;
      due_within = λ i k. omega (arith, (le-div_iff_mul-le {x = i} {y = L - d} py).0 (omega arith));
      next_due_after = omega (arith, lt-div-mul-add {a = L - d} py);
    })
