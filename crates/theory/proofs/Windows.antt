-- The proof that in any window at most `row_jobs` jobs of a row are both released and due, so that they cost at most the row's demand.
-- The newest job is due at least d + q · y after the release of the job q · x places behind it: d for that job, and y for each x places. Let a window from a
-- to b end before a + d + q · y, and let the newest job be due in it. Then the job q · x places behind was released before a, so at most q · x jobs are in the
-- window. Of batches of x jobs that are due at d, d + y, d + 2 · y and so on, let q be due within b − a. These have `row_jobs` jobs.
use Prim.Native.Nat.{ℕ, zero, suc, ◌+◌, ◌-◌, ◌*◌, ◌≤◌, ◌<◌}
use mathlib.Core.Path.{◌≡◌, refl}
use mathlib.Core.Bool.{Bool, true, false, cond}
use mathlib.Core.List.{List, [], ◌∷◌}
use native.Mathlib.Omega.{arith}
use native.Mathlib.Nat.{zero-mul, suc-mul, mul-le-mul_right}
use lib.ListN.{length, get_or}
use Rattle.theory.specs.Lists.{total}
use Rattle.theory.specs.Jobs.{Job, within, weighed, asked, jobs_in}
use Rattle.theory.specs.Demand.{row_demand}
use Rattle.theory.specs.DueTimes.{releases, dues, latest, ByRule, JobsInAWindow, RowIsBounded}
use Rattle.theory.proofs.Cases.{by_lt}
use Rattle.theory.proofs.Lists.{weight_at_most}
use Rattle.theory.proofs.Jobs.{weight_early, weight_late}
use Rattle.theory.proofs.Demand.{batches}
use Rattle.theory.proofs.DueTimes.{due_at_least_d_at, due_spaced_by_y}

module _ (x y d c : ℕ) where
  module _ (a b : ℕ) where
    -- Where the newest job was released before a, no job is in the window.
    none_since : (js : List Job) → ByRule x y d c js → latest js < a → jobs_in a b js ≡ 0
    unfolding ByRule weighed total
    none_since [] r h = refl
    none_since (j ∷ js) r h = omega (arith, weight_early (λ _. 1) a b j h, none_since js r.1 (omega arith))

    -- Where the job n places behind the newest was released before a, or there is no such job, at most n jobs are in the window.
    at_most_newer : (n : ℕ) (js : List Job) → ByRule x y d c js → (n < length js → get_or (releases js) n 0 < a) → jobs_in a b js ≤ n
    unfolding ByRule weighed total
    at_most_newer zero [] r h = omega arith
    at_most_newer (suc n) [] r h = omega arith
    at_most_newer zero (j ∷ js) r h = omega (arith, none_since (j ∷ js) r (h (omega arith)))
    at_most_newer (suc n) (j ∷ js) r h = omega (arith, weight_at_most (within a b) (λ _. 1) j, at_most_newer n js r.1 (λ k. h (omega arith)))

    -- The jobs in the window together cost at most c times their number.
    cost_by_number : (js : List Job) → ByRule x y d c js → asked a b js ≤ jobs_in a b js * c
    unfolding ByRule weighed total
    cost_by_number [] r = omega arith
    cost_by_number (j ∷ js) r = omega (arith, at_most_c (within a b j), cost_by_number js r.1)
      where
        at_most_c : (counts : Bool) → cond counts j.cost 0 ≤ cond counts 1 0 * c
        at_most_c true = omega arith
        at_most_c false = omega arith

  module _ (px : 1 ≤ x) where
    -- The newest job is due at least q · y ticks after the due time of the job q · x places behind it.
    spaced_by_batches : (js : List Job) → ByRule x y d c js → (q : ℕ) → q * x < length js → get_or (dues js) (q * x) 0 + q * y ≤ get_or (dues js) 0 0
    spaced_by_batches js r zero h = simp zero-mul (omega arith)
    spaced_by_batches js r (suc q) h =
        simp suc-mul (omega (arith, due_spaced_by_y x y d c js px r (q * x) (omega arith), spaced_by_batches js r q (omega arith)))

    -- A window that ends before a + d + q · y has at most q · x jobs.
    at_most_batches : (a b q : ℕ) → b < a + d + q * y → (js : List Job) → ByRule x y d c js → jobs_in a b js ≤ q * x
    unfolding ByRule weighed total
    at_most_batches a b q l [] r = omega arith
    at_most_batches a b q l (j ∷ js) r = by_lt b j.due
        (λ late. omega (arith, weight_late (λ _. 1) a b j late, at_most_batches a b q l js r.1))
        (λ in_time. at_most_newer a b (q * x) (j ∷ js) r λ h.
        omega (arith, due_at_least_d_at x y d c (j ∷ js) r (q * x) h, spaced_by_batches (j ∷ js) r q h))

-- In any window at most `row_jobs` jobs of a row are both released and due.
pub jobs_in_a_window : JobsInAWindow
jobs_in_a_window x y d c js px py r a b =
    let t = batches x y d (b - a) py in
    rw t.all_their_jobs (at_most_batches x y d c px a b t.count (omega arith) js r)

-- In any window a row's jobs that are released and due inside it cost at most the row's demand.
pub row_is_bounded : RowIsBounded
unfolding row_demand
row_is_bounded x y d c js px py r a b h =
    omega (arith, cost_by_number x y d c a b js r, mul-le-mul_right c (jobs_in_a_window x y d c js px py r a b))
