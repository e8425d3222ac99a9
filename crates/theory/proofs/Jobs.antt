-- Laws about jobs: the weight of a job in a window, and lists of jobs with distinct names.
use Prim.Native.Nat.{ℕ, ◌≤◌, ◌<◌}
use mathlib.Core.Path.{◌≡◌, refl, sym, ◌∙◌}
use mathlib.Core.Logic.{◌≢◌}
use mathlib.Core.Bool.{false, and-false}
use mathlib.Core.List.{List, [], ◌∷◌, ◌++◌, Memᴰ}
use native.Mathlib.Omega.{arith}
use borrow.Author.Tests.{le-leb, lt-leb, eq-eqb, ne_eqb}
use Rattle.theory.specs.Lists.{All, total, weight_if}
use Rattle.theory.specs.Jobs.{Job, DistinctNames, named, within, weighed, costs}
use Rattle.theory.proofs.Cases.{by_eq}
use Rattle.theory.proofs.Lists.{all_imply, all_at, All-append, weight_if_lem, weight_unless, none_passes, the_only_one}

-- ---- what a job weighs in a window

module _ (w : Job → ℕ) (a b : ℕ) (j : Job) where
  -- A job that is released and due inside the window counts with its weight.
  pub weight_inside : a ≤ j.release → j.due ≤ b → weight_if (within a b) w j ≡ w j
  weight_inside h k = rw (le-leb a j.release h, le-leb j.due b k)

  -- A job that is released before the window does not count.
  pub weight_early : j.release < a → weight_if (within a b) w j ≡ 0
  weight_early h = rw (lt-leb a j.release h)

  -- A job that is due after the window does not count.
  pub weight_late : b < j.due → weight_if (within a b) w j ≡ 0
  weight_late h = rw (lt-leb j.due b h, and-false)

-- ---- names

-- Where no job of a list has the name n, none passes the test `named n`.
pub none_named : (n : ℕ) (js : List Job) → All (λ j. j.name ≢ n) js → All (λ j. named n j ≡ false) js
none_named n js = all_imply (λ j. ne_eqb j.name n) js

-- Of jobs with distinct names at most one has the name n.
pub at_most_one_named : (n : ℕ) (js : List Job) → DistinctNames js → weighed (λ _. 1) (named n) js ≤ 1
unfolding weighed total
at_most_one_named n [] d = omega arith
at_most_one_named n (j ∷ js) d = by_eq j.name n
    (λ e.
    let others = none_passes (named n) (λ _. 1) js (none_named n js (rw e at d.0)) in
    omega (arith, weight_if_lem (named n) (λ _. 1) j (eq-eqb j.name n e), others))
    (λ e. omega (arith, weight_unless (named n) (λ _. 1) j (ne_eqb j.name n e), at_most_one_named n js d.1))

-- In a list with distinct names, the jobs with the name of a member together cost what that member costs.
pub own_cost : (js : List Job) → DistinctNames js → {j : Job} → Memᴰ j js → costs (named j.name) js ≡ j.cost
unfolding weighed
own_cost js d {j} m = the_only_one (named j.name) (λ i. i.cost) (at_most_one_named j.name js d) m (eq-eqb j.name j.name refl)

-- In a list with distinct names, two members with the same name are the same job.
pub one_job_a_name : {i j : Job} {js : List Job} → DistinctNames js → Memᴰ i js → Memᴰ j js → i.name ≡ j.name → i ≡ j
one_job_a_name d (Memᴰ.head p) (Memᴰ.head q) e = p ∙ sym q
one_job_a_name d (Memᴰ.head {x = x} p) (Memᴰ.tail k) e = absurd (all_at (λ i. i.name ≢ x.name) d.0 k (cc))
one_job_a_name d (Memᴰ.tail m) (Memᴰ.head {x = x} q) e = absurd (all_at (λ i. i.name ≢ x.name) d.0 m (cc))
one_job_a_name d (Memᴰ.tail m) (Memᴰ.tail k) e = one_job_a_name d.1 m k e

-- Two lists with distinct names that share no name make together a list with distinct names.
pub DistinctNames-append : (s t : List Job) → DistinctNames s → DistinctNames t → All (λ j. All (λ i. i.name ≢ j.name) t) s → DistinctNames (s ++ t)
DistinctNames-append [] t h k apart = k
DistinctNames-append (j ∷ s) t h k apart = (All-append (λ i. i.name ≢ j.name) s t h.0 apart.0, DistinctNames-append s t h.1 k apart.1)
