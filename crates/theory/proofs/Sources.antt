-- The proofs about jobs of several sources. Each job is of one source, so the weight of all jobs is the sum, over the sources, of the weights of their own
-- jobs, and the bounds add up. The sum goes down the list of sources: the jobs from source i on are those of source i and those from the next source on. The
-- last part is about names. Jobs that are named from the end of other jobs' names on share no name with them.
use Prim.Native.Nat.{ℕ, suc, ◌+◌, ◌-◌, ◌≤◌, ◌<◌}
use mathlib.Core.Path.{◌≡◌, refl}
use mathlib.Core.Logic.{◌≢◌}
use mathlib.Core.Bool.{Bool}
use mathlib.Core.List.{List, [], ◌∷◌, ◌++◌, flatten}
use native.Mathlib.Omega.{arith}
use native.Mathlib.Nat.{add-zero, zero-add, le_trans}
use borrow.Author.Tests.{le-leb, lt-leb, eq-eqb, ne_eqb}
use lib.Dec.{leb}
use lib.ListN.{length, get_or, length-append}
use Rattle.theory.specs.Lists.{All, total, weight_if}
use Rattle.theory.specs.Jobs.{Job, within, weighed}
use Rattle.theory.specs.Sources.{own, in_turn, NumberedFrom, SumOfSources, NumberedThrough}
use Rattle.theory.proofs.Cases.{by_lt, by_eq}
use Rattle.theory.proofs.Lists.{all_of, all_imply, All-append, total_monotone, weight_if_lem, weight_unless, none_passes}
use Rattle.theory.proofs.Jobs.{DistinctNames-append}

-- ---- sums, source by source

-- A job of the source i is among the source's own jobs.
pub own_of_it : (i : ℕ) (j : Job) (js : List Job) → j.source ≡ i → own i (j ∷ js) ≡ j ∷ own i js
unfolding own
own_of_it i j js q = rw eq-eqb

-- A job of another source than i is not among the own jobs of the source i.
pub own_of_another : (i : ℕ) (j : Job) (js : List Job) → j.source ≢ i → own i (j ∷ js) ≡ own i js
unfolding own
own_of_another i j js q = rw ne_eqb

-- The job is of the source i or a later one.
abbrev from_source : (i : ℕ) → Job → Bool
from_source i j = leb i j.source

module _ (w : Job → ℕ) where
  -- A job of the source i or a later one counts with its weight among the jobs from source i on.
  weighs_from : (i : ℕ) (j : Job) → i ≤ j.source → weight_if (from_source i) w j ≡ w j
  weighs_from i j h = weight_if_lem (from_source i) w j (le-leb i j.source h)

  -- A job of a source before i does not count among the jobs from source i on.
  weighs_no_more_from : (i : ℕ) (j : Job) → j.source < i → weight_if (from_source i) w j ≡ 0
  weighs_no_more_from i j h = weight_unless (from_source i) w j (lt-leb i j.source h)

  -- A job of another source than i counts the same among the jobs from source i on and among those from the next source on.
  weighs_the_same_from_the_next : (i : ℕ) (j : Job) → j.source ≢ i → weight_if (from_source (suc i)) w j ≡ weight_if (from_source i) w j
  weighs_the_same_from_the_next i j q = by_lt j.source i
      (λ h. omega (arith, weighs_no_more_from i j h, weighs_no_more_from (suc i) j (omega arith)))
      (λ h. omega (arith, weighs_from i j h, weighs_from (suc i) j (omega arith)))

  -- The weight of the jobs from source i on is the weight of the source's own jobs plus the weight of the jobs from the next source on.
  own_and_later : (i : ℕ) (js : List Job) → weighed w (from_source i) js ≡ total w (own i js) + weighed w (from_source (suc i)) js
  unfolding weighed total own
  own_and_later i [] = refl
  own_and_later i (j ∷ js) = by_eq j.source i
      (λ q. rw (own_of_it i j js q) (omega (arith, own_and_later i js, weighs_from i j (omega arith), weighs_no_more_from (suc i) j (omega arith))))
      (λ q. rw (own_of_another i j js q) (omega (arith, own_and_later i js, weighs_the_same_from_the_next i j q)))

  -- Where the own jobs of each source from i on weigh at most its bound, the jobs of all these sources weigh at most the sum of the bounds.
  bounds_add_up : {A : Type 0} (bound : A → ℕ) (other : A) (sources : List A) (i : ℕ) (js : List Job) → All (λ j. j.source < i + length sources) js
      → ((k : ℕ) → k < length sources → total w (own (i + k) js) ≤ bound (get_or sources k other)) → weighed w (from_source i) js ≤ total bound sources
  unfolding weighed total
  bounds_add_up bound other [] i js known bounded =
      omega (arith, none_passes (from_source i) w js (all_imply (λ j h. lt-leb i j.source (omega arith)) js known))
  bounds_add_up bound other (s ∷ sources) i js known bounded =
      let first : total w (own i js) ≤ bound s = rw add-zero at (bounded 0 (omega arith)) in
      let later : (k : ℕ) → k < length sources → total w (own (suc i + k) js) ≤ bound (get_or sources k other) =
      λ k h. (let q : i + suc k ≡ suc i + k = omega arith in rw q at (bounded (suc k) (omega arith))) in
      omega (arith, own_and_later i js, bounds_add_up bound other sources (suc i) js (all_imply (λ j h. omega arith) js known) later)

  -- The weight of all jobs is at most that of the jobs from source 0 on, since every job is of the source 0 or a later one.
  all_from_zero : (js : List Job) → total w js ≤ weighed w (from_source 0) js
  unfolding weighed
  all_from_zero js = total_monotone w (weight_if (from_source 0) w) js (all_of (λ j. omega (arith, weighs_from 0 j (omega arith))) js)

-- Jobs of several sources ask in every window for at most the sum of the sources' bounds.
pub sum_of_sources : SumOfSources
unfolding weighed
sum_of_sources A bound other sources js known bounded a b h =
    let cost_in = weight_if (within a b) (λ j. j.cost) in
    le_trans (all_from_zero cost_in js)
    (bounds_add_up cost_in (λ s. bound s (b - a)) other sources 0 js (rw zero-add known) (λ k l. rw zero-add (bounded k l a b h)))

-- ---- names, list by list

-- Where a list of jobs is named from `first` on, and another from the end of its names on, the joined list is named from `first` on.
pub NumberedFrom-append : (first : ℕ) (s t : List Job) → NumberedFrom first s → NumberedFrom (first + length s) t → NumberedFrom first (s ++ t)
NumberedFrom-append first s t h k = record {
  distinct = DistinctNames-append s t h.distinct k.distinct (all_imply (λ j m. all_imply (λ i n q. omega arith) t k.names) s h.names);
  names = rw length-append (All-append (λ j. (first ≤ j.name) × (j.name < first + (length s + length t))) s t
      (all_imply (λ j m. (m.0, omega arith)) s h.names)
      (all_imply (λ j m. (omega arith, omega arith)) t k.names));
}

-- Where each list of jobs is named from the end of the last list's names on, the joined list is named from `first` on.
pub numbered_through : NumberedThrough
unfolding in_turn flatten
numbered_through A jobs numbered i first [] = record { distinct = tt; names = tt }
numbered_through A jobs numbered i first (a ∷ l) =
    let next = first + length (jobs i first a) in
    NumberedFrom-append first (jobs i first a) (flatten (in_turn jobs (suc i) next l)) (numbered i first a) (numbered_through A jobs numbered (suc i) next l)
