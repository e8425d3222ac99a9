-- Sources. A source is a set of jobs that in every window ask for at most a bound for the window's length. A row is one kind of source. Jobs that come from
-- several sources ask in every window for at most the sum of the bounds, whatever each source releases.
use Rattle.std.specs.Prelude.{ℕ, suc, ◌+◌, ◌≤◌, ◌<◌, cond, eqb, length, get_or}
use mathlib.Core.List.{List, [], ◌∷◌, flatten}
use Rattle.theory.specs.Lists.{All}
use Rattle.theory.specs.Curves.{sum_over}
use Rattle.theory.specs.Jobs.{Job, DistinctNames, BoundedBy}
use Rattle.theory.specs.DueTimes.{all_at_zero}

-- The jobs of a list that are of the source i, in their order.
unfoldable pub own : (i : ℕ) → List Job → List Job
own i [] = []
own i (j ∷ js) = cond (eqb j.source i) (j ∷ own i js) (own i js)

-- The jobs of several sources, source by source, with names that go on counting from one source to the next. `jobs i first a` gives the jobs of the i-th
-- source a, named from `first` on.
unfoldable pub in_turn : {A : Type 0} (jobs : (i first : ℕ) → A → List Job) (i first : ℕ) → List A → List (List Job)
in_turn jobs i first [] = []
in_turn jobs i first (a ∷ l) = jobs i first a ∷ in_turn jobs (suc i) (first + length (jobs i first a)) l

-- The jobs are named from `first` on: no two have the same name, and the names are the next numbers from `first` on, as many as there are jobs.
pub record NumberedFrom (first : ℕ) (js : List Job) : Type 0 where
  pub distinct : DistinctNames js
  pub names : All (λ j. (first ≤ j.name) × (j.name < first + length js)) js

-- ---- what is proved about sources (proofs/Sources.antt)

-- Jobs of several sources ask in every window for at most the sum of the sources' bounds. (`other` is the default for a place past the end of the list, which
-- is never looked up.)
abbrev pub SumOfSources : Type 1
SumOfSources = (A : Type 0) (bound : A → ℕ → ℕ) (other : A) (sources : List A) (js : List Job) → All (λ j. j.source < length sources) js
    → ((i : ℕ) → i < length sources → BoundedBy (bound (get_or sources i other)) (own i js)) → BoundedBy (sum_over bound sources) js

-- Where the jobs of each source are named from the end of the last source's names on, no two jobs of all sources have the same name.
abbrev pub NumberedThrough : Type 1
NumberedThrough = (A : Type 0) (jobs : (i first : ℕ) → A → List Job) → ((i first : ℕ) (a : A) → NumberedFrom first (jobs i first a))
    → (i first : ℕ) (l : List A) → NumberedFrom first (flatten (in_turn jobs i first l))

-- ---- what is proved about the jobs of a row (proofs/AllAtZero.antt)

-- Jobs of a row that are all released at zero are named from the first name on, and no two have the same name.
abbrev pub AllAtZeroAreNumbered : Type 0
AllAtZeroAreNumbered = (x y d c source first n : ℕ) → NumberedFrom first (all_at_zero x y d c source first n)
