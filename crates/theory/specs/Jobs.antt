-- Jobs, and what a list of jobs asks for in a window of time: the costs of those that are released and due inside it.
use Rattle.std.specs.Prelude.{ℕ, ◌-◌, ◌≤◌, ◌≢◌, Bool, ◌&&◌, List, [], ◌∷◌, eqb, leb}
use Rattle.theory.specs.Lists.{All, total, weight_if}

-- A job as it was accepted: its name, its source (such as its row number), its release, its due time and its stated cost in units. (1.4, 1.6, 1.8)
pub record Job : Type 0 where
  pub name : ℕ
  pub source : ℕ
  pub release : ℕ
  pub due : ℕ
  pub cost : ℕ

-- No two jobs of a list have the same name.
abbrev pub DistinctNames : List Job → Type 0
DistinctNames [] = Unit {0}
DistinctNames (j ∷ js) = All (λ i. i.name ≢ j.name) js × DistinctNames js

-- ---- kinds of jobs

-- The job's name is n.
abbrev pub named : (n : ℕ) → Job → Bool
named n j = eqb j.name n

-- The job is due at the time D or before.
abbrev pub due_by : (D : ℕ) → Job → Bool
due_by D j = leb j.due D

-- The job is released and due inside the window from a to b: released at a or after, and due at b or before.
abbrev pub within : (a b : ℕ) → Job → Bool
within a b j = leb a j.release && due_by b j

-- ---- sums over the jobs of a kind

-- The sum of a weight over the jobs of a kind, in a list of jobs.
unfoldable pub weighed : (Job → ℕ) → (kind : Job → Bool) → List Job → ℕ
weighed w kind js = total (weight_if kind w) js

-- What the jobs of a kind cost together.
abbrev pub costs : (kind : Job → Bool) → List Job → ℕ
costs kind js = weighed (λ j. j.cost) kind js

-- What the jobs released and due inside the window from a to b cost together. This is what the jobs ask for in the window. (5.12)
abbrev pub asked : (a b : ℕ) → List Job → ℕ
asked a b js = costs (within a b) js

-- How many jobs are released and due inside the window from a to b.
abbrev pub jobs_in : (a b : ℕ) → List Job → ℕ
jobs_in a b js = weighed (λ _. 1) (within a b) js

-- In every window, what the jobs ask for is at most the bound for the window's length.
abbrev pub BoundedBy : (ℕ → ℕ) → List Job → Type 0
BoundedBy bound js = (a b : ℕ) → a ≤ b → asked a b js ≤ bound (b - a)
