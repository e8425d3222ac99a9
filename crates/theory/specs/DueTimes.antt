-- Due times. The first x jobs of a row are due d ticks after their release. Each further job is due d ticks after its release, or y ticks after the due time of
-- the x-th job before it, whichever is later. This is the paper's recurrence (1). From it alone it follows that in any window a row's jobs cost at most the
-- row's demand, and that jobs which are all released at zero reach that bound. (docs/RULES.md, sections 4 and 5.)
use Rattle.std.specs.Prelude.{ℕ, zero, suc, ◌+◌, ◌-◌, ◌≤◌, ◌<◌, max, ◌≡◌, cond, List, [], ◌∷◌, map, ltb, length, get_or, take}
use Rattle.theory.specs.Lists.{All, total}
use Rattle.theory.specs.Jobs.{Job, jobs_in, BoundedBy}
use Rattle.theory.specs.Demand.{row_jobs, row_demand}

-- The due time of a row's job that is released at t, where `earlier` has the due times of the row's earlier jobs, newest first. With fewer than x earlier jobs
-- it is t + d. Otherwise it is the later of t + d and (the due time of the x-th job before it) + y. (4.2, 4.3)
unfoldable pub due_time : (x y d : ℕ) (earlier : List ℕ) (t : ℕ) → ℕ
due_time x y d earlier t = cond (ltb (length earlier) x) (t + d) (max (t + d) (get_or earlier (x - 1) 0 + y))

-- The release times of a list of jobs, in the jobs' order.
abbrev pub releases : List Job → List ℕ
releases js = map (λ (j : Job). j.release) js

-- The due times of a list of jobs, in the jobs' order.
abbrev pub dues : List Job → List ℕ
dues js = map (λ (j : Job). j.due) js

-- The release time of the newest job in a list that has the newest first. It is 0 for an empty list.
abbrev pub latest : List Job → ℕ
latest [] = 0
latest (j ∷ js) = j.release

-- The job j may come next after the earlier jobs of its row: it is not released before them, its due time is that of the rules after them, and its cost is
-- at most c. (4.1 to 4.3)
pub record Next (x y d c : ℕ) (earlier : List Job) (j : Job) : Type 0 where
  pub in_order : latest earlier ≤ j.release
  pub due_by_rule : j.due ≡ due_time x y d (dues earlier) j.release
  pub cost_at_most : j.cost ≤ c

-- The jobs are those of one row, newest first, and each has the due time that the rules give it after the jobs before it. (4.1 to 4.3)
unfoldable pub ByRule : (x y d c : ℕ) → List Job → Type 0
ByRule x y d c [] = Unit {0}
ByRule x y d c (j ∷ earlier) = Next x y d c earlier j × ByRule x y d c earlier

-- The paper's recurrence (1), in its own terms. A row has n jobs. The j-th of them, counted from 1 in the order of release, is released at the time t j and
-- due at the time D j. (4.1 to 4.3)
pub record RecurrenceOne (x y d n : ℕ) (t D : ℕ → ℕ) : Type 0 where
  pub up_to_x : (j : ℕ) → 1 ≤ j → j ≤ x → j ≤ n → D j ≡ t j + d
  pub past_x : (j : ℕ) → x < j → j ≤ n → D j ≡ max (t j + d) (D (j - x) + y)

-- The j-th oldest number, counted from 1, of a list that has the newest first.
abbrev pub jth : List ℕ → (j : ℕ) → ℕ
jth l j = get_or l (length l - j) 0

-- The first n jobs of a row where all are released at zero and at full cost c, newest first. The oldest has the name `first`, and each later one the next
-- name. (5.10, 5.11)
unfoldable pub all_at_zero : (x y d c source first n : ℕ) → List Job
all_at_zero x y d c source first zero = []
all_at_zero x y d c source first (suc n) =
    record { name = first + n; source = source; release = 0; due = due_time x y d (dues (all_at_zero x y d c source first n)) 0; cost = c }
    ∷ all_at_zero x y d c source first n

-- ---- what is proved about due times (proofs/DueTimes.antt)

-- The due times of the rules are those of the paper's recurrence (1). (4.1 to 4.3)
abbrev pub DueByRecurrenceOne : Type 0
DueByRecurrenceOne = (x y d c : ℕ) (js : List Job) → 1 ≤ x → ByRule x y d c js → RecurrenceOne x y d (length js) (jth (releases js)) (jth (dues js))

-- For given releases, only one sequence of due times satisfies the paper's recurrence (1).
abbrev pub RecurrenceSettles : Type 0
RecurrenceSettles = (x y d n : ℕ) (t D E : ℕ → ℕ) → 1 ≤ x → RecurrenceOne x y d n t D → RecurrenceOne x y d n t E
    → (j : ℕ) → 1 ≤ j → j ≤ n → D j ≡ E j

-- Each job of a row is due at least d ticks after its release. (4.2, 4.3)
abbrev pub DueAtLeastD : Type 0
DueAtLeastD = (x y d c : ℕ) (js : List Job) → ByRule x y d c js → All (λ j. j.release + d ≤ j.due) js

-- Each due time of a row is at least y ticks after the due time of the x-th job before it. (4.3)
abbrev pub DueSpacedByY : Type 0
DueSpacedByY = (x y d c : ℕ) (js : List Job) → 1 ≤ x → ByRule x y d c js → (i : ℕ) → i + x < length js
    → get_or (dues js) (i + x) 0 + y ≤ get_or (dues js) i 0

-- An earlier job of a row is never due after a later one. (Past the end of a list, `get_or` gives 0 here.)
abbrev pub DueInOrder : Type 0
DueInOrder = (x y d c : ℕ) (js : List Job) → ByRule x y d c js → (i k : ℕ) → i ≤ k → get_or (dues js) k 0 ≤ get_or (dues js) i 0

-- The due time of a row's next job depends only on the newest x due times, so keeping these is enough. (4.6)
abbrev pub NewestAreEnough : Type 0
NewestAreEnough = (x y d : ℕ) (earlier : List ℕ) (t : ℕ) → 1 ≤ x → due_time x y d (take x earlier) t ≡ due_time x y d earlier t

-- ---- what is proved about windows (proofs/Windows.antt)

-- In any window of time at most (floor((L − d)/y) + 1) · x jobs of a row are both released and due, where L is the window's length, and none if L < d.
abbrev pub JobsInAWindow : Type 0
JobsInAWindow = (x y d c : ℕ) (js : List Job) → 1 ≤ x → 1 ≤ y → ByRule x y d c js → (a b : ℕ) → jobs_in a b js ≤ row_jobs x y d (b - a)

-- In any window of time, what a row's jobs released and due inside it cost is at most the row's demand in the window's length. (5.12)
abbrev pub RowIsBounded : Type 0
RowIsBounded = (x y d c : ℕ) (js : List Job) → 1 ≤ x → 1 ≤ y → ByRule x y d c js → BoundedBy (row_demand x y d c) js

-- ---- what is proved about jobs that are all released at zero (proofs/AllAtZero.antt)

-- Jobs that are all released at zero have the due times of the rules. Where there are at least `row_jobs` of them, exactly `row_jobs` are due within L. So no
-- smaller bound on a row's jobs in a window holds.
abbrev pub BoundIsReached : Type 0
BoundIsReached = (x y d c source first L n : ℕ) → 1 ≤ x → 1 ≤ y → row_jobs x y d L ≤ n
    → ByRule x y d c (all_at_zero x y d c source first n) × (jobs_in 0 L (all_at_zero x y d c source first n) ≡ row_jobs x y d L)

-- Where all jobs of a row are released at zero, the first `row_jobs` of them are due within L.
abbrev pub FirstAreDueWithin : Type 0
FirstAreDueWithin = (x y d c source first L n : ℕ) → 1 ≤ x → 1 ≤ y → n ≤ row_jobs x y d L → All (λ j. j.due ≤ L) (all_at_zero x y d c source first n)

-- Where all jobs of a row are released at zero and at full cost, the first `row_jobs` of them together cost the row's demand in L.
abbrev pub FirstCostTheDemand : Type 0
FirstCostTheDemand = (x y d c source first L : ℕ)
    → total (λ j. j.cost) (all_at_zero x y d c source first (row_jobs x y d L)) ≡ row_demand x y d c L
