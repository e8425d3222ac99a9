-- The proofs about due times. A due time is the least time that is at least d after the release and, from x earlier jobs on, at least y after the due time of
-- the x-th job before it. From these three facts follow the paper's recurrence, the spacing by y, the order of the due times, and that the newest x are enough.
use Prim.Native.Nat.{ℕ, zero, suc, ◌+◌, ◌-◌, ◌≤◌, ◌<◌, max}
use mathlib.Core.Path.{◌≡◌}
use mathlib.Core.List.{List, [], ◌∷◌}
use native.Mathlib.Omega.{arith}
use native.Mathlib.Decide.{le_ind}
use native.Mathlib.Nat.{le_refl}
use borrow.Author.Tests.{lt-ltb, le-ltb}
use lib.ListN.{length, get_or, take, drop, length-take, length-drop, length-map}
use lib.Seq.{get_or-take, get_or-drop}
use Rattle.theory.specs.Jobs.{Job}
use Rattle.theory.specs.DueTimes.{due_time, releases, dues, ByRule, RecurrenceOne}
use Rattle.theory.specs.DueTimes.{DueByRecurrenceOne, RecurrenceSettles, DueAtLeastD, DueSpacedByY, DueInOrder, NewestAreEnough}
use Rattle.theory.proofs.Cases.{by_lt}

-- ---- one due time

module _ (x y d : ℕ) (earlier : List ℕ) (t : ℕ) where
  -- No job is due sooner than d ticks after its release.
  pub due_time_at_least_d : t + d ≤ due_time x y d earlier t
  unfolding due_time
  due_time_at_least_d = by_lt (length earlier) x
      (λ h. rw (lt-ltb (length earlier) x h) (omega arith))
      (λ h. rw (le-ltb (length earlier) x h) (omega arith))

  -- A job with x earlier jobs or more is not due sooner than y ticks after the due time of the x-th job before it.
  pub due_time_spaced_by_y : x ≤ length earlier → get_or earlier (x - 1) 0 + y ≤ due_time x y d earlier t
  unfolding due_time
  due_time_spaced_by_y h = rw (le-ltb (length earlier) x h) (omega arith)

  -- No job is due later than at the first time that is d ticks after its release and, with x earlier jobs or more, y ticks after the due time of the x-th job
  -- before it.
  pub due_time_is_least : (b : ℕ) → t + d ≤ b → (x ≤ length earlier → get_or earlier (x - 1) 0 + y ≤ b) → due_time x y d earlier t ≤ b
  unfolding due_time
  due_time_is_least b after_release after_earlier = by_lt (length earlier) x
      (λ h. rw (lt-ltb (length earlier) x h) after_release)
      (λ h. rw (le-ltb (length earlier) x h) (omega (arith, after_earlier h)))

  -- The first x jobs are due d ticks after their release.
  pub due_of_the_first : length earlier < x → due_time x y d earlier t ≡ t + d
  due_of_the_first h = omega (arith, due_time_at_least_d, due_time_is_least (t + d) (le_refl _) (λ k. absurd (omega arith)))

  -- Each job after the first x is due d ticks after its release, or y ticks after the due time of the x-th job before it, whichever is later.
  pub due_of_the_further : x ≤ length earlier → due_time x y d earlier t ≡ max (t + d) (get_or earlier (x - 1) 0 + y)
  due_of_the_further h =
      let least = due_time_is_least (max (t + d) (get_or earlier (x - 1) 0 + y)) (omega arith) (λ k. omega arith) in
      omega (arith, due_time_at_least_d, due_time_spaced_by_y h, least)

-- The due time of the next job depends only on the newest x due times.
pub newest_are_enough : NewestAreEnough
newest_are_enough x y d earlier t px = by_lt (length earlier) x
    (λ h. rw (due_of_the_first x y d earlier t h, due_of_the_first x y d (take x earlier) t (omega (arith, length-take x earlier))))
    (λ h.
    let k : x - 1 < x = omega arith in
    rw (due_of_the_further x y d earlier t h, due_of_the_further x y d (take x earlier) t (omega (arith, length-take x earlier)), get_or-take))

-- ---- each due time of a row

-- The due times that stand behind place i: those of the jobs that came before the job at place i.
abbrev behind : List Job → (i : ℕ) → List ℕ
behind js i = drop (suc i) (dues js)

-- Behind place i stand all due times but i + 1.
length-behind : (js : List Job) (i : ℕ) → length (behind js i) ≡ length js - suc i
length-behind js i = simp (length-drop, length-map)

-- The x-th due time behind place i stands at place i + x.
xth_behind : (js : List Job) (i x : ℕ) → 1 ≤ x → get_or (behind js i) (x - 1) 0 ≡ get_or (dues js) (i + x) 0
xth_behind js i x px = let e : suc i + (x - 1) ≡ i + x = omega arith in rw (get_or-drop, e)

-- The due time at place i is that of the rules after the due times behind it.
pub due_by_rule_at : (x y d c : ℕ) (js : List Job) → ByRule x y d c js → (i : ℕ) → i < length js
    → get_or (dues js) i 0 ≡ due_time x y d (behind js i) (get_or (releases js) i 0)
unfolding ByRule
due_by_rule_at x y d c [] r i h = absurd (omega arith)
due_by_rule_at x y d c (j ∷ js) r zero h = r.0.due_by_rule
due_by_rule_at x y d c (j ∷ js) r (suc i) h = due_by_rule_at x y d c js r.1 i (omega arith)

-- The due times of the rules satisfy the paper's recurrence. The j-th job stands at place length − j, with j − 1 jobs behind it, and the x-th of these is job
-- j − x.
pub due_by_recurrence_one : DueByRecurrenceOne
due_by_recurrence_one x y d c js px r = record {
  up_to_x = λ j p h l.
      let i = length js - j in
      let first = due_of_the_first x y d (behind js i) (get_or (releases js) i 0) (omega (arith, length-behind js i)) in
      rw (many_dues, many_releases) (omega (arith, first, due_by_rule_at x y d c js r i (omega arith)));
  past_x = λ j h l.
      let i = length js - j in
      let further = due_of_the_further x y d (behind js i) (get_or (releases js) i 0) (omega (arith, length-behind js i)) in
      let e : i + x ≡ length js - (j - x) = omega arith in
      rw (many_dues, many_releases) (omega (arith, further, due_by_rule_at x y d c js r i (omega arith), rw e at (xth_behind js i x px)));
}
  where
    many_dues : length (dues js) ≡ length js
    many_dues = length-map js (λ j. j.due)

    many_releases : length (releases js) ≡ length js
    many_releases = length-map js (λ j. j.release)

-- Two sequences of due times that satisfy the recurrence agree on the first m jobs. After the first x jobs, each due time depends on that of the x-th job
-- before.
agree_up_to : (x y d n : ℕ) (t D E : ℕ → ℕ) → 1 ≤ x → RecurrenceOne x y d n t D → RecurrenceOne x y d n t E
    → (m j : ℕ) → 1 ≤ j → j ≤ n → j ≤ m → D j ≡ E j
agree_up_to x y d n t D E px p q zero j some few up = absurd (omega arith)
agree_up_to x y d n t D E px p q (suc m) j some few up = by_lt x j
    (λ h.
    let before = agree_up_to x y d n t D E px p q m (j - x) (omega arith) (omega arith) (omega arith) in
    omega (arith, p.past_x j h few, q.past_x j h few, before))
    (λ h. omega (arith, p.up_to_x j some h few, q.up_to_x j some h few))

pub recurrence_settles : RecurrenceSettles
recurrence_settles x y d n t D E px p q j some few = agree_up_to x y d n t D E px p q n j some few few

-- The due time at place i is at least d ticks after the release of its job.
pub due_at_least_d_at : (x y d c : ℕ) (js : List Job) → ByRule x y d c js → (i : ℕ) → i < length js → get_or (releases js) i 0 + d ≤ get_or (dues js) i 0
due_at_least_d_at x y d c js r i h =
    omega (arith, due_by_rule_at x y d c js r i h, due_time_at_least_d x y d (behind js i) (get_or (releases js) i 0))

-- The due time at place i is at least y ticks after the due time x places behind it.
pub due_spaced_by_y : DueSpacedByY
due_spaced_by_y x y d c js px r i h =
    let spaced = due_time_spaced_by_y x y d (behind js i) (get_or (releases js) i 0) (omega (arith, length-behind js i)) in
    omega (arith, spaced, due_by_rule_at x y d c js r i (omega arith), xth_behind js i x px)

-- Each job is due at least d ticks after its release.
pub due_at_least_d : DueAtLeastD
unfolding ByRule
due_at_least_d x y d c [] r = tt
due_at_least_d x y d c (j ∷ js) r = (omega (arith, due_time_at_least_d x y d (dues js) j.release), due_at_least_d x y d c js r.1)

-- The due time at place i + 1 is no later than the due time at place i.
no_later_behind : (x y d c : ℕ) (js : List Job) → ByRule x y d c js → (i : ℕ) → get_or (dues js) (suc i) 0 ≤ get_or (dues js) i 0
unfolding ByRule
no_later_behind x y d c [] r i = omega arith
no_later_behind x y d c (j ∷ js) r (suc i) = no_later_behind x y d c js r.1 i
no_later_behind x y d c (j ∷ []) r zero = omega arith
no_later_behind x y d c (j ∷ before ∷ js) r zero =
    let after_release : before.release + d ≤ j.due = omega (arith, due_time_at_least_d x y d (dues (before ∷ js)) j.release) in
    let after_earlier : x ≤ length (dues js) → get_or (dues js) (x - 1) 0 + y ≤ j.due = λ h. omega (
      arith,
      due_time_spaced_by_y x y d (dues (before ∷ js)) j.release (omega arith),
      no_later_behind x y d c (before ∷ js) r.1 (x - 1),
    ) in
    omega (arith, due_time_is_least x y d (dues js) before.release j.due after_release after_earlier)

-- An earlier job is never due after a later one.
pub due_in_order : DueInOrder
due_in_order x y d c js r i k h =
    le_ind (λ m. get_or (dues js) m 0 ≤ get_or (dues js) i 0) (le_refl _) (λ m l no_later. omega (arith, no_later_behind x y d c js r m)) k h
