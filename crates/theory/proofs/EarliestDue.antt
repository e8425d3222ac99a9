-- The proofs about earliest due first. The invariant `Busy` holds for every time D: there is a window, begun at the clock or before and ending at D, such that
-- the units left of the waiting jobs due by D, plus the free ticks of the window so far, are at most what the jobs ask for in the window. Most events keep the
-- same window, since they change both sides alike. But where a tick idles, or goes to a job due after D, no job that waits is due by D, and the window that
-- begins after that tick is the new one. So where no window that ends at D asks for more than its free ticks, no units are left at D of the jobs due by D.
use Prim.Native.Nat.{ℕ, suc, ◌+◌, ◌-◌, ◌≤◌, ◌<◌}
use mathlib.Core.Path.{◌≡◌}
use mathlib.Core.Bool.{Bool}
use mathlib.Core.Option.{Option}
use mathlib.Core.List.{List, [], ◌∷◌}
use native.Mathlib.Omega.{arith}
use borrow.Author.Tests.{le-leb, lt-leb}
use Rattle.theory.specs.Lists.{All, total, weight_if}
use Rattle.theory.specs.Curves.{EveryLengthFits}
use Rattle.theory.specs.Jobs.{Job, DistinctNames, due_by, weighed, asked, BoundedBy}
use Rattle.theory.specs.Ticks.{free, TakenAtMost}
use Rattle.theory.specs.Trace.{Waiting, units_left, Trace, begin, accept, lost, idle, serve, leave, ServesEarliestDue, NeverIdlesInVain, Busy}
use Rattle.theory.specs.Trace.{ServedOrEnded, waits, over, AnEarliestMayBeServed, AlwaysBusy, NothingDueWaits, TraceIsInTime}
use Rattle.theory.proofs.Cases.{by_lt}
use Rattle.theory.proofs.Lists.{all_imply, all_at, weight_if_lem, weight_unless, none_passes}
use Rattle.theory.proofs.Jobs.{weight_inside}
use Rattle.theory.proofs.Ticks.{free_before_grows, after_a_taken_tick, after_a_free_tick}
use Rattle.theory.proofs.Trace.{units_left_put_in, unit_taken_off, all_owed, every_job_has_its_fate}

-- ---- what is left to get by a time

module _ (D : ℕ) where
  -- The weight of a job that is due by D counts.
  counts : (w : Job → ℕ) (j : Job) → j.due ≤ D → weight_if (due_by D) w j ≡ w j
  counts w j h = weight_if_lem (due_by D) w j (le-leb j.due D h)

  -- The weight of a job that is due after D does not count.
  counts_not : (w : Job → ℕ) (j : Job) → D < j.due → weight_if (due_by D) w j ≡ 0
  counts_not w j h = weight_unless (due_by D) w j (lt-leb j.due D h)

  -- Where no job that waits is due by D, the jobs due by D have no units left.
  nothing_left : (waiting : List Waiting) → All (λ w. D < w.job.due) waiting → units_left (due_by D) waiting ≡ 0
  unfolding units_left
  nothing_left waiting h =
      none_passes (λ w. due_by D w.job) (λ w. w.left) waiting (all_imply (λ w. lt-leb w.job.due D) waiting h)

  -- Where the jobs due by D have no units left, and each job that waits has at least 1, no job that waits is due by D.
  nothing_due : (waiting : List Waiting) → All (λ w. 1 ≤ w.left) waiting → units_left (due_by D) waiting ≡ 0 → All (λ w. D < w.job.due) waiting
  unfolding units_left total
  nothing_due [] some_left none = tt
  nothing_due (w ∷ ws) some_left none =
      (by_lt D w.job.due (λ later. later) (λ by. omega (arith, counts (λ _. w.left) w.job by)), nothing_due ws some_left.1 (omega arith))

-- ---- the invariant

-- Where the jobs due by D have no units left, the invariant holds with the window that begins at the clock.
begins_now : (taken : ℕ → Bool) (t : ℕ) (waiting : List Waiting) (accepted : List Job) (D : ℕ) → units_left (due_by D) waiting ≡ 0
    → Busy taken t waiting accepted D
unfolding free
begins_now taken t waiting accepted D none = record { from = t; begun = omega arith; bound = omega arith }

-- Giving a unit to a job with the earliest due time keeps earliest due first.
pub an_earliest_may_be_served : {taken : ℕ → Bool} {t : ℕ} {waiting : List Waiting} {accepted : List Job} {ticks : List (Option ℕ)} {left_early : List Waiting}
    → AnEarliestMayBeServed taken t waiting accepted ticks left_early
unfolding ServesEarliestDue
an_earliest_may_be_served r so_far is_free j left rest after from goes earliest = (earliest, so_far)

-- The invariant `Busy` holds for every time D.
pub always_busy : {taken : ℕ → Bool} {t : ℕ} {waiting : List Waiting} {accepted : List Job} {ticks : List (Option ℕ)} {left_early : List Waiting}
    → AlwaysBusy taken t waiting accepted ticks left_early
unfolding ServesEarliestDue NeverIdlesInVain free weighed total
always_busy {taken = taken} begin first never_idle D = begins_now taken 0 [] [] D (nothing_left D [] tt)
always_busy (accept r j at some_cost put) first never_idle D =
    let b = always_busy r first never_idle D in
    record {
      from = b.from;
      begun = b.begun;
      bound = by_lt D j.due
          (λ later. omega (arith, b.bound, units_left_put_in (due_by D) put, counts_not D (λ i. i.cost) j later))
          (λ by.
          let inside = weight_inside (λ i. i.cost) b.from D j (omega (arith, b.begun)) by in
          omega (arith, b.bound, units_left_put_in (due_by D) put, counts D (λ i. i.cost) j by, inside));
    }
always_busy {taken = taken} (lost {t = t} r k) first never_idle D =
    let b = always_busy r first never_idle D in
    record { from = b.from; begun = omega (arith, b.begun); bound = omega (arith, b.bound, after_a_taken_tick taken t k) }
always_busy {taken = taken} (idle {t = t} {waiting = waiting} {accepted = accepted} r k) first never_idle D =
    begins_now taken (suc t) waiting accepted D (rw never_idle.0 (nothing_left D [] tt))
always_busy {taken = taken} (serve {t = t} {waiting = waiting} {after = after} {accepted = accepted} r k j left from goes) first never_idle D = by_lt D j.due
    (λ later.
    let none = nothing_left D waiting (all_imply (λ w h. omega arith) waiting first.0) in
    begins_now taken (suc t) after accepted D (omega (arith, none, unit_taken_off (due_by D) from goes)))
    (λ by.
    let b = always_busy r first.1 never_idle D in
    record {
      from = b.from;
      begun = omega (arith, b.begun);
      bound = omega (
        arith,
        b.bound,
        unit_taken_off (due_by D) from goes,
        counts D (λ _. 1) j by,
        after_a_free_tick taken t k,
        free_before_grows taken b.from t b.begun,
      );
    })
always_busy (leave r w from) first never_idle D =
    let b = always_busy r first never_idle D in
    record { from = b.from; begun = b.begun; bound = omega (arith, b.bound, units_left_put_in (due_by D) from) }

-- ---- what follows from the invariant

-- Where the jobs' demand and the taken ticks together are at most the length, for every length, no window asks for more than its free ticks.
pub fits_every_window : (taken : ℕ → Bool) (js : List Job) (demand lost_ticks : ℕ → ℕ) → BoundedBy demand js → TakenAtMost lost_ticks taken
    → demand 0 ≡ 0 → EveryLengthFits (λ L. demand L + lost_ticks L) → (a b : ℕ) → a ≤ b → asked a b js ≤ free taken a b
fits_every_window taken js demand lost_ticks bounded few none fits a b h = by_lt a b
    (λ l. omega (arith, bounded a b h, few a b h, fits (b - a) (omega arith)))
    (λ l. let empty : b - a ≡ 0 = omega arith in omega (arith, none, rw empty at (bounded a b h)))

module _ {taken : ℕ → Bool} {t : ℕ} {waiting : List Waiting} {accepted : List Job} {ticks : List (Option ℕ)} {left_early : List Waiting} where
  -- Where no window that ends at the clock asks for more than its free ticks, each job that waits is due after the clock.
  pub nothing_due_waits : NothingDueWaits taken t waiting accepted ticks left_early
  nothing_due_waits r first never_idle fits =
      let b = always_busy r first never_idle t in
      nothing_due t waiting (all_imply (λ w h. h.1) waiting (all_owed r).0) (omega (arith, b.bound, fits b.from b.begun))

  -- Where no window that ends at the clock asks for more than its free ticks, each accepted job that is due by the clock has had its cost, or left early.
  pub due_are_over : (r : Trace taken t waiting accepted ticks left_early) → ServesEarliestDue r → NeverIdlesInVain r → DistinctNames accepted
      → ((a : ℕ) → a ≤ t → asked a t accepted ≤ free taken a t) → All (λ j. j.due ≤ t → ServedOrEnded j ticks left_early) accepted
  due_are_over r first never_idle distinct fits =
      let later = nothing_due_waits r first never_idle fits in
      all_imply
      (λ j fate due. elim fate [
        | waits u ↦ absurd (omega (arith, all_at (λ w. t < w.job.due) later u.among))
        | over o ↦ o
      ])
      accepted
      (every_job_has_its_fate r distinct)

  -- Where demand and taken ticks together are at most the length, for every length, each accepted job that is due by the clock has had its cost, or left early.
  pub trace_is_in_time : TraceIsInTime taken t waiting accepted ticks left_early
  trace_is_in_time r first never_idle distinct demand lost_ticks bounded few none fits =
      due_are_over r first never_idle distinct (λ a. fits_every_window taken accepted demand lost_ticks bounded few none fits a t)
