-- The proofs about traces as schedules. The ticks of a trace, read as an assignment, give each name as many units before a time as the trace gave by then,
-- since a later tick changes nothing before it. Where no window asks for more than its free ticks, a job that is due at the clock has had its cost by then. By
-- induction on the trace the same is proved for every due time up to the clock.
use Prim.Native.Nat.{ℕ, zero, suc, ◌+◌, ◌≤◌, ◌<◌}
use mathlib.Core.Path.{◌≡◌, refl, sym, ap, ◌∙◌}
use mathlib.Core.Bool.{Bool, cond}
use mathlib.Core.Option.{Option, none, some}
use mathlib.Core.List.Memᴰ
use mathlib.Core.List.{List, [], ◌∷◌}
use native.Mathlib.Omega.{arith}
use lib.ListN.{length}
use borrow.Author.Tests.{eq-eqb, ne_eqb}
use Rattle.theory.specs.Lists.{All, total}
use Rattle.theory.specs.Jobs.{Job, DistinctNames, weighed, asked}
use Rattle.theory.specs.Ticks.{free, had}
use Rattle.theory.specs.Trace.{Waiting, units, Trace, begin, accept, lost, idle, serve, leave, ServesEarliestDue, NeverIdlesInVain}
use Rattle.theory.specs.Trace.{ServedOrEnded, served, ended}
use Rattle.theory.specs.Schedules.{units_before, units_in, who_had, TraceIsASchedule, NothingBeforeRelease, EarliestDueMeets, EarliestDueIsOptimal}
use Rattle.theory.proofs.Cases.{by_lt}
use Rattle.theory.proofs.Lists.{all_of_members, all_at}
use Rattle.theory.proofs.Jobs.{weight_inside}
use Rattle.theory.proofs.Trace.{one_entry_a_tick, released_by_the_clock, only_accepted_have_ticks}
use Rattle.theory.proofs.EarliestDue.{due_are_over}
use Rattle.theory.proofs.Schedules.{windows_fit}

-- ---- one tick more

module _ (taken : ℕ → Bool) (tick : Option ℕ) (earlier : List (Option ℕ)) (n : ℕ) where
  -- A new tick does not change the units given before it.
  units_earlier : (t : ℕ) → t ≤ length earlier → units_before taken (who_had (tick ∷ earlier)) n t ≡ units_before taken (who_had earlier) n t
  unfolding units_before who_had
  units_earlier zero h = refl
  units_earlier (suc t) h = rw (ne_eqb t (length earlier) (λ e. omega arith), units_earlier t (omega arith))

  -- A new tick gives one unit to the job that has it, unless the tick is taken.
  units_newest : (t : ℕ) → length earlier ≡ t
      → units_before taken (who_had (tick ∷ earlier)) n (suc t) ≡ cond (taken t) 0 (had n tick) + units_before taken (who_had earlier) n t
  unfolding units_before who_had
  units_newest t e = rw (eq-eqb t (length earlier) (sym e), units_earlier t (omega arith))

-- Before the first tick nobody has had a unit.
nothing_at_first : (taken : ℕ → Bool) (who : ℕ → Option ℕ) (n : ℕ) → units_before taken who n 0 ≡ 0
unfolding units_before
nothing_at_first taken who n = refl

-- ---- the schedule of a trace

pub trace_is_a_schedule : {taken : ℕ → Bool} {t : ℕ} {waiting : List Waiting} {accepted : List Job} {ticks : List (Option ℕ)} {left_early : List Waiting}
    → TraceIsASchedule taken t waiting accepted ticks left_early
unfolding units total
trace_is_a_schedule {taken = taken} begin n = nothing_at_first taken (who_had []) n
trace_is_a_schedule (accept r j at some_cost put) n = trace_is_a_schedule r n
trace_is_a_schedule {taken = taken} (lost {t = t} {ticks = ticks} r k) n =
    omega (arith, rw k at (units_newest taken none ticks n t (one_entry_a_tick r)), trace_is_a_schedule r n)
trace_is_a_schedule {taken = taken} (idle {t = t} {ticks = ticks} r k) n =
    omega (arith, rw k at (units_newest taken none ticks n t (one_entry_a_tick r)), trace_is_a_schedule r n)
trace_is_a_schedule {taken = taken} (serve {t = t} {ticks = ticks} r k j left from goes) n =
    omega (arith, rw k at (units_newest taken (some j.name) ticks n t (one_entry_a_tick r)), trace_is_a_schedule r n)
trace_is_a_schedule (leave r w from) n = trace_is_a_schedule r n

-- Where no accepted job was given a unit before its release, this is still so after one more tick.
still_nothing : (taken : ℕ → Bool) (t : ℕ) (tick : Option ℕ) (ticks : List (Option ℕ)) (accepted : List Job) → length ticks ≡ t
    → All (λ j. j.release ≤ t) accepted → All (λ j. units_before taken (who_had ticks) j.name j.release ≡ 0) accepted
    → All (λ j. units_before taken (who_had (tick ∷ ticks)) j.name j.release ≡ 0) accepted
still_nothing taken t tick ticks accepted e released none_yet = all_of_members accepted λ j m.
    units_earlier taken tick ticks j.name j.release (omega (arith, all_at (λ i. i.release ≤ t) released m))
    ∙ all_at (λ i. units_before taken (who_had ticks) i.name i.release ≡ 0) none_yet m

pub nothing_before_release : {taken : ℕ → Bool} {t : ℕ} {waiting : List Waiting} {accepted : List Job} {ticks : List (Option ℕ)} {left_early : List Waiting}
    → NothingBeforeRelease taken t waiting accepted ticks left_early
nothing_before_release begin distinct = tt
nothing_before_release (accept r j at some_cost put) distinct =
    (rw at (trace_is_a_schedule r j.name ∙ only_accepted_have_ticks r j.name distinct.0), nothing_before_release r distinct.1)
nothing_before_release {taken = taken} (lost {t = t} {accepted = js} {ticks = ticks} r k) distinct =
    still_nothing taken t none ticks js (one_entry_a_tick r) (released_by_the_clock r) (nothing_before_release r distinct)
nothing_before_release {taken = taken} (idle {t = t} {accepted = js} {ticks = ticks} r k) distinct =
    still_nothing taken t none ticks js (one_entry_a_tick r) (released_by_the_clock r) (nothing_before_release r distinct)
nothing_before_release {taken = taken} (serve {t = t} {accepted = js} {ticks = ticks} r k j left from goes) distinct =
    still_nothing taken t (some j.name) ticks js (one_entry_a_tick r) (released_by_the_clock r) (nothing_before_release r distinct)
nothing_before_release (leave r w from) distinct = nothing_before_release r distinct

-- ---- every due time up to the clock

-- No window asks for more than its free ticks.
abbrev Fits : (taken : ℕ → Bool) → List Job → Type 0
Fits taken js = (a b : ℕ) → a ≤ b → asked a b js ≤ free taken a b

-- Each job that is due by t had its cost before its due time.
abbrev HadByDue : (taken : ℕ → Bool) (t : ℕ) → List Job → List (Option ℕ) → Type 0
HadByDue taken t js ticks = All (λ j. j.due ≤ t → j.cost ≤ units_before taken (who_had ticks) j.name j.due) js

-- Where no window asks for more than its free ticks, this is still so with one job less.
fits_the_others : (taken : ℕ → Bool) (j : Job) (js : List Job) → Fits taken (j ∷ js) → Fits taken js
unfolding weighed total
fits_the_others taken j js fits a b h = omega (arith, fits a b h)

-- Where no window asks for more than its free ticks, a job of cost 1 or more is due after its release.
due_later : (taken : ℕ → Bool) (t : ℕ) (j : Job) (js : List Job) → Fits taken (j ∷ js) → j.release ≡ t → 1 ≤ j.cost → t < j.due
unfolding weighed total free
due_later taken t j js fits at some_cost = by_lt t j.due (λ later. later) λ by.
    absurd (omega (arith, fits t t (omega arith), weight_inside (λ i. i.cost) t t j (omega arith) by))

-- Let each job due by t have had its cost by its due time, and let each job due by t + 1 have had its cost one tick later. Then each job due by t + 1 has had
-- its cost by its due time.
a_tick_later : (taken : ℕ → Bool) (t : ℕ) (tick : Option ℕ) (ticks : List (Option ℕ)) (accepted : List Job) {waiting left_early : List Waiting}
    → Trace taken (suc t) waiting accepted (tick ∷ ticks) left_early → left_early ≡ [] → HadByDue taken t accepted ticks
    → All (λ j. j.due ≤ suc t → ServedOrEnded j (tick ∷ ticks) left_early) accepted → HadByDue taken (suc t) accepted (tick ∷ ticks)
a_tick_later taken t tick ticks accepted {left_early = left_early} r nobody_left before now = all_of_members accepted λ j m due.
    let long = one_entry_a_tick r in
    by_lt t j.due
    (λ at_the_clock.
    let is : j.due ≡ suc t = omega arith in
    elim (all_at (λ i. i.due ≤ suc t → ServedOrEnded i (tick ∷ ticks) left_early) now m due) [
      | served e ↦ rw is (omega (arith, trace_is_a_schedule r j.name, e))
      | ended u ↦ absurd (Memᴰ.not-nil (rw nobody_left at u.among))
    ])
    (λ earlier. omega (
      arith,
      units_earlier taken tick ticks j.name j.due (omega arith),
      all_at (λ i. i.due ≤ t → i.cost ≤ units_before taken (who_had ticks) i.name i.due) before m earlier,
    ))

-- Each accepted job that is due by the clock had its cost before its due time.
had_by_due : {taken : ℕ → Bool} {t : ℕ} {waiting : List Waiting} {accepted : List Job} {ticks : List (Option ℕ)} {left_early : List Waiting}
    → (r : Trace taken t waiting accepted ticks left_early) → left_early ≡ [] → ServesEarliestDue r → NeverIdlesInVain r → DistinctNames accepted
    → Fits taken accepted → HadByDue taken t accepted ticks
unfolding ServesEarliestDue NeverIdlesInVain
had_by_due begin e first never_idle distinct fits = tt
had_by_due {taken = taken} (accept {t = t} {accepted = js} r j at some_cost put) e first never_idle distinct fits = (
  λ by. absurd (omega (arith, due_later taken t j js fits at some_cost)),
  had_by_due r e first never_idle distinct.1 (fits_the_others taken j js fits),
)
had_by_due {taken = taken} (lost {t = t} {accepted = js} {ticks = ticks} r k) e first never_idle distinct fits =
    let over_now = due_are_over (lost r k) first never_idle distinct (λ a. fits a (suc t)) in
    a_tick_later taken t none ticks js (lost r k) e (had_by_due r e first never_idle distinct fits) over_now
had_by_due {taken = taken} (idle {t = t} {accepted = js} {ticks = ticks} r k) e first never_idle distinct fits =
    let over_now = due_are_over (idle r k) first never_idle distinct (λ a. fits a (suc t)) in
    a_tick_later taken t none ticks js (idle r k) e (had_by_due r e first never_idle.1 distinct fits) over_now
had_by_due {taken = taken} (serve {t = t} {accepted = js} {ticks = ticks} r k j left from goes) e first never_idle distinct fits =
    let over_now = due_are_over (serve r k j left from goes) first never_idle distinct (λ a. fits a (suc t)) in
    a_tick_later taken t (some j.name) ticks js (serve r k j left from goes) e (had_by_due r e first.1 never_idle distinct fits) over_now
had_by_due (leave r w from) e first never_idle distinct fits = absurd (omega (arith, ap length e))

module _ {taken : ℕ → Bool} {t : ℕ} {waiting : List Waiting} {accepted : List Job} {ticks : List (Option ℕ)} {left_early : List Waiting} where
  pub earliest_due_meets : EarliestDueMeets taken t waiting accepted ticks left_early
  unfolding units_in
  earliest_due_meets r e first never_idle distinct fits due =
      let by_due = had_by_due r e first never_idle distinct fits in
      let at_first = nothing_before_release r distinct in
      all_of_members accepted λ j m.
      let had = all_at (λ i. i.due ≤ t → i.cost ≤ units_before taken (who_had ticks) i.name i.due) by_due m (all_at (λ i. i.due ≤ t) due m) in
      omega (arith, had, all_at (λ i. units_before taken (who_had ticks) i.name i.release ≡ 0) at_first m)

  pub earliest_due_is_optimal : EarliestDueIsOptimal taken t waiting accepted ticks left_early
  earliest_due_is_optimal r e first never_idle distinct due who met =
      earliest_due_meets r e first never_idle distinct (windows_fit taken who accepted distinct met) due
