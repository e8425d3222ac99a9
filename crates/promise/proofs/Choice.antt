-- Choice: the proof. The run's timer is the table's and its clock is the trace's, so that both take the same ticks. In a free tick the run chooses among its
-- pending jobs, and these are the unfinished accepted ones. So what the choice says about the pending jobs it says about the trace. The late count is over the
-- jobs that are pending after the tick, which are the ones that are unfinished then. (6.5, 6.10, 6.11, 6.12, 6.14)
use Prim.Native.Nat.{ℕ, suc, ◌+◌, ◌%◌, ◌≤◌, ◌<◌}
use mathlib.Core.Path.{◌≡◌, refl, sym, ap, subst, ◌∙◌}
use mathlib.Core.Logic.{◌↔◌, ◌⊎◌, inl, inr, ⊎_elim}
use mathlib.Core.Bool.{Bool, true, false, cond, ◌&&◌, and-true}
use mathlib.Core.List.Memᴰ
use mathlib.Core.List.{List, [], ◌∷◌, Memᴰ}
use native.Mathlib.Omega.{arith}
use lib.Dec.{eqb}
use lib.ListN.{length, get_or, take}
use borrow.Author.Tests.{le-leb, lt-leb, lt-ltb, ne_eqb}
use Rattle.kinds.specs.Numbering.{max_time}
use Rattle.kinds.proofs.Apart.{impossible}
use Rattle.theory.specs.Lists.{total, weight_if}
use Rattle.theory.specs.Jobs.{Job}
use Rattle.theory.proofs.Cases.{by_lt, by_test}
use Rattle.theory.proofs.Lists.{all_of, all_of_members, none_passes}
use Rattle.table.specs.declared.Table.{Table}
use Rattle.table.proofs.Each.{each_taken}
use Rattle.jobs.specs.declared.Job.{Job as PendingJob}
use Rattle.jobs.specs.Places.{no_job, jobs_of, used}
use Rattle.jobs.specs.Choice.{first_place}
use Rattle.jobs.specs.Units.{ran_of}
use Rattle.jobs.specs.Late.{is_late, late_count}
use Rattle.jobs.specs.Turns.{first_job}
use Rattle.jobs.specs.JobChanges.{NotAfter, IsFirst}
use Rattle.jobs.proofs.Changes.{choice_is_first, job_among_the_rest, place_holds_job}
use Rattle.run.specs.declared.Run.{Run}
use Rattle.run.specs.Ticking.{is_taken, ticked}
use Rattle.run.proofs.Ticking.{counted, taken_where, taken_means, idle_means}
use Rattle.jobs.specs.Answers.{has_finished}
use Rattle.run.specs.Answers.{idle, ran, taken, tick_says}
use Rattle.promise.specs.Traces.{Call, Event, event_of, run_at, trace, clock_of, jobs_of_trace, units_of, was_ended, unfinished}
use Rattle.promise.specs.Choice.{TakenWhenTheTimerTakes, IdleWhenAllHaveTheirCost, SomeJobRan, RunsWhenFree}
use Rattle.promise.specs.Choice.{GoesFirst, RanFirst, EarliestDueFirst, late_at, LateCountIsTheLate}
use Rattle.promise.specs.Link.{job_of}
use Rattle.promise.proofs.RunAndTrace.{Bridge}
use Rattle.promise.proofs.Ended.{pending_not_ended}
use Rattle.promise.proofs.RunsFollow.{bridge}
use Rattle.promise.proofs.Units.{total_same, sound_facts, pending_is_owed, pending_is_unfinished, unfinished_is_pending}
use Rattle.promise.proofs.Units.{finished_had_its_cost, unfinished_weigh_as_pending}
use Rattle.promise.proofs.Ticks.{no_job_by_a_tick, each_tick}

-- A number that counts under two tests, one after the other, counts where both hold.
counts_if_both : (a b : Bool) (n : ℕ) → cond b (cond a n 0) 0 ≡ cond (a && b) n 0
counts_if_both true true n = refl
counts_if_both true false n = refl
counts_if_both false true n = refl
counts_if_both false false n = refl

-- The late count is a sum over the pending jobs.
late_count_is_total : (time : ℕ) (ps : List PendingJob) → late_count time ps ≡ total (weight_if (is_late time) (λ _. 1)) ps
unfolding late_count total
late_count_is_total time [] = refl
late_count_is_total time (p ∷ ps) = omega (arith, late_count_is_total time ps)

module _ {t : Table} {run : Run} {es : List Event} (b : Bridge t run es) where
  -- `pending` lists the run's pending jobs.
  abbrev pub pending : List PendingJob
  pending = jobs_of run.pending

  -- The list of pending jobs is as long as the run's count says.
  many : length pending ≡ run.pending.count
  many = counted run (b.sound, b.whole)

  -- What holds at every place in use holds for every pending job.
  pub each_pending : (P : PendingJob → Type 0) → ((i : ℕ) → i < length pending → P (get_or pending i no_job)) → (p : PendingJob) → Memᴰ p pending → P p
  each_pending P f = each_taken P run.pending.count run.pending.places no_job
      (λ i h.
      let inside : i < used run.pending = omega (arith, many) in
      rw (place_holds_job run.pending i inside) (f i inside))

  -- ---- idle

  -- Where the count is 0, no job is pending.
  no_jobs : run.pending.count ≡ 0 → pending ≡ []
  no_jobs = ap (λ n. take n run.pending.places)

  -- Where nothing is pending, no accepted job is unfinished.
  none_unfinished : run.pending.count ≡ 0 → (j : Job) → Memᴰ j (jobs_of_trace es) → unfinished es j ≡ true → ⊥
  none_unfinished none j m h =
      let found = unfinished_is_pending b j m h in
      Memᴰ.not-nil (subst (λ l. Memᴰ found.place l) (no_jobs none) found.pending)

  -- The job was ended early, or it has had its cost.
  abbrev HasLeft : Job → Type 0
  HasLeft j = (was_ended es j ≡ true) ⊎ (units_of j.name es ≡ j.cost)

  -- Where nothing is pending, every accepted job was ended early or has had its cost.
  pub none_pending : run.pending.count ≡ 0 → (j : Job) → Memᴰ j (jobs_of_trace es) → HasLeft j
  none_pending none j m = by_test (was_ended es j)
      (λ gone. inl gone)
      (λ stays. by_test (unfinished es j) (λ h. absurd (none_unfinished none j m h)) (λ h. inr (finished_had_its_cost b j m stays h)))

  -- ---- the job that goes first

  module _ (some : 1 ≤ run.pending.count) where
    -- The job that goes first stands at the first place by the rule of choice.
    place : IsFirst pending (first_place pending)
    place = choice_is_first pending (omega (arith, many))

    -- `first` is the pending job that goes first.
    abbrev pub first : PendingJob
    first = get_or pending (first_place pending) no_job

    -- The job that the run chooses is `first`.
    pub first_stands : first_job run.pending ≡ first
    first_stands = place_holds_job run.pending (first_place pending) place.inside

    -- The job that goes first is pending.
    pub first_pending : Memᴰ first pending
    first_pending = subst (λ l. Memᴰ first l) (sym (job_among_the_rest pending (first_place pending) place.inside))
        (Memᴰ.append_right (take (first_place pending) pending) (Memᴰ.head refl))

    -- The job that goes first comes after no other pending job.
    after_none : (p : PendingJob) → Memᴰ p pending → NotAfter first p
    after_none = each_pending (NotAfter first) place.first

    -- The job that goes first in the run goes first among the unfinished accepted jobs.
    first_goes_first : GoesFirst es (job_of first)
    first_goes_first = record {
      accepted = (pending_is_owed b first first_pending).was_accepted;
      not_done = pending_is_unfinished b first first_pending;
      earliest = λ i m h.
          let found = unfinished_is_pending b i m h in
          subst (λ (j : Job). first.due.0 ≤ j.due) found.its_own (after_none found.place found.pending).due;
      lowest = λ i m h.
          let found = unfinished_is_pending b i m h in
          subst (λ (j : Job). j.due ≡ first.due.0 → first.serial.0 ≤ j.name) found.its_own
          (λ e. (after_none found.place found.pending).serial (sym e));
    }

    -- The job that goes first finishes exactly where this unit makes up its cost.
    first_finishes : (has_finished (ran_of first).finished ≡ true) ↔ (suc (units_of first.serial.0 es) ≡ first.cost)
    first_finishes =
        let owed = pending_is_owed b first first_pending in
        by_lt 1 first.left
        (λ more. rw (lt-leb first.left 1 more) (λ e. impossible cc, λ e. absurd (omega arith)))
        (λ last. rw (le-leb first.left 1 last) (λ e. omega arith, λ e. refl))

    -- A tick that runs the first job answers as the promise says.
    first_ran : RanFirst es first.serial.0 (has_finished (ran_of first).finished)
    first_ran = record { job = job_of first; its_serial = refl; first = first_goes_first; finishes = first_finishes }

  -- Where every accepted job was ended early or has had its cost, nothing is pending.
  all_done : ((j : Job) → Memᴰ j (jobs_of_trace es) → HasLeft j) → run.pending.count ≡ 0
  all_done done = by_lt 0 run.pending.count
      (λ some.
      let owed = pending_is_owed b (first some) (first_pending some) in
      let stays = pending_not_ended b (first some) (first_pending some) in
      ⊎_elim (λ gone. impossible cc) (λ had. absurd (omega arith)) (done (job_of (first some)) owed.was_accepted))
      (λ none. omega arith)

  -- ---- the timer

  -- The table's timer takes the next tick.
  abbrev TakesNext : Type 0
  TakesNext = clock_of es % t.p < t.s

  -- The run's own timer takes the next tick exactly when the table's does.
  takes_next : (is_taken run ≡ true) ↔ TakesNext
  takes_next = rw (← b.same_clock, ← b.same_table) (taken_where run)

  -- The next tick of the run is free exactly when the table's timer does not take it.
  free_next : (is_taken run ≡ false) ↔ (¬ TakesNext)
  free_next = (
    λ free k. let takes = takes_next.1 k in impossible cc,
    λ not. by_test (is_taken run) (λ takes. absurd (not (takes_next.0 takes))) (λ free. free),
  )

  -- ---- the answer of a tick

  -- In this part the tick is called for before the clock is at 2^40.
  module _ (in_time : clock_of es < max_time) where
    -- The run's own clock is below 2^40 too.
    here : run.clock.0 < max_time
    here = omega (arith, b.same_clock)

    -- A tick is taken exactly when the table's timer takes it.
    pub taken_by_the_timer : (tick_says (ticked run).answer ≡ taken) ↔ TakesNext
    taken_by_the_timer =
        rw (← b.same_clock, ← b.same_table) (λ said. ((taken_means run).0 said).2, λ k. (taken_means run).1 (b.sound, here, k))

    -- A tick is idle exactly when it is not taken and every accepted job was ended early or has had its cost.
    pub idle_when_done : (tick_says (ticked run).answer ≡ idle) ↔ ((¬ TakesNext) × ((j : Job) → Memᴰ j (jobs_of_trace es) → HasLeft j))
    idle_when_done = (
      λ said. let known = (idle_means run).0 said in (free_next.0 known.2, none_pending known.3),
      λ k. (idle_means run).1 (b.sound, here, free_next.1 k.0, all_done k.1),
    )

    -- A tick answers that a job ran exactly when it is not taken and some accepted job is unfinished.
    pub ran_when_free : SomeJobRan (tick_says (ticked run).answer)
        ↔ ((¬ TakesNext) × ((j : Job) × Memᴰ j (jobs_of_trace es) × (unfinished es j ≡ true)))
    ran_when_free =
        each_tick run b.sound
        (λ step. SomeJobRan (tick_says step.answer) ↔ ((¬ TakesNext) × ((j : Job) × Memᴰ j (jobs_of_trace es) × (unfinished es j ≡ true))))
        (λ last. absurd (omega (arith, here)))
        (λ h takes. (λ said. let e = said.2 in impossible cc, λ k. absurd (k.0 (takes_next.0 takes))))
        (λ h free none. (
          λ said. let e = said.2 in impossible cc,
          λ k. absurd (none_unfinished none k.1.0 k.1.1 k.1.2),
        ))
        (λ h free some. (
          λ said.
              let p = first some in
              (free_next.0 free, (job_of p, (pending_is_owed b p (first_pending some)).was_accepted, pending_is_unfinished b p (first_pending some))),
          λ k. (_, _, refl),
        ))

  -- A tick that ran a job ran the one that goes first.
  pub ran_the_first : (serial : ℕ) (finished : Bool) → tick_says (ticked run).answer ≡ ran serial finished → RanFirst es serial finished
  ran_the_first serial finished =
      each_tick run b.sound (λ step. tick_says step.answer ≡ ran serial finished → RanFirst es serial finished)
      (λ last e. impossible cc)
      (λ h takes e. impossible cc)
      (λ h free none e. impossible cc)
      (λ h free some. rw (first_stands some) (λ e.
      let its_serial : (first some).serial.0 ≡ serial = cc in
      let its_finish : has_finished (ran_of (first some)).finished ≡ finished = cc in
      rw (← its_serial, ← its_finish) (first_ran some)))

  -- ---- the late count

  -- Every pending job has units left, so the late ones are those that are due at this time. By the trace they are the unfinished jobs that are due at this
  -- time.
  late_by_the_trace : (time : ℕ) → late_count time pending ≡ total (weight_if (late_at time es) (λ _. 1)) (jobs_of_trace es)
  late_by_the_trace time =
      let due_now : Job → ℕ = weight_if (λ j. eqb j.due time) (λ _. 1) in
      late_count_is_total time pending
      ∙ total_same (weight_if (is_late time) (λ _. 1)) (λ p. due_now (job_of p)) pending
      (all_of_members pending (λ p m. rw (lt-ltb 0 p.left (pending_is_owed b p m).some_left, and-true)))
      ∙ sym (unfinished_weigh_as_pending b due_now)
      ∙ total_same (weight_if (unfinished es) due_now) (weight_if (late_at time es) (λ _. 1)) (jobs_of_trace es)
      (all_of (λ j. counts_if_both (eqb j.due time) (unfinished es j) 1) (jobs_of_trace es))

  -- No pending job is due after 2^40.
  none_due_past : (time : ℕ) → max_time < time → late_count time pending ≡ 0
  none_due_past time past = late_count_is_total time pending ∙ none_passes (is_late time) (λ _. 1) pending
      (all_of_members pending (each_pending (λ p. is_late time p ≡ false)
      (λ i h. rw (ne_eqb (get_or pending i no_job).due.0 time (λ e. omega (arith, ((sound_facts b).jobs i h).due_in_time))))))

  -- The late count that a tick answers is over the jobs that are pending after it.
  late_after_the_tick : (ticked run).late ≡ late_count (run.clock.0 + 1) (jobs_of (ticked run).run.pending)
  unfolding late_count
  late_after_the_tick = each_tick run b.sound (λ step. step.late ≡ late_count (run.clock.0 + 1) (jobs_of step.run.pending))
      (λ last. sym (none_due_past (run.clock.0 + 1) (omega arith)))
      (λ h takes. refl)
      (λ h free none. ap (late_count (run.clock.0 + 1)) (sym (no_jobs none)))
      (λ h free some. refl)

-- The late count of a tick is the number of accepted jobs that are late by the trace after it. This holds at the clock 2^40 too, since no job is due after it.
pub late_of_the_trace : {t : Table} {run : Run} {es : List Event} → Bridge t run es → Bridge t (ticked run).run (event_of run Call.tick ∷ es)
    → (ticked run).late ≡ total (weight_if (late_at (clock_of es + 1) (event_of run Call.tick ∷ es)) (λ _. 1)) (jobs_of_trace es)
late_of_the_trace {run = run} {es = es} b next =
    let no_new_job = no_job_by_a_tick (tick_says (ticked run).answer) (ticked run).late es in
    rw (← b.same_clock, ← no_new_job) (late_after_the_tick b ∙ late_by_the_trace next _)

-- ---- the promises

-- A tick is taken exactly when the timer takes it.
pub taken_when_the_timer_takes : TakenWhenTheTimerTakes
taken_when_the_timer_takes bytes ok calls = taken_by_the_timer (bridge bytes ok calls)

-- A tick is idle exactly when it is not taken and every accepted job has had its cost or was ended early.
pub idle_when_all_have_their_cost : IdleWhenAllHaveTheirCost
idle_when_all_have_their_cost bytes ok calls = idle_when_done (bridge bytes ok calls)

-- A tick answers that a job ran exactly when it is not taken and some accepted job is unfinished.
pub runs_when_free : RunsWhenFree
runs_when_free bytes ok calls = ran_when_free (bridge bytes ok calls)

-- A tick that runs a job runs the unfinished job with the earliest due time.
pub earliest_due_first : EarliestDueFirst
earliest_due_first bytes ok calls = ran_the_first (bridge bytes ok calls)

-- The late count of a tick is the number of accepted jobs that are due at the new clock and unfinished.
pub late_count_is_the_late : LateCountIsTheLate
unfolding run_at trace
late_count_is_the_late bytes ok calls = late_of_the_trace (bridge bytes ok calls) (bridge bytes ok (Call.tick ∷ calls))
