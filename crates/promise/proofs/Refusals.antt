-- Refused exactly when: the proof. Each test of a release, of a tick and of an end looks at the run, and the trace tells the same. The table is the one that
-- the run was started on. As many jobs are pending as are unfinished. The next serial is the number of accepted jobs. The due time over what the run keeps of
-- due times is the one by the rules over all accepted jobs of the row or server. A pending job has a serial exactly where the accepted job with that serial is
-- unfinished, and its units given are those that the ticks gave. The run counts as many ended jobs as the trace. (6.8, 6.16, 6.18, 6.27, 6.30)
use Rattle.std.specs.Prelude.{Ok, Err}
use Prim.Native.Nat.{ℕ, ◌+◌, ◌-◌, ◌≤◌, ◌<◌}
use mathlib.Core.Path.{◌≡◌, refl, ap, subst, ◌∙◌}
use mathlib.Core.Logic.{◌↔◌}
use mathlib.Core.Bool.{Bool, true, not, cond, ◌&&◌}
use mathlib.Core.List.{List, [], ◌∷◌, Memᴰ}
use native.Mathlib.Omega.{arith}
use lib.Dec.{leb, ltb}
use lib.ListN.{length, get_or}
use borrow.Author.Tests.{ltb-true, lt-ltb, le-ltb}
use Rattle.kinds.specs.declared.Refusal.TheVariants.{NoSuchRow, CostOutOfRange}
use Rattle.kinds.specs.Numbering.{max_time}
use Rattle.kinds.proofs.Apart.{impossible}
use Rattle.theory.specs.Lists.{total}
use Rattle.theory.specs.Jobs.{Job}
use Rattle.theory.specs.DueTimes.{dues}
use Rattle.theory.specs.Sources.{own}
use Rattle.theory.proofs.Cases.{by_lt, by_test}
use Rattle.theory.proofs.Lists.{all_at}
use Rattle.table.specs.declared.Table.{Table}
use Rattle.table.specs.Costs.{cost_limits, limit_of, cost_answer}
use Rattle.table.specs.Limits.{max_c}
use Rattle.table.specs.Rows.{from_one_to, row_in_range}
use Rattle.table.specs.Servers.{server_in_range}
use Rattle.table.proofs.Ranges.{both_true, in_range_of}
use Rattle.table.proofs.ReadingServers.{server_in_range_means}
use Rattle.due.specs.Kept.{due_of, not_too_late}
use Rattle.due.specs.OddJobs.{odd_due_of}
use Rattle.due.proofs.NewestKept.{due_is_the_papers}
use Rattle.jobs.specs.declared.Job.{Job as PendingJob}
use Rattle.jobs.specs.Places.{max_places, no_job, jobs_of, used}
use Rattle.jobs.proofs.Changes.{nobody_found_means}
use Rattle.run.specs.declared.Run.{Run}
use Rattle.run.specs.declared.TickStep.{TickStep}
use Rattle.run.specs.Runs.{row_in_use, row_at, server_at, cost_limit, kept_of}
use Rattle.run.specs.Sound.{sound_of, Whole}
use Rattle.run.specs.Release.{due_next, released}
use Rattle.run.specs.Ticking.{ticked}
use Rattle.run.specs.Ending.{units_given, ended}
use Rattle.run.proofs.Release.{bounded, each_release, one_test_means}
use Rattle.run.proofs.Ticking.{counted, tick_too_late}
use Rattle.run.proofs.Ending.{each_end, found_there}
use Rattle.run.specs.Answers.{accepted, release_says, tick_says, ended_with, end_says}
use Rattle.run.specs.Answers as says
use Rattle.promise.specs.Traces.{Call, Event, run_after, event_of, run_at, Told, told, clock_of, jobs_of_trace, job_of_serial, units_of}
use Rattle.promise.specs.Traces.{ended_in, was_ended, unfinished, unfinished_in}
use Rattle.promise.specs.Link.{job_of}
use Rattle.promise.specs.Refusals.{next_due, release_answer, ReleasesByTheTrace, TicksByTheTrace, end_answer, EndsByTheTrace, PlacesAreEnough}
use Rattle.promise.specs.Refusals.{Refused, RefusedChangesNothing}
use Rattle.promise.proofs.RunAndTrace.{Bridge}
use Rattle.promise.proofs.Waiting.{member_at}
use Rattle.promise.proofs.Ended.{found_has_it, finds_the_job}
use Rattle.promise.proofs.RunsFollow.{bridge}
use Rattle.promise.proofs.Units.{Owed, sound_facts, pending_is_owed, pending_is_unfinished, unfinished_is_pending, unfinished_weigh_as_pending}
use Rattle.promise.proofs.Choice.{each_pending}
use Rattle.promise.proofs.Ticks.{each_tick}
use Rattle.promise.proofs.InTime.{clock_after_a_tick}

-- ---- what a release looks at

-- Elements that weigh 1 each weigh as much as their number.
total_of_ones : {A : Type 0} (l : List A) → total (λ _. 1) l ≡ length l
unfolding total
total_of_ones [] = refl
total_of_ones (a ∷ l) = omega (arith, total_of_ones l)

-- The one test of row number and cost says what the table's own terms say.
one_test : (run : Run) (row cost : ℕ) → sound_of run ≡ true → Whole run
    → cost_answer (limit_of (cost_limits run.table) row) cost
    ≡ cond (row_in_use run.table row)
    (cond (from_one_to (cost_limit run.table row) cost) (Ok tt) (Err CostOutOfRange))
    (Err NoSuchRow)
one_test run row cost sound whole = one_test_means run.table (bounded run sound).few_rows whole.all_rows row cost

-- A release of a row number in use, on a sound run, is answered by these tests in their order, where `at` is the due time of the row number's next job.
says_by_tests : (run : Run) (row cost at : ℕ) → sound_of run ≡ true → Whole run → row < run.table.count + run.table.serving
    → (from_one_to (cost_limit run.table row) cost ≡ true → due_next run row cost ≡ not_too_late at)
    → release_says (released run row cost).answer
    ≡ cond (from_one_to (cost_limit run.table row) cost)
    (cond (ltb run.pending.count max_places)
    (cond (leb at max_time) (accepted run.next.0 at) (says.ReleaseSays.refused 9 0))
    (says.ReleaseSays.refused 8 0))
    (says.ReleaseSays.refused 7 0)
unfolding released
says_by_tests run row cost at sound whole in_use due =
    rw (sound, one_test run row cost sound whole, lt-ltb row (run.table.count + run.table.serving) in_use)
    (by_test (from_one_to (cost_limit run.table row) cost)
    (λ fits. rw fits (by_test (ltb run.pending.count max_places)
    (λ room. rw (room, due fits) (by_test (leb at max_time) (λ in_time. rw in_time) (λ late. rw late)))
    (λ full. rw full)))
    (λ fits_not. rw fits_not))

-- A release of a row number that is not in use, on a sound run, is refused with 6.
says_no_such_row : (run : Run) (row cost : ℕ) → sound_of run ≡ true → Whole run → run.table.count + run.table.serving ≤ row
    → release_says (released run row cost).answer ≡ says.ReleaseSays.refused 6 0
unfolding released
says_no_such_row run row cost sound whole unused =
    rw (sound, one_test run row cost sound whole, le-ltb row (run.table.count + run.table.serving) unused)

module _ {t : Table} {run : Run} {es : List Event} (b : Bridge t run es) where
  -- As many jobs are pending as are unfinished.
  pub pending_count : run.pending.count ≡ unfinished_in es
  pending_count =
      omega (arith, unfinished_weigh_as_pending b (λ _. 1), total_of_ones (jobs_of run.pending), counted run (b.sound, b.whole))

  module _ (row cost : ℕ) where
    -- A row's next job is due by the paper's rule over all accepted jobs of the row.
    due_of_row_as_next : row < run.table.count → due_next run row cost ≡ not_too_late (next_due run.table es row cost)
    unfolding due_of
    due_of_row_as_next of_row =
        let r = row_at run.table row in
        let history = dues (own row (jobs_of_trace es)) in
        let in_range : row_in_range r ≡ true = in_range_of r ((sound_facts b).rows row of_row) in
        let same = due_is_the_papers (kept_of run row) r history run.clock.0 in_range (b.keeps_history.newest row of_row) in
        rw (lt-ltb row run.table.count of_row, in_range, same, b.same_clock)

    -- A server's next job is due by the server's rule over all accepted jobs of the server.
    due_of_server_as_next : run.table.count ≤ row → row < run.table.count + run.table.serving → from_one_to (cost_limit run.table row) cost ≡ true
        → due_next run row cost ≡ not_too_late (next_due run.table es row cost)
    unfolding odd_due_of
    due_of_server_as_next of_server in_use fits =
        let v = server_at run.table row in
        let in_range : server_in_range v ≡ true = (server_in_range_means v).1 ((sound_facts b).servers (row - run.table.count) (omega arith)) in
        let allowed : from_one_to max_c cost ≡ true = rw (le-ltb row run.table.count of_server) at fits in
        rw (le-ltb row run.table.count of_server, in_range, allowed, b.keeps_history.last row of_server in_use, b.same_clock)

    -- The next job of a row number in use is due as the trace says.
    due_as_next : row < run.table.count + run.table.serving → from_one_to (cost_limit run.table row) cost ≡ true
        → due_next run row cost ≡ not_too_late (next_due run.table es row cost)
    due_as_next in_use fits = by_lt row run.table.count due_of_row_as_next (λ of_server. due_of_server_as_next of_server in_use fits)

    -- A release is answered as the trace says.
    pub release_by_the_trace : release_says (released run row cost).answer ≡ release_answer t es row cost
    release_by_the_trace = rw (← b.same_table) (by_lt row (run.table.count + run.table.serving)
        (λ in_use. says_by_tests run row cost (next_due run.table es row cost) b.sound b.whole in_use (due_as_next in_use)
        ∙ rw (lt-ltb row (run.table.count + run.table.serving) in_use, pending_count, ← b.next_serial))
        (λ unused. says_no_such_row run row cost b.sound b.whole unused ∙ rw (le-ltb row (run.table.count + run.table.serving) unused)))

  -- A tick is refused only at the clock 2^40, with 10 at place 0.
  pub tick_by_the_trace : (number place : ℕ)
      → (tick_says (ticked run).answer ≡ says.TickSays.refused number place) ↔ ((number ≡ 10) × (place ≡ 0) × (clock_of es ≡ max_time))
  tick_by_the_trace number place =
      let clock = b.same_clock in
      let in_time : run.clock.0 ≤ max_time = (sound_facts b).clock_in_time in
      each_tick run b.sound
      (λ step. (tick_says step.answer ≡ says.TickSays.refused number place) ↔ ((number ≡ 10) × (place ≡ 0) × (clock_of es ≡ max_time)))
      (λ last. (λ e. (cc, cc, omega arith), λ h. rw (h.0, h.1)))
      (λ h takes. (λ e. impossible cc, λ k. absurd (omega arith)))
      (λ h free none. (λ e. impossible cc, λ k. absurd (omega arith)))
      (λ h free some. (λ e. impossible cc, λ k. absurd (omega arith)))

  -- ---- what an end looks at

  module _ (serial : ℕ) where
    -- `is_open` is the first test of an end, by the trace: the serial was given out, and its job is unfinished.
    abbrev is_open : Bool
    is_open = ltb serial (length (jobs_of_trace es)) && unfinished es (job_of_serial serial (jobs_of_trace es))

    -- Where the test passes, a pending job has the serial.
    open_is_pending : is_open ≡ true → (p : PendingJob) × Memᴰ p (jobs_of run.pending) × (p.serial.0 ≡ serial)
    open_is_pending h =
        let j = job_of_serial serial (jobs_of_trace es) in
        let test = (both_true (ltb serial (length (jobs_of_trace es))) (unfinished es j) h).1 in
        let less = (both_true (not (was_ended es j)) (ltb (units_of j.name es) j.cost) test).1 in
        let found = found_has_it serial (jobs_of_trace es) (omega (arith, ltb-true (units_of j.name es) j.cost less)) in
        let waits = unfinished_is_pending b j found.1 test in
        (waits.place, waits.pending, ap (λ (i : Job). i.name) waits.its_own ∙ found.0)

    -- In this module the pending job at a place has the serial.
    module _ (at : ℕ) (inside : at < used run.pending) (its : (get_or (jobs_of run.pending) at no_job).serial.0 ≡ serial) where
      -- `there` is the job at the place.
      abbrev there : PendingJob
      there = get_or (jobs_of run.pending) at no_job

      -- The job at the place is pending.
      is_there : Memᴰ there (jobs_of run.pending)
      is_there = member_at no_job (jobs_of run.pending) at inside

      -- The job was accepted and is owed units.
      owed : Owed es there
      owed = pending_is_owed b there is_there

      -- The test passes.
      pending_is_open : is_open ≡ true
      pending_is_open =
          let same : job_of_serial serial (jobs_of_trace es) ≡ job_of there =
          subst (λ s. job_of_serial s (jobs_of_trace es) ≡ job_of there) its (finds_the_job b.distinct owed.was_accepted) in
          let below = all_at (λ (j : Job). j.name < length (jobs_of_trace es)) b.names_below owed.was_accepted in
          let unfinished_still : unfinished es (job_of_serial serial (jobs_of_trace es)) ≡ true = rw same (pending_is_unfinished b there is_there) in
          rw (lt-ltb serial (length (jobs_of_trace es)) (omega arith), unfinished_still)

      -- The units that the job was given are those that the ticks have given to the serial.
      given_by_the_ticks : units_given there ≡ units_of serial es
      given_by_the_ticks = rw (← its) (omega (arith, owed.had_the_rest))

    -- An end is answered as the trace says.
    pub end_by_the_trace : end_says (ended run serial).answer ≡ end_answer es serial
    end_by_the_trace = each_end run serial (λ step. end_says step.answer ≡ end_answer es serial)
        (λ unsound. let sound = b.sound in impossible cc)
        (λ s nobody. by_test is_open
        (λ passes.
        let waits = open_is_pending passes in
        absurd (each_pending b (λ p. p.serial.0 ≡ serial → ⊥) ((nobody_found_means serial (jobs_of run.pending)).0 nobody) waits.0 waits.1 waits.2))
        (λ shut. rw shut))
        (λ s at e many.
        let found = found_there run serial at e in
        rw (pending_is_open at found.0 found.1, le-ltb (length (ended_in es)) max_time (omega (arith, b.same_ended))))
        (λ s at e few.
        let found = found_there run serial at e in
        rw (pending_is_open at found.0 found.1, lt-ltb (length (ended_in es)) max_time (omega (arith, b.same_ended)))
        (ap ended_with (given_by_the_ticks at found.0 found.1)))

  -- A tick before the clock 2^40 is not refused, since it takes the clock up.
  pub tick_not_refused : run.clock.0 < max_time → ¬ Refused (event_of run Call.tick)
  unfolding told
  tick_not_refused in_time refused =
      omega (arith, clock_after_a_tick b, ap (λ (u : Told). u.clock) (refused (told es)), b.same_clock)

  -- A refused call leaves the run as it was.
  refused_leaves_the_run : (c : Call) → Refused (event_of run c) → run_after run c ≡ run
  refused_leaves_the_run (Call.release row cost) =
      each_release run row cost (λ step. Refused (Event.release row cost (release_says step.answer)) → step.run ≡ run)
      (λ r refused. refl)
      (λ due passed given refused. absurd (omega (arith, ap (λ (u : Told). length u.jobs) (refused (told [])))))
  refused_leaves_the_run Call.tick = by_lt run.clock.0 max_time
      (λ in_time refused. absurd (tick_not_refused in_time refused))
      (λ last refused. ap (λ (step : TickStep). step.run) (tick_too_late run b.sound last))
  refused_leaves_the_run (Call.end serial) =
      each_end run serial (λ step. Refused (Event.end serial (end_says step.answer)) → step.run ≡ run)
      (λ unsound refused. refl)
      (λ s nobody refused. refl)
      (λ s at e many refused. refl)
      (λ s at e few refused. absurd (omega (arith, ap (λ (u : Told). length u.ended) (refused (told [])))))

-- ---- the promises

-- Every release is answered as the trace says.
pub releases_by_the_trace : ReleasesByTheTrace
releases_by_the_trace bytes ok calls = release_by_the_trace (bridge bytes ok calls)

-- A tick is refused exactly when 2^40 ticks have gone by.
pub ticks_by_the_trace : TicksByTheTrace
ticks_by_the_trace bytes ok calls = tick_by_the_trace (bridge bytes ok calls)

-- Every end is answered as the trace says.
pub ends_by_the_trace : EndsByTheTrace
ends_by_the_trace bytes ok calls = end_by_the_trace (bridge bytes ok calls)

-- There are never more unfinished jobs than places.
pub places_are_enough : PlacesAreEnough
places_are_enough bytes ok calls = let b = bridge bytes ok calls in omega (arith, pending_count b, (sound_facts b).few_pending)

-- A refused call changes nothing.
pub refused_changes_nothing : RefusedChangesNothing
unfolding run_at
refused_changes_nothing bytes ok calls = refused_leaves_the_run (bridge bytes ok calls)
