-- The bridge holds at every point of every trace: at the fresh run that is started on a table's bytes, and after each release, each tick and each end,
-- refused ones included. (6.25)
use Rattle.std.specs.Prelude.{Ok}
use Prim.Native.Nat.{ℕ, ◌+◌, ◌-◌, ◌≤◌, ◌<◌}
use mathlib.Core.Path.{◌≡◌, refl, ap, subst}
use mathlib.Core.Bool.{true, false}
use mathlib.Core.List.Memᴰ
use mathlib.Core.List.{List, [], ◌∷◌}
use native.Mathlib.Omega.{arith}
use lib.ListN.{get_or}
use borrow.Author.Tests.{lt-ltb, le-ltb}
use Rattle.kinds.specs.declared.Tick.{Tick}
use Rattle.kinds.specs.Numbering.{max_time, refusal_number}
use Rattle.numbers.specs.SpelledNumbers.{Bytes}
use Rattle.theory.specs.Jobs.{Job}
use Rattle.theory.specs.Trace.{begin, Accounted, ServesEarliestDue, NeverIdlesInVain}
use Rattle.theory.specs.DueTimes.{dues, Next, ByRule}
use Rattle.theory.specs.Servers.{server_due, last_due, ByServer}
use Rattle.theory.specs.Sources.{own}
use Rattle.theory.proofs.Lists.{all_at, all_imply, all_of_members}
use Rattle.theory.proofs.Trace.{released_by_the_clock, waiting_are_accounted}
use Rattle.table.specs.declared.Table.{Table}
use Rattle.table.specs.Tables.{InRange, table_read}
use Rattle.table.proofs.SpelledTables.{in_range_means}
use Rattle.jobs.specs.declared.Job.{Job as PendingJob}
use Rattle.jobs.specs.declared.Pending.{Pending}
use Rattle.jobs.specs.Places.{no_job, jobs_of, used}
use Rattle.jobs.specs.Choice.{first_place}
use Rattle.jobs.specs.Turns.{one_tick}
use Rattle.jobs.specs.JobChanges.{IsFirst, WellFormed}
use Rattle.jobs.proofs.Changes.{choice_is_first, place_holds_job, put_adds_one, after_a_unit, taken_out_is_without}
use Rattle.run.specs.declared.Run.{Run}
use Rattle.run.specs.declared.Accepted.{Accepted}
use Rattle.run.specs.Runs.{row_at, server_at, started}
use Rattle.run.specs.Release.{new_job, with_job, released}
use Rattle.run.specs.Ticking.{run_with, is_taken, taken_tick, idle_tick, busy_tick, ticked}
use Rattle.run.specs.Ending.{units_given, with_ended, ended}
use Rattle.run.specs.History.{GaveDue}
use Rattle.run.proofs.Fresh.{started_is_sound}
use Rattle.run.proofs.Release.{Passed, each_release, release_keeps_sound, fresh_has_no_history, due_by_whole_history}
use Rattle.run.proofs.Ticking.{Good, facts, counted, taken_keeps, idle_keeps, busy_keeps}
use Rattle.run.proofs.Ending.{each_end, found_there, end_keeps_sound}
use Rattle.run.specs.Answers.{accepted, release_says, TickSays, idle, taken, tick_says, ended_with, end_says}
use Rattle.run.specs.Answers as says
use Rattle.promise.specs.Traces.{Call, Event, run_at, trace, told, clock_of, jobs_of_trace, ticks_of, job_of_serial, ended_in}
use Rattle.promise.specs.Link.{job_of, waiting_of, left_early, Follows, RunsFollowTheTheory}
use Rattle.promise.proofs.RunAndTrace.{Bridge}
use Rattle.promise.proofs.Waiting.{member_at, follows_refused_release, follows_refused_tick, follows_refused_end}
use Rattle.promise.proofs.Waiting.{follows_accepted, follows_taken, follows_idle, follows_ran, follows_ended}
use Rattle.promise.proofs.Ended.{finds_the_job, ended_below, leavers_stay}
use Rattle.promise.proofs.Ticks.{no_job_by_a_tick, no_end_by_a_tick, each_tick}
use Rattle.promise.proofs.Histories.{dues_of, dues_with, latest_by, by_rule_with, by_server_with}

module _ {t : Table} {run : Run} {es : List Event} (b : Bridge t run es) where
  -- The run is sound, and its arrays have their full lengths.
  good : Good run
  good = (b.sound, b.whole)

  -- ---- a release

  -- A refused release keeps the bridge, since it changes nothing.
  refused_release_keeps : (row cost number place : ℕ) → Bridge t run (Event.release row cost (says.ReleaseSays.refused number place) ∷ es)
  unfolding told
  refused_release_keeps row cost number place = record {
    table_in_range = b.table_in_range;
    same_table = b.same_table;
    whole = b.whole;
    sound = b.sound;
    same_clock = b.same_clock;
    next_serial = b.next_serial;
    same_ended = b.same_ended;
    distinct = b.distinct;
    names_below = b.names_below;
    rows_in_use = b.rows_in_use;
    some_cost = b.some_cost;
    follows = follows_refused_release b.follows row cost number place;
    keeps_history = b.keeps_history;
    by_rule = b.by_rule;
    by_server = b.by_server;
  }

  -- In this module a release passed its tests, and `due` is its due time.
  module _ {row cost : ℕ} (p : Passed run row cost) (due : Tick) where
    -- `next` is the run after the accepted release.
    abbrev next : Run
    next = with_job run row cost due

    -- `job` is the accepted job in the theory's terms.
    abbrev job : Job
    job = record { name = run.next.0; source = row; release = clock_of es; due = due.0; cost = cost }

    -- `longer` is the list of events with this release in front.
    abbrev longer : List Event
    longer = Event.release row cost (accepted run.next.0 due.0) ∷ es

    -- The accepted job waits behind all others.
    job_waits : Follows next longer
    unfolding told
    job_waits =
        let form : WellFormed run.pending = record { all_places = b.whole.all_places; in_places = (facts run good).few_pending } in
        follows_accepted b.follows row cost due p.some_cost b.same_clock (put_adds_one run.pending (new_job run row cost due) form p.room)
        (leavers_stay b job b.next_serial (ended_in es) (all_of_members (ended_in es) (ended_below b)))

    -- In this part, the due time was given by the rule over all accepted jobs of the row number.
    module _ (gave : GaveDue run (dues_of (jobs_of_trace es)) row cost due.0 next) where
      -- The accepted job of a row comes next in its row by the rule of due times.
      job_by_rule : (i : ℕ) → i < t.count → row ≡ i
          → Next (row_at t i).x (row_at t i).y (row_at t i).d (row_at t i).c (own i (jobs_of_trace es)) job
      job_by_rule i h e = let of_row : row < t.count = omega arith in rw (← e) (record {
        in_order = latest_by (clock_of es) row (jobs_of_trace es) (released_by_the_clock b.follows.events);
        due_by_rule = rw (b.same_table, b.same_clock, lt-ltb row t.count of_row) at gave.by_rule;
        cost_at_most = rw (b.same_table, lt-ltb row t.count of_row) at (p.allowed b.whole);
      })

      -- The accepted job of a server comes next in its server by the server's rule.
      job_by_server : (i : ℕ) → t.count ≤ i → row ≡ i
          → due.0 ≡ server_due (server_at t i).a (server_at t i).b (last_due (dues (own i (jobs_of_trace es)))) (clock_of es) cost
      job_by_server i l e =
          let of_server : t.count ≤ row = omega arith in
          rw (← e) (rw (b.same_table, b.same_clock, le-ltb row t.count of_server) at gave.by_rule)

    -- The bridge holds after an accepted release.
    accepted_keeps : Good next → GaveDue run (dues_of (jobs_of_trace es)) row cost due.0 next → Bridge t next longer
    unfolding told
    accepted_keeps still gave = record {
      table_in_range = b.table_in_range;
      same_table = b.same_table;
      whole = still.1;
      sound = still.0;
      same_clock = b.same_clock;
      next_serial = omega (arith, b.next_serial);
      same_ended = b.same_ended;
      distinct = (all_imply (λ i h q. omega (arith, b.next_serial)) (jobs_of_trace es) b.names_below, b.distinct);
      names_below = (omega (arith, b.next_serial), all_imply (λ i h. omega arith) (jobs_of_trace es) b.names_below);
      rows_in_use = (rw b.same_table at p.in_use, b.rows_in_use);
      some_cost = (p.some_cost, b.some_cost);
      follows = job_waits;
      keeps_history = record {
        newest = λ i h. rw (dues_with job (jobs_of_trace es) i) at (gave.keeps_history.newest i h);
        last = λ i l h. rw (dues_with job (jobs_of_trace es) i) at (gave.keeps_history.last i l h);
      };
      by_rule = λ i h. by_rule_with _ _ _ _ i job (jobs_of_trace es) (job_by_rule gave i h) (b.by_rule i h);
      by_server = λ i l h. by_server_with _ _ i job (jobs_of_trace es) (job_by_server gave i l) (b.by_server i l h);
    }

  -- The bridge holds after a release, whatever its answer is.
  pub release_keeps_bridge : (row cost : ℕ)
      → Bridge t (released run row cost).run (Event.release row cost (release_says (released run row cost).answer) ∷ es)
  release_keeps_bridge row cost =
      each_release run row cost
      (λ step. Good step.run
      → ((a : Accepted) → step.answer ≡ Ok a → GaveDue run (dues_of (jobs_of_trace es)) row cost a.due.0 step.run)
      → Bridge t step.run (Event.release row cost (release_says step.answer) ∷ es))
      (λ r still gave. refused_release_keeps row cost (refusal_number r) 0)
      (λ due p given still gave. accepted_keeps p due still (gave (record { serial = run.next; due = due }) refl))
      (release_keeps_sound run row cost b.whole b.sound)
      (λ a e. due_by_whole_history run (dues_of (jobs_of_trace es)) row cost a.serial.0 a.due.0 b.whole b.keeps_history (ap release_says e))

  -- ---- a tick

  -- A tick keeps the bridge, since it accepts no job and leaves the kept and last due times alone.
  tick_keeps : (clock : ℕ) (p : Pending) (a : TickSays) (late : ℕ) → Good (run_with run clock p) → clock ≡ clock_of (Event.tick a late ∷ es)
      → Follows (run_with run clock p) (Event.tick a late ∷ es) → Bridge t (run_with run clock p) (Event.tick a late ∷ es)
  tick_keeps clock p a late still same_clock follows = let no_new_job = no_job_by_a_tick a late es in let no_end = no_end_by_a_tick a late es in record {
    table_in_range = b.table_in_range;
    same_table = b.same_table;
    whole = still.1;
    sound = still.0;
    same_clock = same_clock;
    next_serial = rw no_new_job b.next_serial;
    same_ended = rw no_end b.same_ended;
    distinct = rw no_new_job b.distinct;
    names_below = rw no_new_job b.names_below;
    rows_in_use = rw no_new_job b.rows_in_use;
    some_cost = rw no_new_job b.some_cost;
    follows = follows;
    keeps_history = record { newest = rw no_new_job b.keeps_history.newest; last = rw no_new_job b.keeps_history.last };
    by_rule = rw no_new_job b.by_rule;
    by_server = rw no_new_job b.by_server;
  }

  -- A refused tick keeps the bridge, since it changes nothing.
  refused_tick_keeps : (number place : ℕ) → Bridge t run (Event.tick (says.TickSays.refused number place) 0 ∷ es)
  unfolding told
  refused_tick_keeps number place =
      tick_keeps run.clock.0 run.pending _ 0 good b.same_clock (follows_refused_tick b.follows number place 0)

  module _ (in_time : run.clock.0 < max_time) where
    -- A taken tick keeps the bridge: the clock goes up by one, and every pending job stays as it was.
    taken_tick_keeps : is_taken run ≡ true → Bridge t (taken_tick run).run (Event.tick taken (taken_tick run).late ∷ es)
    unfolding told
    taken_tick_keeps takes =
        tick_keeps (run.clock.0 + 1) run.pending taken _ (taken_keeps run good in_time) (omega (arith, b.same_clock))
        (follows_taken b.follows (run.clock.0 + 1) _ (rw b.same_clock at takes))

    module _ (free : is_taken run ≡ false) where
      -- An idle tick keeps the bridge: the clock goes up by one, and nothing is pending.
      idle_tick_keeps : run.pending.count ≡ 0 → Bridge t (idle_tick run).run (Event.tick idle 0 ∷ es)
      unfolding told
      idle_tick_keeps none =
          tick_keeps (run.clock.0 + 1) run.pending idle 0 (idle_keeps run good in_time) (omega (arith, b.same_clock))
          (follows_idle b.follows (run.clock.0 + 1) 0 (rw b.same_clock at free) (rw none))

      -- A tick that gives a unit to the job that goes first keeps the bridge.
      busy_tick_keeps : 1 ≤ run.pending.count → Bridge t (busy_tick run).run (Event.tick (tick_says (busy_tick run).answer) (busy_tick run).late ∷ es)
      unfolding told
      busy_tick_keeps some =
          let p = run.pending in
          let at = first_place (jobs_of p) in
          let first : IsFirst (jobs_of p) at = choice_is_first (jobs_of p) (omega (arith, counted run good)) in
          let left = ((facts run good).jobs at first.inside).some_left in
          rw (place_holds_job p at first.inside)
          (tick_keeps (run.clock.0 + 1) (one_tick p) _ _ (busy_keeps run good in_time some) (omega (arith, b.same_clock))
          (follows_ran b.follows (run.clock.0 + 1) _ (rw b.same_clock at free) (one_tick p) at _ first left (after_a_unit p at first.inside)))

  -- The bridge holds after a tick, whatever its answer is.
  pub tick_keeps_bridge : Bridge t (ticked run).run (Event.tick (tick_says (ticked run).answer) (ticked run).late ∷ es)
  tick_keeps_bridge = each_tick run b.sound (λ step. Bridge t step.run (Event.tick (tick_says step.answer) step.late ∷ es))
      (λ last. refused_tick_keeps _ _)
      taken_tick_keeps
      idle_tick_keeps
      busy_tick_keeps

  -- ---- an end

  -- A refused end keeps the bridge, since it changes nothing.
  refused_end_keeps : (serial number place : ℕ) → Bridge t run (Event.end serial (says.EndingSays.refused number place) ∷ es)
  unfolding told
  refused_end_keeps serial number place = record {
    table_in_range = b.table_in_range;
    same_table = b.same_table;
    whole = b.whole;
    sound = b.sound;
    same_clock = b.same_clock;
    next_serial = b.next_serial;
    same_ended = b.same_ended;
    distinct = b.distinct;
    names_below = b.names_below;
    rows_in_use = b.rows_in_use;
    some_cost = b.some_cost;
    follows = follows_refused_end b.follows serial number place;
    keeps_history = b.keeps_history;
    by_rule = b.by_rule;
    by_server = b.by_server;
  }

  -- In this module the pending job at a place, which has the serial, is ended.
  module _ (serial at : ℕ) (inside : at < used run.pending) (its : (get_or (jobs_of run.pending) at no_job).serial.0 ≡ serial) where
    -- `gone` is the job that is ended.
    abbrev gone : PendingJob
    gone = get_or (jobs_of run.pending) at no_job

    -- The end answers the units that the job was given.
    abbrev with_end : List Event
    with_end = Event.end serial (ended_with (units_given gone)) ∷ es

    -- By the answer the job that is ended left early, with the units that it had left.
    leaves_with_the_rest : left_early with_end ≡ waiting_of gone ∷ left_early es
    unfolding told
    leaves_with_the_rest =
        let owed = all_at (Accounted (jobs_of_trace es) (ticks_of es)) (waiting_are_accounted b.follows.events b.distinct)
        (Memᴰ.map waiting_of (member_at no_job (jobs_of run.pending) at inside)) in
        let same : job_of_serial serial (jobs_of_trace es) ≡ job_of gone =
        subst (λ s. job_of_serial s (jobs_of_trace es) ≡ job_of gone) its (finds_the_job b.distinct owed.was_accepted) in
        let rest : gone.cost - units_given gone ≡ gone.left = omega (arith, owed.had_the_rest) in
        rw (same, rest)

    -- The bridge holds after an end that is done.
    done_end_keeps : Good (with_ended run at) → Bridge t (with_ended run at) with_end
    unfolding told
    done_end_keeps still = record {
      table_in_range = b.table_in_range;
      same_table = b.same_table;
      whole = still.1;
      sound = still.0;
      same_clock = b.same_clock;
      next_serial = b.next_serial;
      same_ended = omega (arith, b.same_ended);
      distinct = b.distinct;
      names_below = b.names_below;
      rows_in_use = b.rows_in_use;
      some_cost = b.some_cost;
      follows = follows_ended b.follows serial (units_given gone) at inside (taken_out_is_without run.pending at) leaves_with_the_rest;
      keeps_history = record { newest = b.keeps_history.newest; last = b.keeps_history.last };
      by_rule = b.by_rule;
      by_server = b.by_server;
    }

  -- The bridge holds after an end, whatever its answer is.
  pub end_keeps_bridge : (serial : ℕ) → Bridge t (ended run serial).run (Event.end serial (end_says (ended run serial).answer) ∷ es)
  end_keeps_bridge serial =
      each_end run serial (λ step. Good step.run → Bridge t step.run (Event.end serial (end_says step.answer) ∷ es))
      (λ unsound still. refused_end_keeps serial _ _)
      (λ s nobody still. refused_end_keeps serial _ _)
      (λ s at e many still. refused_end_keeps serial _ _)
      (λ s at e few still. let there = found_there run serial at e in done_end_keeps serial at there.0 there.1 still)
      (end_keeps_sound run serial b.whole b.sound)

-- ---- every point of every trace

-- The table of a sound run is in range.
table_of_sound : (run : Run) → Good run → InRange run.table
table_of_sound run still =
    let sound = facts run still in
    record {
      good_timer = sound.good_timer;
      few_rows = sound.few_rows;
      all_places = still.1.all_rows;
      rows_in_range = λ i h. (in_range_means (row_at run.table i)).1 (sound.rows i h);
      c_within_d = sound.c_within_d;
      few_servers = sound.few_servers;
      all_servers = still.1.all_servers;
      good_servers = sound.servers;
    }

-- The bridge holds for a run that was just started, before any call.
pub bridge_of_started : (bytes : List ℕ) → Bytes bytes → Bridge (table_read bytes).table (started bytes).run []
unfolding told ServesEarliestDue NeverIdlesInVain own ByRule ByServer
bridge_of_started bytes fine =
    let still = started_is_sound bytes fine in
    let in_range = table_of_sound (started bytes).run still in
    record {
      table_in_range = in_range;
      same_table = refl;
      whole = still.1;
      sound = still.0;
      same_clock = refl;
      next_serial = refl;
      same_ended = refl;
      distinct = tt;
      names_below = tt;
      rows_in_use = tt;
      some_cost = tt;
      follows = record { events = begin; earliest_due = tt; never_idle = tt };
      keeps_history = fresh_has_no_history (table_read bytes).table in_range.few_rows in_range.few_servers;
      by_rule = λ i h. tt;
      by_server = λ i l h. tt;
    }

-- Each call keeps the bridge, so it holds at every point of every trace.
pub bridge : (bytes : List ℕ) → Bytes bytes → (calls : List Call) → Bridge (table_read bytes).table (run_at bytes calls) (trace bytes calls)
unfolding run_at trace
bridge bytes fine [] = bridge_of_started bytes fine
bridge bytes fine (Call.release row cost ∷ calls) = release_keeps_bridge (bridge bytes fine calls) row cost
bridge bytes fine (Call.tick ∷ calls) = tick_keeps_bridge (bridge bytes fine calls)
bridge bytes fine (Call.end serial ∷ calls) = end_keeps_bridge (bridge bytes fine calls) serial

-- After any calls the run follows the theory.
pub runs_follow_the_theory : RunsFollowTheTheory
runs_follow_the_theory bytes fine calls = (bridge bytes fine calls).follows
