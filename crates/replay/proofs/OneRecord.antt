-- A play that is held in arrays comes to a record's script time, and the record's job is released there. (docs/RULES.md, sections 6.6 to 6.9 and 8.1 to 8.7.)
use Rattle.std.specs.Prelude.{Ok}
use Prim.Native.Nat.{ℕ, zero, suc, ◌+◌, ◌-◌, ◌≤◌, ◌<◌}
use mathlib.Core.Path.{◌≡◌, sym, ap, ◌∙◌}
use mathlib.Core.Logic.{◌≢◌}
use mathlib.Core.List.{List, [], ◌∷◌, ◌++◌, append-nil, Memᴰ}
use native.Mathlib.Nat.{add-zero}
use native.Mathlib.Omega.{arith}
use lib.Dec.{eqb}
use borrow.Author.Tests.{eqb-true, le-ltb}
use Rattle.theory.proofs.Cases.{by_test}
use Rattle.kinds.specs.Numbering.{max_time}
use Rattle.kinds.specs.declared.Tick.{Tick}
use Rattle.jobs.specs.declared.Job.{Job}
use Rattle.jobs.specs.Places.{no_job, jobs_of}
use Rattle.jobs.specs.Late.{late_count}
use Rattle.jobs.specs.JobChanges.{WellFormed}
use Rattle.jobs.proofs.Changes.{put_adds_one}
use Rattle.columns.specs.declared.Columns.{Columns}
use Rattle.columns.specs.Columns.{put_in}
use Rattle.columns.specs.Ordered.{in_place}
use Rattle.columns.proofs.Holding.{put_in_holds}
use Rattle.columns.proofs.Ordered.{put_keeps_order, put_keeps_jobs, same_are_among}
use Rattle.run.specs.declared.ReleaseStep.{ReleaseStep}
use Rattle.run.specs.Ticking.{run_with, is_taken}
use Rattle.run.specs.Release.{new_job, with_job, due_next, released}
use Rattle.run.specs.ManyTicks.{SoFar, one_more_tick, ticks, ticks_while_pending}
use Rattle.run.proofs.Release.{Passed, due_settles}
use Rattle.run.proofs.Ticking.{Good, facts, tick_taken, tick_idle, idle_keeps, tick_keeps_good}
use Rattle.replay.specs.Arrays.{TickArrays, tick_arrays, ArraysHoldRun, HasTimer, LeadsTo}
use Rattle.play.proofs.SingleTicks.{TicksFrom, tick_clock, ticks_keep}
use Rattle.play.proofs.WholePlays.{place_of}
use Rattle.play.proofs.OnItsWay.{on_its_way_ticked, release_adds_one, released_on, on_its_way_released}

-- ---- ticks until a time

-- What has happened so far, with the clock set to a time.
abbrev pub at_time : (time : ℕ) → SoFar → SoFar
at_time time s = record { run = run_with s.run time s.run.pending; late = s.late; finishes = s.finishes }

-- Where nothing is pending, a tick takes the clock up by one and does nothing else, whether it is taken or free.
idle_tick : (s : SoFar) → Good s.run → s.run.clock.0 < max_time → s.run.pending.count ≡ 0 → one_more_tick s ≡ at_time (s.run.clock.0 + 1) s
unfolding late_count
idle_tick s good in_time none =
    by_test (is_taken s.run)
    (λ taken. rw (tick_taken s.run good.0 in_time taken, taken, none, add-zero, append-nil))
    (λ free. rw (tick_idle s.run good.0 in_time free none, free, le-ltb 0 s.run.pending.count (omega arith), add-zero, append-nil))

-- Where nothing is pending, n ticks take the clock up by n and do nothing else.
idle_ticks : (n : ℕ) (s : SoFar) → Good s.run → s.run.clock.0 + n ≤ max_time → s.run.pending.count ≡ 0
    → ticks n s ≡ at_time (s.run.clock.0 + n) s
unfolding ticks
idle_ticks zero s good room none = rw add-zero
idle_ticks (suc n) s good room none =
    let one = idle_tick s good (omega arith) none in
    let next = at_time (s.run.clock.0 + 1) s in
    let still_good : Good next.run = idle_keeps s.run good (omega arith) in
    let so : s.run.clock.0 + 1 + n ≡ s.run.clock.0 + suc n = omega arith in
    ap (ticks n) one ∙ idle_ticks n next still_good (omega arith) none ∙ ap (λ (time : ℕ). at_time time s) so

-- n ticks are the same as the ticks until nothing is pending, followed by setting the clock to the time after n ticks.
pub ticks_in_two : (n : ℕ) (s : SoFar) → Good s.run → s.run.clock.0 + n ≤ max_time
    → ticks n s ≡ at_time (s.run.clock.0 + n) (ticks_while_pending n s)
unfolding ticks ticks_while_pending
ticks_in_two zero s good room = rw add-zero
ticks_in_two (suc n) s good room = by_test (eqb s.run.pending.count 0)
    (λ none. rw none (idle_ticks (suc n) s good room (eqb-true s.run.pending.count 0 none)))
    (λ some.
    let one = tick_clock s.run good (omega arith) in
    let so : (one_more_tick s).run.clock.0 + n ≡ s.run.clock.0 + suc n = omega (arith, one) in
    rw some (ticks_in_two n (one_more_tick s) (tick_keeps_good s.run good) (omega (arith, one))
    ∙ ap (λ (time : ℕ). at_time time (ticks_while_pending n (one_more_tick s))) so))

-- What the arrays hold, with the clock set to a time.
abbrev pub held_at : (clock : ℕ) → TickArrays → TickArrays
held_at clock h = tick_arrays h.jobs h.log clock h.logged

module _ {s : SoFar} {log₀ : List ℕ} {h : TickArrays} (w : ArraysHoldRun s log₀ h) {time : ℕ} (later : h.clock ≤ time) (in_time : time ≤ max_time) where
  -- `arrived` is the play after its ticks until the time.
  abbrev arrived : SoFar
  arrived = ticks (time - s.run.clock.0) s

  -- The ticks until the time keep what ticks keep.
  pub arrived_keeps : TicksFrom s arrived
  arrived_keeps = ticks_keep s (time - s.run.clock.0) w.on_its_way.good (omega (arith, w.clocks))

  arrived_so : arrived ≡ at_time time (ticks_while_pending (time - h.clock) s)
  arrived_so =
      let there : s.run.clock.0 + (time - s.run.clock.0) ≡ time = omega (arith, w.clocks) in
      rw (← w.clocks)
      (ticks_in_two (time - s.run.clock.0) s w.on_its_way.good (omega (arith, w.clocks))
      ∙ ap (λ (t : ℕ). at_time t (ticks_while_pending (time - s.run.clock.0) s)) there)

  -- If the arrays hold the play after its ticks until nothing is pending, they hold it at the time once the clock is set to it.
  pub stands_arrived : {ts tp : ℕ} {g : TickArrays} → HasTimer ts tp s.run → LeadsTo ts tp time h g → ArraysHoldRun arrived log₀ (held_at time g)
  stands_arrived has led =
      let last = led s log₀ has w in
      record {
        on_its_way = on_its_way_ticked w.on_its_way arrived_keeps;
        counts = rw arrived_so last.counts;
        clocks = ap (λ (t : SoFar). t.run.clock.0) arrived_so;
        jobs_held = rw arrived_so last.jobs_held;
        logs = rw arrived_so last.logs;
      }

-- ---- a release

module _ {s : SoFar} {log₀ : List ℕ} {h : TickArrays} (w : ArraysHoldRun s log₀ h) {row cost : ℕ} (p : Passed s.run row cost) {t : Tick}
    (given : due_next s.run row cost ≡ Ok t) where
  -- A release that no test refused is accepted with its due time.
  pub release_accepted : released s.run row cost
      ≡ record { run = with_job s.run row cost t; answer = Ok (record { serial = s.run.next; due = t }) }
  release_accepted = sym (due_settles s.run row cost p (Ok t) given)

  accepted_so : (released s.run row cost).answer ≡ Ok (record { serial = s.run.next; due = t })
  accepted_so = ap (λ (x : ReleaseStep). x.answer) release_accepted

  -- The new job's serial is above that of every pending job.
  new_serial : (i : Job) → Memᴰ i w.jobs_held.queue → i.serial.0 ≢ s.run.next.0
  new_serial i m e =
      let js = jobs_of s.run.pending in
      let there = place_of no_job (same_are_among w.jobs_held.queue js w.jobs_held.same i m) in
      let sound = (facts s.run w.on_its_way.good).jobs there.0 there.1 in
      omega (arith, e, ap (λ (k : Job). k.serial.0) there.2, sound.serial_given)

  -- After the job was put into the arrays, they hold the play with the job released.
  pub stands_released : {after : Columns} → after ≡ put_in h.jobs (new_job s.run row cost t) → after.count ≡ h.jobs.count + 1
      → ArraysHoldRun (released_on s row cost) log₀ (tick_arrays after h.log h.clock h.logged)
  stands_released {after} put counts =
      let good = w.on_its_way.good in
      let js = jobs_of s.run.pending in
      let j : Job = new_job s.run row cost t in
      let queue = w.jobs_held.queue in
      let formed : WellFormed s.run.pending = record { all_places = good.1.all_places; in_places = (facts s.run good).few_pending } in
      let more : jobs_of (released s.run row cost).run.pending ≡ js ++ (j ∷ []) =
      rw release_accepted (put_adds_one s.run.pending j formed p.room) in
      record {
        on_its_way = on_its_way_released s row cost _ accepted_so w.on_its_way;
        counts = omega (arith, release_adds_one s.run row cost _ accepted_so, w.counts);
        clocks = ap (λ (x : ReleaseStep). x.run.clock.0) release_accepted ∙ w.clocks;
        jobs_held = rw (more, put) (record {
          queue = in_place j queue;
          held = put_in_holds h.jobs queue j w.jobs_held.held (omega (arith, p.room, w.counts));
          in_order = put_keeps_order j queue w.jobs_held.in_order new_serial;
          same = put_keeps_jobs j queue js w.jobs_held.same;
        });
        logs = w.logs;
      }
