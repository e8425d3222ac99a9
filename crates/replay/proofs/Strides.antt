-- The ticks of a run are the ticks on its list of pending jobs, where these are counted by the free ticks. They go on until a job finishes or until a time. A
-- taken tick changes nothing but the clock. (docs/RULES.md, sections 6.5 and 6.10 to 6.17.)
use Rattle.std.specs.Prelude.{Option, Some, None}
use Prim.Native.Nat.{ℕ, zero, suc, ◌+◌, ◌-◌, ◌≤◌, ◌<◌}
use mathlib.Core.Path.{◌≡◌, refl, sym, ap, ap₂, subst, ◌∙◌}
use mathlib.Core.Bool.{true, false}
use mathlib.Core.List.{List, [], ◌∷◌, ◌++◌, append-nil}
use native.Mathlib.Omega.{arith}
use lib.ListN.{length}
use borrow.Author.Tests.{lt-ltb, ne_eqb}
use Rattle.kinds.specs.Numbering.{max_time}
use Rattle.kinds.specs.declared.Finish.{Finish}
use Rattle.theory.specs.Ticks.{free_before, timer, free_tick_at}
use Rattle.theory.proofs.Cases.{by_test}
use Rattle.theory.proofs.Ticks.{free_before_grows, after_a_taken_tick, after_a_free_tick}
use Rattle.theory.proofs.Timers.{free_tick_is_found_by_count}
use Rattle.jobs.specs.declared.Job.{Job}
use Rattle.jobs.specs.Places.{jobs_of}
use Rattle.jobs.specs.Units.{last_unit}
use Rattle.jobs.specs.Turns.{first_job, finish_at}
use Rattle.columns.specs.Ticks.{Reached, finished_at, first_of, after_tick, worked_for}
use Rattle.columns.proofs.Strides.{tick_finishes, tick_goes_on}
use Rattle.run.specs.declared.Run.{Run}
use Rattle.run.specs.Ticking.{is_taken, ticked}
use Rattle.run.specs.ManyTicks.{finished_by, SoFar, one_more_tick, ticks_while_pending}
use Rattle.run.proofs.Ticking.{Good, counted, tick_taken, tick_keeps_good, tick_gives_one_unit}
use Rattle.play.proofs.SingleTicks.{TicksFrom, first_is_pending, tick_clock, tick_conserves, no_ticks, one_tick_keeps}
use Rattle.replay.specs.Arrays.{HasTimer}

-- ---- what ticks keep

-- What ticks keep, and more ticks after them keep, all of them together keep.
ticks_on : {s t u : SoFar} → TicksFrom s t → TicksFrom t u → TicksFrom s u
ticks_on a b = record {
  good = b.good;
  same_table = b.same_table ∙ a.same_table;
  same_next = b.same_next ∙ a.same_next;
  same_kept = b.same_kept ∙ a.same_kept;
  same_last = b.same_last ∙ a.same_last;
  conserved = b.conserved ∙ a.conserved;
  in_range = λ r. b.in_range (a.in_range r);
}

-- Ticks keep the run's timer.
pub same_timer : {s p : ℕ} {x y : SoFar} → TicksFrom x y → HasTimer s p x.run → HasTimer s p y.run
same_timer k h = record { same_s = rw k.same_table h.same_s; same_p = rw k.same_table h.same_p }

-- Where a job is pending, the ticks until a time are one tick and then the rest of them.
one_and_the_rest : (until clock : ℕ) (x : SoFar) → clock < until → 1 ≤ x.run.pending.count
    → ticks_while_pending (until - clock) x ≡ ticks_while_pending (until - (clock + 1)) (one_more_tick x)
unfolding ticks_while_pending
one_and_the_rest until clock x h some =
    let many : until - clock ≡ suc (until - (clock + 1)) = omega arith in
    rw (many, ne_eqb x.run.pending.count 0 (λ e. omega arith))

-- ---- ticks that are counted by the free ones

-- The record of a job that finished at this time.
abbrev pub finished_at_time : (time : ℕ) → Finish → Finish
finished_at_time time f = record { serial = f.serial; row = f.row; release = f.release; due = f.due; finish = record { 0 = time } }

-- The job that finished in some ticks, if one did, as a list. It finished at this time.
abbrev pub finishes_in : (time : ℕ) → Option Finish → List Finish
finishes_in time (Some f) = finished_at_time time f ∷ []
finishes_in time None = []

-- The time that some ticks have led to, where `free` is the number of free ticks before it. Where a job finished, that time comes right after the last of the
-- free ticks. Otherwise it is `until`.
abbrev pub time_of : (s p until free : ℕ) → Option Finish → ℕ
time_of s p until free (Some f) = free_tick_at s p (free - 1) + 1
time_of s p until free None = until

-- The ticks of a run until a job finishes or a time is reached come to what the free ticks on its pending jobs come to: the same pending jobs, and the same
-- finished job. With the ticks that are still to come until that time, the run comes to the same as before.
pub record Strode (s p until : ℕ) (x : SoFar) (r : Reached) : Type 0 where
  pub by_now : SoFar
  pub keeps : TicksFrom x by_now
  pub jobs : jobs_of by_now.run.pending ≡ r.jobs
  pub clock : by_now.run.clock.0 ≡ time_of s p until r.clock r.answer
  pub finishes : by_now.finishes ≡ x.finishes ++ finishes_in (time_of s p until r.clock r.answer) r.answer
  pub leads_on : ticks_while_pending (until - x.run.clock.0) x ≡ ticks_while_pending (until - by_now.run.clock.0) by_now

module _ (s p : ℕ) (few : s < p) where
  -- The number of free ticks before a time.
  abbrev free : ℕ → ℕ
  free = free_before (timer s p)

  -- A run with this timer has its tick taken exactly when the timer takes it.
  taken_so : {run : Run} → HasTimer s p run → is_taken run ≡ timer s p run.clock.0
  taken_so h = rw (h.same_s, h.same_p)

  module _ (until : ℕ) (x : SoFar) (good : Good x.run) (has : HasTimer s p x.run) (some : 1 ≤ x.run.pending.count)
      (early : x.run.clock.0 < until) (soon : until ≤ max_time) where
    -- `js` are the pending jobs of the run, and `clock` is its clock.
    abbrev js : List Job
    js = jobs_of x.run.pending

    abbrev clock : ℕ
    clock = x.run.clock.0

    in_time : clock < max_time
    in_time = omega arith

    later : (one_more_tick x).run.clock.0 ≡ suc clock
    later = omega (arith, tick_clock x.run good in_time)

    -- Where a tick finishes no job, the ticks come to what the ticks after it come to.
    goes_on : finished_by x.run ≡ [] → {r : Reached} → Strode s p until (one_more_tick x) r → Strode s p until x r
    goes_on none {r} rest = record {
      by_now = rest.by_now;
      keeps = ticks_on (one_tick_keeps x good in_time) rest.keeps;
      jobs = rest.jobs;
      clock = rest.clock;
      finishes = rest.finishes
          ∙ ap (λ (fs : List Finish). (x.finishes ++ fs) ++ finishes_in (time_of s p until r.clock r.answer) r.answer) none
          ∙ ap (λ (fs : List Finish). fs ++ finishes_in (time_of s p until r.clock r.answer) r.answer) (append-nil x.finishes);
      leads_on = one_and_the_rest until clock x early some
          ∙ ap (λ (c : ℕ). ticks_while_pending (until - c) (one_more_tick x)) (sym (tick_clock x.run good in_time))
          ∙ rest.leads_on;
    }

    -- After a taken tick the same jobs are pending, and no job has finished.
    module _ (taken : is_taken x.run ≡ true) where
      jobs_stay : jobs_of (ticked x.run).run.pending ≡ js
      jobs_stay = rw (tick_taken x.run good.0 in_time taken)

      still_some : 1 ≤ (one_more_tick x).run.pending.count
      still_some = rw (tick_taken x.run good.0 in_time taken) some

      no_finish : finished_by x.run ≡ []
      no_finish = rw taken

      free_stays : free (one_more_tick x).run.clock.0 ≡ free clock
      free_stays = ap free later ∙ after_a_taken_tick (timer s p) clock (sym (taken_so has) ∙ taken)

      -- Where the tick is taken, the ticks come to what the ticks after it come to.
      passes : Strode s p until (one_more_tick x) (worked_for (free until - free (one_more_tick x).run.clock.0) (free (one_more_tick x).run.clock.0) (jobs_of (one_more_tick x).run.pending))
          → Strode s p until x (worked_for (free until - free clock) (free clock) js)
      passes rest =
          goes_on no_finish
          (subst (Strode s p until (one_more_tick x)) (ap₂ (λ (f : ℕ). λ (l : List Job). worked_for (free until - f) f l) free_stays jobs_stay) rest)

    module _ (left : is_taken x.run ≡ false) where
      -- The job that goes first in the run is the one that goes first in the list of its pending jobs.
      its_job : first_job x.run.pending ≡ first_of js
      its_job = first_is_pending x.run good some

      -- The tick gives the job that goes first one unit.
      jobs_after : jobs_of (ticked x.run).run.pending ≡ after_tick js
      jobs_after = tick_gives_one_unit x.run good.1 good.0 in_time left some

      some_here : 1 ≤ length js
      some_here = omega (arith, counted x.run good)

      -- One more tick is free.
      free_grows : free (one_more_tick x).run.clock.0 ≡ free clock + 1
      free_grows = ap free later ∙ after_a_free_tick (timer s p) clock (sym (taken_so has) ∙ left) ∙ omega arith

      one_more : free until - free clock ≡ suc (free until - free (one_more_tick x).run.clock.0)
      one_more =
          let ahead : (one_more_tick x).run.clock.0 ≤ until = omega (arith, later) in
          omega (arith, free_grows, free_before_grows (timer s p) (one_more_tick x).run.clock.0 until ahead)

      -- The free tick at the clock is the one that its number says.
      found : free_tick_at s p (free clock + 1 - 1) + 1 ≡ clock + 1
      found =
          let same : free clock + 1 - 1 ≡ free clock = omega arith in
          rw same (ap (λ (t : ℕ). t + 1) (free_tick_is_found_by_count s p clock few (sym (taken_so has) ∙ left)))

      -- Where the unit is the job's last, the tick finishes that job.
      finishes_one : last_unit (first_of js) ≡ true → finished_by x.run ≡ finish_at (clock + 1) (first_of js) ∷ []
      finishes_one last =
          let so : last_unit (first_job x.run.pending) ≡ true = rw its_job last in
          rw (left, lt-ltb 0 x.run.pending.count some, so, ← its_job)

      -- Where the unit is not the job's last, the tick finishes no job, and as many are pending as before.
      finishes_none : last_unit (first_of js) ≡ false → finished_by x.run ≡ []
      finishes_none more =
          let so : last_unit (first_job x.run.pending) ≡ false = rw its_job more in
          rw (left, lt-ltb 0 x.run.pending.count some, so)

      some_after : last_unit (first_of js) ≡ false → 1 ≤ (one_more_tick x).run.pending.count
      some_after more = omega (arith, rw (finishes_none more) at (tick_conserves x.run good in_time), some)

      -- A tick that finishes a job ends the ticks until a job finishes.
      finishes_now : last_unit (first_of js) ≡ true → Strode s p until x (worked_for (free until - free clock) (free clock) js)
      finishes_now last =
          let so : worked_for (free until - free clock) (free clock) js ≡ finished_at (free clock + 1) (first_of js) (after_tick js) =
          ap (λ (n : ℕ). worked_for n (free clock) js) one_more ∙ tick_finishes (free until - free (one_more_tick x).run.clock.0) (free clock) js some_here last in
          subst (Strode s p until x) (sym so) (record {
            by_now = one_more_tick x;
            keeps = one_tick_keeps x good in_time;
            jobs = jobs_after;
            clock = tick_clock x.run good in_time ∙ sym found;
            finishes = ap (λ (fs : List Finish). x.finishes ++ fs) (finishes_one last ∙ ap (λ (t : ℕ). finish_at t (first_of js) ∷ []) (sym found));
            leads_on = one_and_the_rest until clock x early some
                ∙ ap (λ (c : ℕ). ticks_while_pending (until - c) (one_more_tick x)) (sym (tick_clock x.run good in_time));
          })

      -- Where the unit is not the job's last, the ticks come to what the ticks after it come to.
      works_on : last_unit (first_of js) ≡ false
          → Strode s p until (one_more_tick x) (worked_for (free until - free (one_more_tick x).run.clock.0) (free (one_more_tick x).run.clock.0) (jobs_of (one_more_tick x).run.pending))
          → Strode s p until x (worked_for (free until - free clock) (free clock) js)
      works_on more rest =
          let so : worked_for (free until - free clock) (free clock) js ≡ worked_for (free until - free (one_more_tick x).run.clock.0) (free clock + 1) (after_tick js) =
          ap (λ (n : ℕ). worked_for n (free clock) js) one_more ∙ tick_goes_on (free until - free (one_more_tick x).run.clock.0) (free clock) js some_here more in
          subst (Strode s p until x) (sym so)
          (goes_on (finishes_none more)
          (subst (Strode s p until (one_more_tick x))
          (ap₂ (λ (f : ℕ). λ (l : List Job). worked_for (free until - free (one_more_tick x).run.clock.0) f l) free_grows jobs_after) rest))

  -- With the time reached, nothing is left to do.
  stays : (until : ℕ) (x : SoFar) → Good x.run → x.run.clock.0 ≡ until
      → Strode s p until x (worked_for (free until - free x.run.clock.0) (free x.run.clock.0) (jobs_of x.run.pending))
  unfolding worked_for
  stays until x good now =
      let none : free until - free x.run.clock.0 ≡ 0 = rw now (omega arith) in
      subst (λ n. Strode s p until x (worked_for n (free x.run.clock.0) (jobs_of x.run.pending))) (sym none)
      (record { by_now = x; keeps = no_ticks x good; jobs = refl; clock = now; finishes = sym (append-nil x.finishes); leads_on = refl })

  -- Where a job is pending, the n ticks until a time come to what the free ones among them on the pending jobs come to.
  strides : (n until : ℕ) (x : SoFar) → Good x.run → HasTimer s p x.run → 1 ≤ x.run.pending.count
      → x.run.clock.0 + n ≡ until → until ≤ max_time
      → Strode s p until x (worked_for (free until - free x.run.clock.0) (free x.run.clock.0) (jobs_of x.run.pending))
  strides zero until x good has some so soon = stays until x good (omega arith)
  strides (suc n) until x good has some so soon =
      let early : x.run.clock.0 < until = omega arith in
      let keeps = one_tick_keeps x good (omega arith) in
      let then : (one_more_tick x).run.clock.0 + n ≡ until = omega (arith, later until x good has some early soon) in
      let next = tick_keeps_good x.run good in
      by_test (is_taken x.run)
      (λ taken.
      passes until x good has some early soon taken
      (strides n until (one_more_tick x) next (same_timer keeps has) (still_some until x good has some early soon taken) then soon))
      (λ left. by_test (last_unit (first_of (jobs_of x.run.pending)))
      (λ last. finishes_now until x good has some early soon left last)
      (λ more.
      works_on until x good has some early soon left more
      (strides n until (one_more_tick x) next (same_timer keeps has) (some_after until x good has some early soon left more) then soon)))

  -- Where a job is pending, the ticks until a later time come to what the free ones among them on the pending jobs come to.
  pub strides_until : (until : ℕ) (x : SoFar) → Good x.run → HasTimer s p x.run → 1 ≤ x.run.pending.count
      → x.run.clock.0 ≤ until → until ≤ max_time
      → Strode s p until x (worked_for (free until - free x.run.clock.0) (free x.run.clock.0) (jobs_of x.run.pending))
  strides_until until x good has some early soon = strides (until - x.run.clock.0) until x good has some (omega arith) soon
