-- Free ticks on pending jobs in arrays are the ticks of the run that the arrays hold, and each job that finishes is logged. (docs/RULES.md, sections 6.5,
-- 6.10 to 6.17, and 8.2 to 8.4.)
use Rattle.std.specs.Prelude.{Option, Some, None}
use Prim.Native.Nat.{ℕ, ◌+◌, ◌-◌, ◌≤◌}
use mathlib.Core.Path.{◌≡◌, refl, sym, ap, ap₂, subst, ◌∙◌}
use mathlib.Core.Bool.{true}
use mathlib.Core.List.Memᴰ
use mathlib.Core.List.{List, [], ◌∷◌, ◌++◌, append-nil}
use native.Mathlib.Omega.{arith}
use lib.ListN.{length}
use Rattle.kinds.specs.Numbering.{max_time}
use Rattle.kinds.specs.declared.Finish.{Finish}
use Rattle.theory.specs.Ticks.{free_before, timer, free_tick_at}
use Rattle.table.specs.Timer.{GoodTimer}
use Rattle.jobs.specs.declared.Job.{Job}
use Rattle.jobs.specs.Places.{max_places, jobs_of}
use Rattle.columns.specs.declared.Worked.{Worked}
use Rattle.columns.specs.declared.Columns.{Columns}
use Rattle.columns.specs.Ticks.{Reached, worked_for, worked_first, work_on, work_answer}
use Rattle.columns.specs.Ordered.{SameReached}
use Rattle.columns.specs.Outcomes.{WorksAs}
use Rattle.columns.proofs.Holding.{held_are_counted, work_holds}
use Rattle.columns.proofs.Ordered.{same_are_as_many, first_is_worked_on}
use Rattle.run.specs.ManyTicks.{SoFar, ticks_while_pending}
use Rattle.run.proofs.Ticking.{counted}
use Rattle.logs.specs.Log.{values_of, all_in_range}
use Rattle.play.proofs.SingleTicks.{no_more}
use Rattle.play.proofs.OnItsWay.{on_its_way_ticked}
use Rattle.replay.specs.declared.Logged.{Logged}
use Rattle.replay.specs.Arrays.{OneLogged, Logs, TickArrays, tick_arrays, InBounds, HoldsInOrder, ArraysHoldRun, HasTimer, LeadsTo}
use Rattle.replay.proofs.Logging.{logs_one_more}
use Rattle.replay.proofs.FreeTicks.{free_after, ended_by}
use Rattle.replay.proofs.Working.{few_after, FinishedSo, finished_so}
use Rattle.replay.proofs.Strides.{finished_at_time, finishes_in, time_of, Strode, same_timer, strides_until}

-- A play has had some of its ticks until a time: the arrays hold it, and with the ticks that are still to come it comes to the same as from the start.
pub record Came (s p until : ℕ) (x : SoFar) (log₀ : List ℕ) (h₀ h : TickArrays) : Type 0 where
  pub by_now : SoFar
  pub has : HasTimer s p by_now.run
  pub stands : ArraysHoldRun by_now log₀ h
  pub leads_on : ticks_while_pending (until - h.clock) by_now ≡ ticks_while_pending (until - h₀.clock) x

-- Every play with this timer that the arrays held at first has had some of its ticks until a time, and the arrays hold it now. Their numbers are in bounds, the
-- log buffer is as long as before, and the clock is not past the time.
pub record TicksOn (s p until : ℕ) (h₀ h : TickArrays) : Type 0 where
  pub in_bounds : InBounds h
  pub same_length : length h.log ≡ length h₀.log
  pub not_past : h.clock ≤ until
  pub came : (x : SoFar) (log₀ : List ℕ) → HasTimer s p x.run → ArraysHoldRun x log₀ h₀ → Came s p until x log₀ h₀ h

pub no_ticks_yet : (s p until : ℕ) (h : TickArrays) → InBounds h → h.clock ≤ until → TicksOn s p until h h
no_ticks_yet s p until h bounds early = record {
  in_bounds = bounds;
  same_length = refl;
  not_past = early;
  came = λ x log₀ has w. record { by_now = x; has = has; stands = w; leads_on = refl };
}

-- With the time reached already, no tick is given.
pub no_ticks_due : (s p until : ℕ) (h : TickArrays) → until ≤ h.clock → LeadsTo s p until h h
unfolding ticks_while_pending
no_ticks_due s p until h late x log₀ has w = let none : until - h.clock ≡ 0 = omega arith in rw none w

-- `n` free ticks have gone by, and `m` will have gone by at the time `until`. The call of `work` gets these for its clock and its time.
module _ {s p until : ℕ} (good_timer : GoodTimer s p) {h₀ h : TickArrays} (t : TicksOn s p until h₀ h) (soon : until ≤ max_time) (some : 1 ≤ h.jobs.count)
    {n m : ℕ} (n_so : n ≡ free_before (timer s p) h.clock) (m_so : m ≡ free_before (timer s p) until) {after : Columns} {r : Worked}
    (says : r ≡ work_answer h.jobs n m) (leaves : after ≡ work_on h.jobs n m) where
  module _ {f : Finish} (e : r.finished ≡ Some f) where
    one_finished : FinishedSo h.jobs n m r after
    one_finished = rw (says, leaves) (finished_so h.jobs n m f (rw says at e))

    -- Where a job finished, one job fewer is pending.
    pub one_less : after.count + 1 ≡ h.jobs.count
    one_less = omega (arith, one_finished.one_less, t.in_bounds.few_pending)

    -- Where a job finished, at least one free tick has gone by, and at most those before the time.
    pub some_free : 1 ≤ r.clock.0
    some_free = omega (arith, one_finished.later)

    pub free_in_time : r.clock.0 ≤ m
    free_in_time = one_finished.in_time

    -- The free ticks that have gone by are those before the finish.
    pub free_so : r.clock.0 ≡ free_before (timer s p) (free_tick_at s p (r.clock.0 - 1) + 1)
    free_so = sym (free_after s p good_timer.s_below_p r.clock.0 some_free)

  -- If the arrays hold a play before these ticks, they hold it with these ticks afterwards.
  module _ {b : SoFar} {log₀ : List ℕ} (has : HasTimer s p b.run) (stands : ArraysHoldRun b log₀ h) where
    abbrev queue : List Job
    queue = stands.jobs_held.queue

    abbrev there : Reached
    there = worked_for (m - n) n (jobs_of b.run.pending)

    -- What the ticks on the jobs in order come to is what single ticks on the run's jobs come to.
    same_there : SameReached (worked_first (m - n) n queue) there
    same_there = first_is_worked_on (m - n) n queue (jobs_of b.run.pending) stands.jobs_held.in_order stands.jobs_held.same

    works : WorksAs h.jobs queue n m
    works = work_holds h.jobs queue n m stands.jobs_held.held

    answer_so : there.answer ≡ r.finished
    answer_so = sym same_there.answer ∙ sym works.answer_so ∙ sym (ap (λ (x : Worked). x.finished) says)

    free_reached : there.clock ≡ r.clock.0
    free_reached = sym same_there.clock ∙ sym works.clock_so ∙ sym (ap (λ (x : Worked). x.clock.0) says)

    -- After the ticks the arrays hold the jobs that are left, in order.
    held_after : HoldsInOrder after there.jobs
    held_after = record {
      queue = (worked_first (m - n) n queue).jobs;
      held = rw leaves works.holds;
      in_order = same_there.in_order;
      same = same_there.jobs;
    }

    strode : Strode s p until b there
    strode =
        let free : free_before (timer s p) b.run.clock.0 ≡ n = ap (free_before (timer s p)) stands.clocks ∙ sym n_so in
        subst (λ (k : ℕ). Strode s p until b (worked_for (m - k) k (jobs_of b.run.pending))) free
        (subst (λ (k : ℕ). Strode s p until b (worked_for (k - free_before (timer s p) b.run.clock.0) (free_before (timer s p) b.run.clock.0) (jobs_of b.run.pending))) (sym m_so)
        (strides_until s p good_timer.s_below_p until b stands.on_its_way.good has (omega (arith, stands.counts)) (omega (arith, stands.clocks, t.not_past)) soon))

    -- `time` is the time that the ticks have come to.
    abbrev time : ℕ
    time = time_of s p until r.clock.0 r.finished

    time_so : time_of s p until there.clock there.answer ≡ time
    time_so = ap₂ (λ (k : ℕ). λ (a : Option Finish). time_of s p until k a) free_reached answer_so

    clock_so : strode.by_now.run.clock.0 ≡ time
    clock_so = strode.clock ∙ time_so

    finishes_so : strode.by_now.finishes ≡ b.finishes ++ finishes_in time r.finished
    finishes_so =
        strode.finishes
        ∙ ap₂ (λ (k : ℕ). λ (a : Option Finish). b.finishes ++ finishes_in (time_of s p until k a) a) free_reached answer_so

    -- After the ticks the arrays hold the jobs that are still pending.
    stands_after : {log : List ℕ} {l : Logged} → Logs strode.by_now.finishes log₀ log l
        → ArraysHoldRun strode.by_now log₀ (tick_arrays after log time l)
    stands_after logs = record {
      on_its_way = on_its_way_ticked stands.on_its_way strode.keeps;
      counts =
          let many = held_are_counted after held_after.queue held_after.held in
          let few : after.count ≤ max_places = rw leaves (few_after h.jobs n m) in
          let all : length held_after.queue ≡ length there.jobs = same_are_as_many held_after.queue there.jobs held_after.same in
          let here : length (jobs_of strode.by_now.run.pending) ≡ length there.jobs = ap length strode.jobs in
          omega (arith, many, few, all, here, counted strode.by_now.run strode.keeps.good);
      clocks = clock_so;
      jobs_held = rw strode.jobs held_after;
      logs = logs;
    }

    -- With the ticks that are still to come, the play comes to the same as before these ticks.
    leads_after : ticks_while_pending (until - time) strode.by_now ≡ ticks_while_pending (until - h.clock) b
    leads_after =
        ap (λ (c : ℕ). ticks_while_pending (until - c) strode.by_now) (sym clock_so)
        ∙ sym strode.leads_on
        ∙ ap (λ (c : ℕ). ticks_while_pending (until - c) b) stands.clocks

    -- The numbers of a job that finished have spellings.
    its_numbers : {f : Finish} → r.finished ≡ Some f → all_in_range (values_of (finished_at_time time f)) ≡ true
    its_numbers {f} e =
        let all = strode.keeps.in_range stands.on_its_way.in_range in
        let one : strode.by_now.finishes ≡ b.finishes ++ (finished_at_time time f ∷ []) = finishes_so ∙ ap (λ a. b.finishes ++ finishes_in time a) e in
        (rw one at all) (finished_at_time time f) (Memᴰ.append_right b.finishes (Memᴰ.head refl))

  -- Where a job finishes, it is logged with its finish, and the ticks go on.
  pub finished_on : {f : Finish} → r.finished ≡ Some f → {log : List ℕ} {l : Logged}
      → OneLogged h.logged (finished_at_time (free_tick_at s p (r.clock.0 - 1) + 1) f) h.log log l
      → TicksOn s p until h₀ (tick_arrays after log (free_tick_at s p (r.clock.0 - 1) + 1) l)
  finished_on {f} e {log} {l} o =
      let bounds = t.in_bounds in
      record {
        in_bounds = record {
          few_pending = omega (arith, one_less e, bounds.few_pending);
          within = omega (arith, o.within, o.same_length);
          few_late = omega (arith, one_less e, o.few_late, bounds.few_late);
        };
        same_length = o.same_length ∙ t.same_length;
        not_past = ended_by s p good_timer.s_below_p r.clock.0 until (some_free e) (omega (arith, free_in_time e, m_so));
        came = λ x log₀ first_has first.
            let k = t.came x log₀ first_has first in
            let st = k.stands in
            let ks = k.has in
            let now : time ks st ≡ free_tick_at s p (r.clock.0 - 1) + 1 = rw e in
            let one : (strode ks st).by_now.finishes ≡ k.by_now.finishes ++ (finished_at_time (time ks st) f ∷ []) =
            finishes_so ks st ∙ ap (λ a. k.by_now.finishes ++ finishes_in (time ks st) a) e in
            let logged : Logs (strode ks st).by_now.finishes log₀ log l =
            rw (one, now, o.holds, o.says) (logs_one_more st.logs _ (rw now at (its_numbers ks st e))) in
            record {
              by_now = (strode ks st).by_now;
              has = same_timer (strode ks st).keeps ks;
              stands = rw now at (stands_after ks st {log = log} {l = l} logged);
              leads_on = (rw now at (leads_after ks st)) ∙ k.leads_on;
            };
      }

  -- Where no job finishes, the time is reached, and all ticks have been given.
  pub nobody_on : r.finished ≡ None → LeadsTo s p until h₀ (tick_arrays after h.log until h.logged)
  unfolding ticks_while_pending
  nobody_on e x log₀ first_has first =
      let k = t.came x log₀ first_has first in
      let st = k.stands in
      let ks = k.has in
      let now : time ks st ≡ until = rw e in
      let none : until - time ks st ≡ 0 = omega arith in
      let ended : (strode ks st).by_now ≡ ticks_while_pending (until - h₀.clock) x = (rw none at (leads_after ks st)) ∙ k.leads_on in
      let no_finish : (strode ks st).by_now.finishes ≡ k.by_now.finishes =
      finishes_so ks st ∙ ap (λ a. k.by_now.finishes ++ finishes_in (time ks st) a) e ∙ append-nil k.by_now.finishes in
      let logged : Logs (strode ks st).by_now.finishes log₀ h.log h.logged = rw no_finish st.logs in
      rw (← ended) (rw now at (stands_after ks st {log = h.log} {l = h.logged} logged))

-- Where nothing is pending, all ticks have been given.
pub nothing_pending : {s p until : ℕ} {h₀ h : TickArrays} → TicksOn s p until h₀ h → h.jobs.count ≡ 0 → LeadsTo s p until h₀ h
nothing_pending {until = until} {h₀ = h₀} {h = h} t none x log₀ has w =
    let k = t.came x log₀ has w in
    let same : k.by_now ≡ ticks_while_pending (until - h₀.clock) x =
    sym (no_more (until - h.clock) k.by_now (k.stands.counts ∙ none)) ∙ k.leads_on in
    rw (← same) k.stands
