-- An earlier point of a trace. At every time that the clock has passed, the trace was at a point where the clock was at that time. The ticks since then are the
-- newest, and the jobs that were released before that time had been accepted. No job had been ended that is not ended now. So a job that is due and was not
-- ended had its cost before its due time. (6.26)
use Prim.Native.Nat.{ℕ, suc, ◌-◌, ◌≤◌, ◌<◌}
use mathlib.Core.Path.{◌≡◌, refl, sym}
use mathlib.Core.Bool.{true, false}
use mathlib.Core.Option.{Option}
use mathlib.Core.List.{List, [], ◌∷◌, Memᴰ}
use native.Mathlib.Omega.{arith}
use lib.ListN.{drop}
use Rattle.theory.specs.Jobs.{Job}
use Rattle.kinds.proofs.Apart.{impossible}
use Rattle.theory.proofs.Cases.{by_eq, by_test}
use Rattle.run.specs.Answers.{accepted, TickSays, idle, ran, taken, ended_with}
use Rattle.run.specs.Answers as says
use Rattle.promise.specs.Traces.{Call, Event, EndedJob, run_at, event_of, trace, told, clock_of, jobs_of_trace, ticks_of, ended_in, was_ended}
use Rattle.promise.specs.InTime.{InTimeBeforeDue}
use Rattle.promise.proofs.Ticks.{no_job_by_a_tick}
use Rattle.promise.proofs.Ended.{among_means, is_among}
use Rattle.promise.proofs.InTime.{in_time, ended_stays, due_times_come}

-- The time was reached before the event e, and e changes neither the ticks up to that time nor the jobs that were released before it.
record OneBack (time : ℕ) (e : Event) (es : List Event) : Type 0 where
  reached : time ≤ clock_of es
  same_ticks : drop (clock_of (e ∷ es) - time) (ticks_of (e ∷ es)) ≡ drop (clock_of es - time) (ticks_of es)
  same_jobs : (j : Job) → Memᴰ j (jobs_of_trace (e ∷ es)) → j.release < time → Memᴰ j (jobs_of_trace es)

-- A job that was released at a time or later is not among those that were released before it.
not_the_newest : (time : ℕ) {i : Job} {js : List Job} → time ≤ i.release → (j : Job) → Memᴰ j (i ∷ js) → j.release < time → Memᴰ j js
not_the_newest time late j (Memᴰ.head e) = λ early. absurd (omega (arith, late, rw e at early))
not_the_newest time late j (Memᴰ.tail m) = λ early. m

module _ (time : ℕ) (es : List Event) where
  -- Where the clock is past a time after a tick that went by, whoever had it, the time was reached before that tick.
  past_a_tick : (a : TickSays) (late : ℕ) (who : Option ℕ)
      → clock_of (Event.tick a late ∷ es) ≡ suc (clock_of es) → ticks_of (Event.tick a late ∷ es) ≡ who ∷ ticks_of es
      → time < clock_of (Event.tick a late ∷ es) → OneBack time (Event.tick a late) es
  past_a_tick a late who now ticks h =
      let one : suc (clock_of es) - time ≡ suc (clock_of es - time) = omega arith in
      record { reached = omega arith; same_ticks = rw (now, ticks, one); same_jobs = rw (no_job_by_a_tick a late es) (λ j m early. m) }

  -- Where the clock is past a time after one more event, the time was reached before that event.
  one_back : (e : Event) → time < clock_of (e ∷ es) → OneBack time e es
  unfolding told
  one_back (Event.release row cost (accepted serial due)) h = record { reached = omega arith; same_ticks = refl; same_jobs = not_the_newest time (omega arith) }
  one_back (Event.release row cost (says.ReleaseSays.refused n place)) h = record { reached = omega arith; same_ticks = refl; same_jobs = λ j m early. m }
  one_back (Event.tick idle late) h = past_a_tick idle late _ refl refl h
  one_back (Event.tick (ran serial finished) late) h = past_a_tick (ran serial finished) late _ refl refl h
  one_back (Event.tick taken late) h = past_a_tick taken late _ refl refl h
  one_back (Event.tick (says.TickSays.refused n place) late) h = record { reached = omega arith; same_ticks = refl; same_jobs = λ j m early. m }
  one_back (Event.end serial (ended_with units)) h = record { reached = omega arith; same_ticks = refl; same_jobs = λ j m early. m }
  one_back (Event.end serial (says.EndingSays.refused n place)) h = record { reached = omega arith; same_ticks = refl; same_jobs = λ j m early. m }

-- This is the point of a trace at which the clock was at a time. The jobs that had been ended by then are still among the ended ones.
record PointAt (time : ℕ) (bytes : List ℕ) (calls : List Call) : Type 0 where
  before : List Call
  clock_there : clock_of (trace bytes before) ≡ time
  ticks_there : ticks_of (trace bytes before) ≡ drop (clock_of (trace bytes calls) - time) (ticks_of (trace bytes calls))
  jobs_there : (j : Job) → Memᴰ j (jobs_of_trace (trace bytes calls)) → j.release < time → Memᴰ j (jobs_of_trace (trace bytes before))
  ended_there : (e : EndedJob) → Memᴰ e (ended_in (trace bytes before)) → Memᴰ e (ended_in (trace bytes calls))

-- Where the clock is at the time now, the point is the present one.
the_last : (time : ℕ) (bytes : List ℕ) (calls : List Call) → time ≡ clock_of (trace bytes calls) → PointAt time bytes calls
the_last time bytes calls e =
    let none : clock_of (trace bytes calls) - time ≡ 0 = omega arith in
    record { before = calls; clock_there = sym e; ticks_there = rw none; jobs_there = λ j m early. m; ended_there = λ e m. m }

-- Before any call the clock is at 0.
clock_at_first : (bytes : List ℕ) → clock_of (trace bytes []) ≡ 0
unfolding trace told
clock_at_first bytes = refl

-- Every time up to the clock has its point.
point_at : (time : ℕ) (bytes : List ℕ) (calls : List Call) → time ≤ clock_of (trace bytes calls) → PointAt time bytes calls
unfolding trace
point_at time bytes [] h = the_last time bytes [] (omega (arith, clock_at_first bytes))
point_at time bytes (c ∷ calls) h = by_eq time (clock_of (trace bytes (c ∷ calls)))
    (λ e. the_last time bytes (c ∷ calls) e)
    (λ e.
    let back = one_back time (trace bytes calls) (event_of (run_at bytes calls) c) (omega arith) in
    let point = point_at time bytes calls back.reached in
    record {
      before = point.before;
      clock_there = point.clock_there;
      ticks_there = rw back.same_ticks point.ticks_there;
      jobs_there = λ j m early. point.jobs_there j (back.same_jobs j m early) early;
      ended_there = λ e m. ended_stays (event_of (run_at bytes calls) c) (trace bytes calls) e (point.ended_there e m);
    })

-- A job that was not ended by now had not been ended at an earlier point.
not_ended_there : (time : ℕ) (bytes : List ℕ) (calls : List Call) (j : Job) (point : PointAt time bytes calls) → was_ended (trace bytes calls) j ≡ false
    → was_ended (trace bytes point.before) j ≡ false
not_ended_there time bytes calls j point stays = by_test (was_ended (trace bytes point.before) j)
    (λ gone.
    let found = among_means j.name (ended_in (trace bytes point.before)) gone in
    let now : was_ended (trace bytes calls) j ≡ true = is_among j.name (point.ended_there found.0 found.1) found.2 in
    impossible cc)
    (λ h. h)

-- A job that is due had its cost before its due time, if it was not ended early.
pub in_time_before_due : InTimeBeforeDue
in_time_before_due bytes ok said calls j m stays due =
    let point = point_at j.due bytes calls due in
    let so = not_ended_there j.due bytes calls j point stays in
    let there = point.jobs_there j m (omega (arith, (due_times_come bytes ok calls j m).0)) in
    rw (← point.ticks_there) (in_time bytes ok said point.before j there so (omega (arith, point.clock_there)))
