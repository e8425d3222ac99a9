-- A tick of a sound run has four answers. It is refused with 10 at the clock 2^40. Else it is taken where the timer takes it. Where it is free, it is idle with
-- nothing pending, and with something pending it ran the job that goes first. Before this the page shows that a tick neither accepts nor ends a job, that a
-- release ends none and leaves the clock, and that an end accepts none and leaves the clock. (6.5, 6.12, 6.16, 6.28)
use Prim.Native.Nat.{ℕ, ◌≤◌, ◌<◌}
use mathlib.Core.Path.{◌≡◌, refl}
use mathlib.Core.Bool.{true, false}
use mathlib.Core.List.{List, ◌∷◌}
use native.Mathlib.Omega.{arith}
use Rattle.kinds.specs.Numbering.{max_time}
use Rattle.kinds.specs.declared.Refusal.TheVariants.{TimeTooLate}
use Rattle.theory.proofs.Cases.{by_lt, by_test}
use Rattle.run.specs.declared.Run.{Run}
use Rattle.run.specs.declared.TickStep.{TickStep}
use Rattle.run.specs.Sound.{sound_of}
use Rattle.run.specs.Ticking.{refused_tick, is_taken, taken_tick, idle_tick, busy_tick, ticked}
use Rattle.run.specs.Answers.{ReleaseSays, accepted, TickSays, idle, ran, taken, EndingSays, ended_with}
use Rattle.run.specs.Answers as says
use Rattle.run.proofs.Ticking.{tick_too_late, tick_taken, tick_idle, tick_busy}
use Rattle.promise.specs.Traces.{Event, told, clock_of, jobs_of_trace, ended_in}

-- A tick tells about no job, whatever its answer is.
pub no_job_by_a_tick : (a : TickSays) (late : ℕ) (es : List Event) → jobs_of_trace (Event.tick a late ∷ es) ≡ jobs_of_trace es
unfolding told
no_job_by_a_tick idle late es = refl
no_job_by_a_tick (ran serial fin) late es = refl
no_job_by_a_tick taken late es = refl
no_job_by_a_tick (says.TickSays.refused number place) late es = refl

-- A release tells about no tick, whatever its answer is.
pub no_tick_by_a_release : (row cost : ℕ) (a : ReleaseSays) (es : List Event) → clock_of (Event.release row cost a ∷ es) ≡ clock_of es
unfolding told
no_tick_by_a_release row cost (accepted serial due) es = refl
no_tick_by_a_release row cost (says.ReleaseSays.refused number place) es = refl

-- A tick tells about no end, whatever its answer is.
pub no_end_by_a_tick : (a : TickSays) (late : ℕ) (es : List Event) → ended_in (Event.tick a late ∷ es) ≡ ended_in es
unfolding told
no_end_by_a_tick idle late es = refl
no_end_by_a_tick (ran serial fin) late es = refl
no_end_by_a_tick taken late es = refl
no_end_by_a_tick (says.TickSays.refused number place) late es = refl

-- A release tells about no end, whatever its answer is.
pub no_end_by_a_release : (row cost : ℕ) (a : ReleaseSays) (es : List Event) → ended_in (Event.release row cost a ∷ es) ≡ ended_in es
unfolding told
no_end_by_a_release row cost (accepted serial due) es = refl
no_end_by_a_release row cost (says.ReleaseSays.refused number place) es = refl

-- An end tells about no job, whatever its answer is.
pub no_job_by_an_end : (serial : ℕ) (a : EndingSays) (es : List Event) → jobs_of_trace (Event.end serial a ∷ es) ≡ jobs_of_trace es
unfolding told
no_job_by_an_end serial (ended_with units) es = refl
no_job_by_an_end serial (says.EndingSays.refused number place) es = refl

-- An end tells about no tick, whatever its answer is.
pub no_tick_by_an_end : (serial : ℕ) (a : EndingSays) (es : List Event) → clock_of (Event.end serial a ∷ es) ≡ clock_of es
unfolding told
no_tick_by_an_end serial (ended_with units) es = refl
no_tick_by_an_end serial (says.EndingSays.refused number place) es = refl

-- What holds for each of the four answers, where it is given, holds for the tick.
pub each_tick : (run : Run) → sound_of run ≡ true → (P : TickStep → Type 0)
    → (max_time ≤ run.clock.0 → P (refused_tick run TimeTooLate))
    → (run.clock.0 < max_time → is_taken run ≡ true → P (taken_tick run))
    → (run.clock.0 < max_time → is_taken run ≡ false → run.pending.count ≡ 0 → P (idle_tick run))
    → (run.clock.0 < max_time → is_taken run ≡ false → 1 ≤ run.pending.count → P (busy_tick run))
    → P (ticked run)
each_tick run sound P refused taking idling busy = by_lt run.clock.0 max_time
    (λ h. by_test (is_taken run)
    (λ takes. rw (tick_taken run sound h takes) (taking h takes))
    (λ free. by_lt 0 run.pending.count
    (λ some. rw (tick_busy run sound h free some) (busy h free some))
    (λ none. rw (tick_idle run sound h free (omega arith)) (idling h free (omega arith)))))
    (λ h. rw (tick_too_late run sound h) (refused h))
