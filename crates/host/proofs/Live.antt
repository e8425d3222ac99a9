-- The laws of the four calls on a live run: when nothing changes, memory that is no sound run, runs that stay sound, and statuses that are never 0.
-- (docs/RULES.md, 9.9 to 9.15.)
use Rattle.std.specs.Prelude.{Result, Ok, Err}
use Rattle.kinds.specs.declared.Refusal.{Refusal}
use Rattle.run.specs.declared.Accepted.{Accepted}
use Prim.Native.Nat.{ℕ, ◌≤◌}
use mathlib.Core.Path.{◌≡◌, refl, ap}
use mathlib.Core.Logic.{◌≢◌}
use mathlib.Core.Bool.{Bool, true, false, cond}
use native.Mathlib.Omega.{arith}
use lib.Dec.{eqb}
use lib.ListN.{length}
use borrow.Author.Tests.{ne_eqb}
use Rattle.kinds.specs.Numbering.{Said, refusal_number}
use Rattle.jobs.specs.Answers.{has_finished}
use Rattle.jobs.specs.Units.{ran_of}
use Rattle.jobs.specs.Turns.{first_job}
use Rattle.run.specs.declared.Run.{Run}
use Rattle.run.specs.Runs.{started}
use Rattle.run.specs.Release.{released}
use Rattle.run.specs.Ticking.{ticked}
use Rattle.run.specs.Ending.{ended}
use Rattle.run.specs.Sound.{sound_of, Whole}
use Rattle.run.specs.Answers.{release_says, tick_says, end_says}
use Rattle.run.proofs.Fresh.{started_is_sound}
use Rattle.run.proofs.Release.{release_keeps_sound, refused_release_changes_nothing}
use Rattle.run.proofs.Ticking.{by_answer, tick_keeps_sound}
use Rattle.run.proofs.Ending.{end_keeps_sound, refused_end_changes_nothing}
use Rattle.live.specs.Statuses.{release_said, ran_status, tick_said, end_said}
use Rattle.live.proofs.Statuses.{live_never_zero}
use Rattle.host.specs.Answer.{answer_length}
use Rattle.host.specs.Live.{LiveStep, start_told, release_told, tick_told, end_told, step_after, NothingChangesAt13, GarbageGets11, ZerosAreNotSound}
use Rattle.host.specs.Live.{LiveRunsStaySound, LiveCallsNeverZero, RefusedCallLeavesTheRun}

-- What holds for the step of a call that says its answer, and for the step that says 13 and leaves the run alone, holds with any answer buffer.
by_size : (P : LiveStep → Type 0) (size : ℕ) (before after : Run) (s : Said)
    → P (record { run = after; status = s.number }) → P (record { run = before; status = 13 }) → P (step_after size before after s)
by_size P size before after s said other = go (eqb size answer_length)
  where
    go : (b : Bool) → P (cond b (record { run = after; status = s.number }) (record { run = before; status = 13 }))
    go true = said
    go false = other

-- ---- an answer buffer of another length than 16

pub nothing_changes_at_13 : NothingChangesAt13
nothing_changes_at_13 answer other run =
    rw (ne_eqb (length answer) answer_length other) (λ table. refl, λ row cost. refl, refl, λ serial. refl, λ s. refl)

-- ---- memory that is no sound run

pub garbage_gets_11 : GarbageGets11
unfolding released ticked ended
garbage_gets_11 run unsound = rw unsound (λ row cost. (refl, refl), refl, refl, λ serial. (refl, refl))

pub zeros_are_not_sound : ZerosAreNotSound
unfolding sound_of
zeros_are_not_sound run zeros = rw zeros

-- ---- runs that stay sound

pub live_runs_stay_sound : LiveRunsStaySound
live_runs_stay_sound = (
  λ run table bytes. started_is_sound table bytes,
  λ run size whole sound.
      let stays : (after : Run) (s : Said) → (sound_of after ≡ true) × Whole after
      → (sound_of (step_after size run after s).run ≡ true) × Whole (step_after size run after s).run =
      λ after s good. by_size (λ step. (sound_of step.run ≡ true) × Whole step.run) size run after s good (sound, whole) in (
        λ row cost. stays _ (release_told run row cost) (release_keeps_sound run row cost whole sound),
        stays _ (tick_told run) (tick_keeps_sound run whole sound),
        λ serial. stays _ (end_told run serial) (end_keeps_sound run serial whole sound),
      ),
)

-- ---- statuses

pub live_calls_never_zero : LiveCallsNeverZero
live_calls_never_zero size run =
    let never : (after : Run) (s : Said) → 1 ≤ s.number → 1 ≤ (step_after size run after s).status =
    λ after s h. by_size (λ step. 1 ≤ step.status) size run after s h (omega arith) in (
      λ table. never (started table).run (start_told table) (live_never_zero.0 (started table).answer),
      λ row cost. never (released run row cost).run (release_told run row cost) (live_never_zero.1 (released run row cost).answer),
      never (ticked run).run (tick_told run) (live_never_zero.2 (ticked run).answer (ticked run).late),
      λ serial. never (ended run serial).run (end_told run serial) (live_never_zero.3 (ended run serial).answer),
    )

-- The statuses of a job that had the unit are 36 and 37.
at_least_36 : (finished : Bool) → 36 ≤ ran_status finished
at_least_36 true = omega arith
at_least_36 false = omega arith

-- A release that does not say 34 was refused, and leaves the run.
release_leaves : (run : Run) (row cost : ℕ) (a : Result Accepted Refusal) → (released run row cost).answer ≡ a → (release_said (release_says a)).number ≢ 34
    → (released run row cost).run ≡ run
release_leaves run row cost (Ok a) e other = absurd (other refl)
release_leaves run row cost (Err r) e other = refused_release_changes_nothing run row cost (refusal_number r) 0 (ap release_says e)

-- A tick that says at most 34 was refused, and leaves the run.
tick_leaves : (run : Run) → (tick_told run).number ≤ 34 → (ticked run).run ≡ run
tick_leaves run =
    by_answer (λ t. (tick_said (tick_says t.answer) t.late).number ≤ 34 → t.run ≡ run) run
    (λ unsound low. refl)
    (λ late low. refl)
    (λ sound early takes low. absurd (omega arith))
    (λ sound early free none low. absurd (omega arith))
    (λ early free some low. absurd (omega (arith, low, at_least_36 (has_finished (ran_of (first_job run.pending)).finished))))

-- An end that does not say 39 was refused, and leaves the run.
end_leaves : (run : Run) (serial : ℕ) (a : Result ℕ Refusal) → (ended run serial).answer ≡ a → (end_said (end_says a)).number ≢ 39
    → (ended run serial).run ≡ run
end_leaves run serial (Ok n) e other = absurd (other refl)
end_leaves run serial (Err r) e other = refused_end_changes_nothing run serial (refusal_number r) 0 (ap end_says e)

pub refused_call_leaves_the_run : RefusedCallLeavesTheRun
refused_call_leaves_the_run size run = (
  λ row cost. by_size (λ step. step.status ≢ 34 → step.run ≡ run) size run _ (release_told run row cost) (release_leaves run row cost _ refl) (λ other. refl),
  by_size (λ step. step.status ≤ 34 → step.run ≡ run) size run _ (tick_told run) (tick_leaves run) (λ low. refl),
  λ serial. by_size (λ step. step.status ≢ 39 → step.run ≡ run) size run _ (end_told run serial) (end_leaves run serial _ refl) (λ other. refl),
)
