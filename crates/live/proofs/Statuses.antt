-- The statuses of the calls on a live run are never 0, and tell the answers apart. (docs/RULES.md, 1.16 and 9.12.)
use Rattle.std.specs.Prelude.{Result, Ok, Err}
use Rattle.kinds.specs.declared.Refusal.{Refusal}
use Rattle.run.specs.declared.Accepted.{Accepted}
use Rattle.kinds.specs.declared.RefusedAt.{RefusedAt}
use Prim.Native.Nat.{ℕ, ◌≤◌}
use mathlib.Core.Path.{◌≡◌, refl, sym}
use mathlib.Core.Bool.{cond, ◌&&◌}
use native.Mathlib.Omega.{arith}
use lib.Dec.{leb}
use borrow.Author.Tests.{ne_eqb, lt-leb}
use Rattle.kinds.specs.Numbering.{refusal_number}
use Rattle.kinds.specs.declared.Refusal.TheVariants as refusal
use Rattle.kinds.proofs.Numbering.{never_zero}
use Rattle.jobs.specs.declared.Finished.{Finished}
use Rattle.jobs.specs.declared.Finished.TheVariants as finished
use Rattle.jobs.specs.Answers.{has_finished}
use Rattle.run.specs.declared.Ticked.{Ticked}
use Rattle.run.specs.declared.Ticked.TheVariants as tick
use Rattle.run.specs.Answers.{release_says, ran, tick_says, end_says}
use Rattle.live.specs.Statuses.{start_said, release_said, ran_status, tick_said, end_said, release_read, tick_read, end_read}
use Rattle.live.specs.Statuses.{NoRefusalFrom33On, StartIsSaid, LiveNeverZero, LiveReadsBack, LateReadsBack, StartedMeans}

-- ---- the refusals are below the other statuses

pub no_refusal_from_33_on : NoRefusalFrom33On
no_refusal_from_33_on refusal.Misspelled = omega arith
no_refusal_from_33_on refusal.TooManyRows = omega arith
no_refusal_from_33_on refusal.ValueOutOfRange = omega arith
no_refusal_from_33_on refusal.ExtraBytes = omega arith
no_refusal_from_33_on refusal.PeriodTooLong = omega arith
no_refusal_from_33_on refusal.NoSuchRow = omega arith
no_refusal_from_33_on refusal.CostOutOfRange = omega arith
no_refusal_from_33_on refusal.PlacesFull = omega arith
no_refusal_from_33_on refusal.DueTooLate = omega arith
no_refusal_from_33_on refusal.TimeTooLate = omega arith
no_refusal_from_33_on refusal.RunNotSound = omega arith
no_refusal_from_33_on refusal.NoRoom = omega arith
no_refusal_from_33_on refusal.AnswerNot16Bytes = omega arith
no_refusal_from_33_on refusal.ScriptMisspelled = omega arith
no_refusal_from_33_on refusal.HopelessRow = omega arith
no_refusal_from_33_on refusal.NotPending = omega arith
no_refusal_from_33_on refusal.TooManyEnded = omega arith
no_refusal_from_33_on refusal.NumberTooBig = omega arith

-- ---- no status is 0

start_never_zero : (a : Result (Unit {0}) RefusedAt) → 1 ≤ (start_said a).number
start_never_zero (Ok done) = omega arith
start_never_zero (Err r) = never_zero r.refusal

release_never_zero : (a : Result Accepted Refusal) → 1 ≤ (release_said (release_says a)).number
release_never_zero (Ok a) = omega arith
release_never_zero (Err r) = never_zero r

ran_never_zero : (f : Finished) → 1 ≤ ran_status (has_finished f)
ran_never_zero finished.Yes = omega arith
ran_never_zero finished.No = omega arith

tick_never_zero : (a : Ticked) (late : ℕ) → 1 ≤ (tick_said (tick_says a) late).number
tick_never_zero tick.Idle late = omega arith
tick_never_zero (tick.Ran r) late = ran_never_zero r.finished
tick_never_zero tick.Taken late = omega arith
tick_never_zero (tick.Refused r) late = never_zero r

end_never_zero : (a : Result ℕ Refusal) → 1 ≤ (end_said (end_says a)).number
end_never_zero (Ok n) = omega arith
end_never_zero (Err r) = never_zero r

pub live_never_zero : LiveNeverZero
live_never_zero = (start_never_zero, release_never_zero, tick_never_zero, end_never_zero)

-- ---- what is said reads back

release_reads_back : (a : Result Accepted Refusal) → release_read (release_said (release_says a)) ≡ release_says a
release_reads_back (Ok a) = refl
release_reads_back (Err r) = rw (ne_eqb (refusal_number r) 34 (λ e. omega (arith, no_refusal_from_33_on r)))

ran_reads_back : (f : Finished) (serial late : ℕ)
    → tick_read (record { number = ran_status (has_finished f); first = serial; second = late }) ≡ ran serial (has_finished f)
ran_reads_back finished.Yes serial late = refl
ran_reads_back finished.No serial late = refl

tick_reads_back : (a : Ticked) (late : ℕ) → tick_read (tick_said (tick_says a) late) ≡ tick_says a
tick_reads_back tick.Idle late = refl
tick_reads_back (tick.Ran r) late = ran_reads_back r.finished r.serial.0 late
tick_reads_back tick.Taken late = refl
tick_reads_back (tick.Refused r) late =
    let low = no_refusal_from_33_on r in
    rw (
      ne_eqb (refusal_number r) 35 (λ e. omega (arith, low)),
      ne_eqb (refusal_number r) 36 (λ e. omega (arith, low)),
      ne_eqb (refusal_number r) 37 (λ e. omega (arith, low)),
      ne_eqb (refusal_number r) 38 (λ e. omega (arith, low)),
    )

end_reads_back : (a : Result ℕ Refusal) → end_read (end_said (end_says a)) ≡ end_says a
end_reads_back (Ok n) = refl
end_reads_back (Err r) = rw (ne_eqb (refusal_number r) 39 (λ e. omega (arith, no_refusal_from_33_on r)))

pub live_reads_back : LiveReadsBack
live_reads_back = (release_reads_back, tick_reads_back, end_reads_back)

-- The status of a tick in which a job had the unit is 36 or 37, so its late count is read.
ran_late : (f : Finished) (late : ℕ) → cond (leb 36 (ran_status (has_finished f)) && leb (ran_status (has_finished f)) 38) late 0 ≡ late
ran_late finished.Yes late = refl
ran_late finished.No late = refl

pub late_reads_back : LateReadsBack
late_reads_back tick.Idle late of_idle of_refused = sym (of_idle refl)
late_reads_back (tick.Ran r) late of_idle of_refused = ran_late r.finished late
late_reads_back tick.Taken late of_idle of_refused = refl
late_reads_back (tick.Refused r) late of_idle of_refused =
    rw (lt-leb 36 (refusal_number r) (omega (arith, no_refusal_from_33_on r))) (sym (of_refused (refusal_number r) 0 refl))

-- ---- 33 means that the table is accepted

pub start_is_said : StartIsSaid
start_is_said = (refl, λ r place. refl)

pub started_means : StartedMeans
started_means (Ok done) = (λ e. refl, λ e. refl)
started_means (Err r) = (
  λ e. absurd (omega (arith, no_refusal_from_33_on r.refusal)),
  λ e. absurd (let z : ◌≡◌ {A = ℕ} 0 1 = cc in omega arith),
)
