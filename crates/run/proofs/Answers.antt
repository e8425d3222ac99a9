-- No answer of start, release, tick or end is numbered 0, different answers say different things, and each answer says what the laws state.
use Rattle.std.specs.Prelude.{Result, Ok, Err}
use Rattle.kinds.specs.declared.Refusal.{Refusal}
use Rattle.run.specs.declared.Accepted.{Accepted}
use Prim.Native.Nat.{ℕ, ◌≤◌}
use mathlib.Core.Path.{◌≡◌, refl, sym, ap, ap₂}
use Rattle.kinds.specs.Numbering.{refusal_number, NeverNumberedZero, SaysApart}
use Rattle.kinds.proofs.Apart.{impossible}
use Rattle.kinds.proofs.Numbering.{numbers_differ, never_zero, refusals_apart}
use Rattle.jobs.specs.declared.Finished.{Finished}
use Rattle.jobs.proofs.Answers.{finished_apart}
use Rattle.run.specs.declared.Ticked.{Ticked}
use Rattle.run.specs.declared.Ticked.TheVariants as tick
use Rattle.run.specs.Answers.{start_says, ReleaseSays, release_says, TickSays, tick_says, EndingSays, end_says, RunsNeverZero, RunsSaidApart}
use Rattle.run.specs.Answers as says

start_never_zero : NeverNumberedZero start_says
start_never_zero (Ok done) = tt
start_never_zero (Err r) = never_zero r.refusal

release_never_zero : (a : Result Accepted Refusal) (number place : ℕ) → release_says a ≡ ReleaseSays.refused number place → 1 ≤ number
release_never_zero (Ok a) number place e = impossible cc
release_never_zero (Err r) number place e = let its : refusal_number r ≡ number = cc in rw (sym its) (never_zero r)

tick_never_zero : (a : Ticked) (number place : ℕ) → tick_says a ≡ TickSays.refused number place → 1 ≤ number
tick_never_zero tick.Idle number place e = impossible cc
tick_never_zero (tick.Ran r) number place e = impossible cc
tick_never_zero tick.Taken number place e = impossible cc
tick_never_zero (tick.Refused r) number place e = let its : refusal_number r ≡ number = cc in rw (sym its) (never_zero r)

end_never_zero : (a : Result ℕ Refusal) (number place : ℕ) → end_says a ≡ EndingSays.refused number place → 1 ≤ number
end_never_zero (Ok n) number place e = impossible cc
end_never_zero (Err r) number place e = let its : refusal_number r ≡ number = cc in rw (sym its) (never_zero r)

pub runs_never_zero : RunsNeverZero
runs_never_zero = (start_never_zero, release_never_zero, tick_never_zero, end_never_zero)

start_apart : SaysApart start_says
start_apart (Ok done) (Ok again) e = refl
start_apart (Ok done) (Err r) e = impossible cc
start_apart (Err q) (Ok done) e = impossible cc
start_apart (Err q) (Err r) e = ap Err (refusals_apart q r e)

release_apart : (a b : Result Accepted Refusal) → release_says a ≡ release_says b → a ≡ b
release_apart (Ok a) (Ok b) e =
    let serial : a.serial.0 ≡ b.serial.0 = cc in
    let due : a.due.0 ≡ b.due.0 = cc in
    ap₂ (λ (s d : ℕ). Ok (record { serial = record { 0 = s }; due = record { 0 = d } })) serial due
release_apart (Ok a) (Err r) e = impossible cc
release_apart (Err q) (Ok b) e = impossible cc
release_apart (Err q) (Err r) e = ap Err (numbers_differ q r cc)

tick_apart : (a b : Ticked) → tick_says a ≡ tick_says b → a ≡ b
tick_apart tick.Idle tick.Idle e = refl
tick_apart tick.Idle (tick.Ran r) e = impossible cc
tick_apart tick.Idle (tick.Refused r) e = impossible cc
tick_apart tick.Idle tick.Taken e = impossible cc
tick_apart (tick.Ran q) tick.Idle e = impossible cc
tick_apart (tick.Ran q) (tick.Ran r) e =
    let serial : q.serial.0 ≡ r.serial.0 = cc in
    ap₂ (λ (s : ℕ) (f : Finished). tick.Ran (record { serial = record { 0 = s }; finished = f })) serial (finished_apart q.finished r.finished cc)
tick_apart (tick.Ran q) (tick.Refused r) e = impossible cc
tick_apart (tick.Ran q) tick.Taken e = impossible cc
tick_apart (tick.Refused q) tick.Idle e = impossible cc
tick_apart (tick.Refused q) (tick.Ran r) e = impossible cc
tick_apart (tick.Refused q) (tick.Refused r) e = ap tick.Refused (numbers_differ q r cc)
tick_apart (tick.Refused q) tick.Taken e = impossible cc
tick_apart tick.Taken tick.Idle e = impossible cc
tick_apart tick.Taken (tick.Ran r) e = impossible cc
tick_apart tick.Taken (tick.Refused r) e = impossible cc
tick_apart tick.Taken tick.Taken e = refl

end_apart : (a b : Result ℕ Refusal) → end_says a ≡ end_says b → a ≡ b
end_apart (Ok m) (Ok n) e = let units : m ≡ n = cc in ap Ok units
end_apart (Ok m) (Err r) e = impossible cc
end_apart (Err q) (Ok n) e = impossible cc
end_apart (Err q) (Err r) e = ap Err (numbers_differ q r cc)

pub runs_said_apart : RunsSaidApart
runs_said_apart = (start_apart, release_apart, tick_apart, end_apart)

-- ---- what each answer says

pub start_ready_says : says.StartReadySays
start_ready_says = refl

pub start_refused_says : says.StartRefusedSays
start_refused_says r place = refl

pub release_accepted_says : says.ReleaseAcceptedSays
release_accepted_says serial due = refl

pub release_refused_says : says.ReleaseRefusedSays
release_refused_says r = refl

pub idle_tick_says : says.IdleTickSays
idle_tick_says = refl

pub taken_tick_says : says.TakenTickSays
taken_tick_says = refl

pub finished_tick_says : says.FinishedTickSays
finished_tick_says serial = refl

pub ran_tick_says : says.RanTickSays
ran_tick_says serial = refl

pub tick_refused_says : says.TickRefusedSays
tick_refused_says r = refl

pub ending_done_says : says.EndingDoneSays
ending_done_says units = refl

pub ending_refused_says : says.EndingRefusedSays
ending_refused_says r = refl
