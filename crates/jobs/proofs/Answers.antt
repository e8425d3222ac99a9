-- What each answer about pending jobs says. None has the number 0, and different answers say different things.
use Rattle.std.specs.Prelude.{Some, None, Ok, Err}
use Prim.Native.Nat.{ℕ}
use mathlib.Core.Path.{◌≡◌, refl, ap, ap₂}
use mathlib.Core.Bool.{Bool, true, false, cond}
use native.Mathlib.Omega.{arith}
use Rattle.kinds.specs.Numbering.{values, NeverNumberedZero, SaysApart}
use Rattle.kinds.proofs.Apart.{impossible}
use Rattle.kinds.proofs.Numbering.{never_zero, plain_refusals_apart}
use Rattle.jobs.specs.declared.Job.{Job}
use Rattle.jobs.specs.declared.Finished.{Finished}
use Rattle.jobs.specs.declared.Finished.TheVariants as finished
use Rattle.jobs.specs.declared.Ran.{Ran}
use Rattle.jobs.specs.Answers as says
use Rattle.jobs.specs.Answers.{has_finished, ran_values, job_values, ran_as, turn_says, choice_says, put_says, take_says, give_says}

-- ---- different answers say different things

-- A job that finished and one that did not are told apart.
pub finished_apart : (a b : Finished) → has_finished a ≡ has_finished b → a ≡ b
finished_apart finished.Yes finished.Yes e = refl
finished_apart finished.Yes finished.No e = impossible cc
finished_apart finished.No finished.Yes e = impossible cc
finished_apart finished.No finished.No e = refl

-- A job that finished says 1 and one that did not says 0, so these numbers tell the two apart.
bool_apart : (a b : Bool) → ◌≡◌ {A = ℕ} (cond a 1 0) (cond b 1 0) → a ≡ b
bool_apart true true e = refl
bool_apart true false e = absurd (omega arith)
bool_apart false true e = absurd (omega arith)
bool_apart false false e = refl

-- Jobs that had a unit are told apart by what is said about them.
ran_apart : (q r : Ran) → values (ran_values q) ≡ values (ran_values r) → q ≡ r
ran_apart q r e =
    let serial : q.serial.0 ≡ r.serial.0 = cc in
    ap₂ ran_as serial (finished_apart q.finished r.finished (bool_apart (has_finished q.finished) (has_finished r.finished) cc))

-- Jobs are told apart by what they hold.
job_apart : (i j : Job) → values (job_values i) ≡ values (job_values j) → i ≡ j
job_apart i j e =
    let serial : i.serial.0 ≡ j.serial.0 = cc in
    let row : i.row.0 ≡ j.row.0 = cc in
    let release : i.release.0 ≡ j.release.0 = cc in
    let due : i.due.0 ≡ j.due.0 = cc in
    let cost : i.cost ≡ j.cost = cc in
    let left : i.left ≡ j.left = cc in
    rw (← serial, ← row, ← release, ← due, ← cost, ← left)

turns_apart : SaysApart turn_says
turns_apart None None e = refl
turns_apart None (Some r) e = impossible cc
turns_apart (Some q) None e = impossible cc
turns_apart (Some q) (Some r) e = ap Some (ran_apart q r e)

choices_apart : SaysApart choice_says
choices_apart (Some p) (Some q) e = let same : p ≡ q = cc in ap Some same
choices_apart (Some p) None e = impossible cc
choices_apart None (Some q) e = impossible cc
choices_apart None None e = refl

puts_apart : SaysApart put_says
puts_apart (Ok _) (Ok _) e = refl
puts_apart (Ok _) (Err r) e = impossible cc
puts_apart (Err q) (Ok _) e = impossible cc
puts_apart (Err q) (Err r) e = ap Err (plain_refusals_apart q r e)

takes_apart : SaysApart take_says
takes_apart (Some i) (Some j) e = ap Some (job_apart i j e)
takes_apart (Some i) None e = impossible cc
takes_apart None (Some j) e = impossible cc
takes_apart None None e = refl

gives_apart : SaysApart give_says
gives_apart (Some q) (Some r) e = ap Some (ran_apart q r e)
gives_apart (Some q) None e = impossible cc
gives_apart None (Some r) e = impossible cc
gives_apart None None e = refl

pub jobs_said_apart : says.JobsSaidApart
jobs_said_apart = (turns_apart, choices_apart, puts_apart, takes_apart, gives_apart)

-- ---- no answer is numbered 0

turn_never_zero : NeverNumberedZero turn_says
turn_never_zero None = tt
turn_never_zero (Some r) = tt

choice_never_zero : NeverNumberedZero choice_says
choice_never_zero (Some at) = tt
choice_never_zero None = tt

put_never_zero : NeverNumberedZero put_says
put_never_zero (Ok _) = tt
put_never_zero (Err r) = never_zero r

take_never_zero : NeverNumberedZero take_says
take_never_zero (Some j) = tt
take_never_zero None = tt

give_never_zero : NeverNumberedZero give_says
give_never_zero (Some r) = tt
give_never_zero None = tt

pub jobs_never_zero : says.JobsNeverZero
jobs_never_zero = (turn_never_zero, choice_never_zero, put_never_zero, take_never_zero, give_never_zero)

-- ---- what each answer says

pub idle_says : says.IdleSays
idle_says = refl

pub turn_finished_says : says.TurnFinishedSays
turn_finished_says serial = refl

pub turn_ran_says : says.TurnRanSays
turn_ran_says serial = refl

pub place_says : says.PlaceSays
place_says at = refl

pub nobody_chosen_says : says.NobodyChosenSays
nobody_chosen_says = refl

pub put_done_says : says.PutDoneSays
put_done_says = refl

pub put_refused_says : says.PutRefusedSays
put_refused_says r = refl

pub taken_says : says.TakenSays
taken_says j = refl

pub nobody_taken_says : says.NobodyTakenSays
nobody_taken_says = refl

pub given_finished_says : says.GivenFinishedSays
given_finished_says serial = refl

pub given_ran_says : says.GivenRanSays
given_ran_says serial = refl

pub nobody_given_says : says.NobodyGivenSays
nobody_given_says = refl
