-- What each answer about due times says. None has the number 0, and different answers say different things.
use mathlib.Core.Path.{◌≡◌, refl, ap}
use Rattle.std.specs.Prelude.{Ok, Err}
use Rattle.kinds.specs.Numbering.{NeverNumberedZero, SaysApart}
use Rattle.kinds.proofs.Apart.{impossible}
use Rattle.kinds.proofs.Numbering.{never_zero, plain_refusals_apart}
use Rattle.due.specs.Answers.{due_says, keep_says, DueGivenSays, DueRefusedSays, KeepDoneSays, KeepRefusedSays, DuesNeverZero, DuesSaidApart}

pub due_given_says : DueGivenSays
due_given_says t = refl

pub due_refused_says : DueRefusedSays
due_refused_says r = refl

pub keep_done_says : KeepDoneSays
keep_done_says = refl

pub keep_refused_says : KeepRefusedSays
keep_refused_says r = refl

due_never_zero : NeverNumberedZero due_says
due_never_zero (Ok t) = tt
due_never_zero (Err r) = never_zero r

keep_never_zero : NeverNumberedZero keep_says
keep_never_zero (Ok _) = tt
keep_never_zero (Err r) = never_zero r

pub dues_never_zero : DuesNeverZero
dues_never_zero = (due_never_zero, keep_never_zero)

due_said_apart : SaysApart due_says
due_said_apart (Ok t) (Ok u) e = let time : t.0 ≡ u.0 = cc in ap (λ n. Ok (record { 0 = n })) time
due_said_apart (Ok t) (Err r) e = impossible cc
due_said_apart (Err q) (Ok u) e = impossible cc
due_said_apart (Err q) (Err r) e = ap Err (plain_refusals_apart q r e)

keep_said_apart : SaysApart keep_says
keep_said_apart (Ok _) (Ok _) e = refl
keep_said_apart (Ok _) (Err r) e = impossible cc
keep_said_apart (Err q) (Ok _) e = impossible cc
keep_said_apart (Err q) (Err r) e = ap Err (plain_refusals_apart q r e)

pub dues_said_apart : DuesSaidApart
dues_said_apart = (due_said_apart, keep_said_apart)
