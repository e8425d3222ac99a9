-- What each call on pending jobs says, in each of its cases.
use mathlib.Core.Path.{refl, sym}
use mathlib.Core.List.{[], ◌∷◌}
use native.Mathlib.Omega.{arith}
use borrow.Author.Tests.{lt-ltb, le-ltb, le-leb, lt-leb}
use Rattle.kinds.specs.Numbering.{values}
use Rattle.jobs.specs.declared.Job.{Job}
use Rattle.jobs.specs.Places.{max_places, jobs_of, used, put, put_step, take_step}
use Rattle.jobs.specs.Choice.{first_place}
use Rattle.jobs.specs.Units.{ran_of, given}
use Rattle.jobs.specs.Answers.{ran_values}
use Rattle.jobs.specs.CallLaws.{ChoiceSaysNobody, ChoiceSaysPlace, GiveSaysJob, GiveSaysNobody, PutIsDone, PutIsRefused, TakeSaysJob, TakeSaysNobody, TickIsGiven, TickIsIdle}
use Rattle.jobs.specs.JobChanges.{UnitSaid}
use Rattle.jobs.proofs.Places.{nothing_taken_out}
use Rattle.jobs.proofs.Changes.{place_holds_job, first_is_there, after_a_unit}
use Rattle.jobs.proofs.Turns.{turned_idle, turned_busy}

pub put_is_done : PutIsDone
unfolding put_step
put_is_done p j h = rw (lt-ltb p.count max_places h)

pub put_is_refused : PutIsRefused
unfolding put_step put
put_is_refused p j h = rw (le-ltb p.count max_places h) (refl, refl)

pub choice_says_place : ChoiceSaysPlace
choice_says_place [] h = absurd (omega arith)
choice_says_place (j ∷ js) h = refl

pub choice_says_nobody : ChoiceSaysNobody
choice_says_nobody = refl

pub take_says_job : TakeSaysJob
unfolding take_step
take_says_job p at h = rw (lt-ltb at (used p) h, place_holds_job p at h)

pub take_says_nobody : TakeSaysNobody
unfolding take_step
take_says_nobody p at h = (rw (le-ltb at (used p) h), sym (nothing_taken_out p at h))

-- For a job that gets a unit, its serial is said, and whether it finished.
unit_said : (j : Job) → UnitSaid j (values (ran_values (ran_of j)))
unit_said j = record { last = λ h. rw (le-leb j.left 1 h); more = λ h. rw (lt-leb j.left 1 h) }

pub give_says_job : GiveSaysJob
unfolding given
give_says_job p at h = rw (lt-ltb at (used p) h, place_holds_job p at h) (unit_said _)

pub give_says_nobody : GiveSaysNobody
unfolding given
give_says_nobody p at h = rw (le-ltb at (used p) h) (refl, refl)

pub tick_is_idle : TickIsIdle
tick_is_idle p clock e = rw (turned_idle p clock e) (record { pending = refl; said = refl; late = refl })

pub tick_is_given : TickIsGiven
tick_is_given p clock h =
    let there = first_is_there p h in
    rw (turned_busy p clock h)
    (record {
      jobs = after_a_unit p (first_place (jobs_of p)) there;
      said = rw (place_holds_job p (first_place (jobs_of p)) there) (unit_said _);
      late = refl;
    })
