-- What the answers about pending jobs say, in the rules' own terms. Only putting a job in can be refused, and then says the refusal's number. (docs/RULES.md,
-- section 6.)
use Rattle.std.specs.Prelude.{ℕ, ◌≡◌, Bool, true, false, cond, List, [], ◌∷◌, Option, Some, None, Result, Ok, Err}
use Rattle.kinds.specs.Numbering.{Says, numbered, values, refusal_number, refused_says, without_place, NeverNumberedZero, SaysApart, refused_with}
use Rattle.kinds.specs.declared.Refusal.{Refusal}
use Rattle.jobs.specs.declared.Job.{Job}
use Rattle.jobs.specs.declared.Finished.{Finished}
use Rattle.jobs.specs.declared.Finished.TheVariants as finished
use Rattle.jobs.specs.declared.Ran.{Ran}

-- `has_finished` tells whether a job that had a unit has finished. (6.13)
abbrev pub has_finished : Finished → Bool
has_finished finished.Yes = true
has_finished finished.No = false

-- For a job that had a unit, its serial is said, and 1 if it finished or 0 if it did not. (6.12)
abbrev pub ran_values : Ran → List ℕ
ran_values r = r.serial.0 ∷ cond (has_finished r.finished) 1 0 ∷ []

-- For a job, all that it holds is said: serial, row, release, due time, stated cost and units left. (6.1)
abbrev pub job_values : Job → List ℕ
job_values j = j.serial.0 ∷ j.row.0 ∷ j.release.0 ∷ j.due.0 ∷ j.cost ∷ j.left ∷ []

-- A tick says which job had the unit, and says no value if it was idle. (6.12)
abbrev pub turn_says : Option Ran → Says
turn_says None = values []
turn_says (Some r) = values (ran_values r)

-- A choice says the place of the job that goes first, and says no value if no job is pending. (6.11)
abbrev pub choice_says : Option ℕ → Says
choice_says (Some at) = values (at ∷ [])
choice_says None = values []

-- Putting a job in says no value. If it is refused, it says the refusal, at place 0, since no place is named. (6.8, 10.2, 10.7)
abbrev pub put_says : Result (Unit {0}) Refusal → Says
put_says (Ok _) = values []
put_says (Err r) = numbered (refused_says (without_place r))

-- Taking a job out says the job, and says no value if nobody is pending at the place. (6.13, 10.7)
abbrev pub take_says : Option Job → Says
take_says (Some j) = values (job_values j)
take_says None = values []

-- Giving a unit says which job had it, and says no value if nobody is pending at the place. (6.12, 10.7)
abbrev pub give_says : Option Ran → Says
give_says (Some r) = values (ran_values r)
give_says None = values []

-- ---- what is proved (proofs/Answers.antt)

-- Different answers about pending jobs say different things.
abbrev pub JobsSaidApart : Type 0
JobsSaidApart = SaysApart turn_says × SaysApart choice_says × SaysApart put_says × SaysApart take_says × SaysApart give_says

-- No answer about pending jobs has the number 0. (1.16)
abbrev pub JobsNeverZero : Type 0
JobsNeverZero =
    NeverNumberedZero turn_says × NeverNumberedZero choice_says × NeverNumberedZero put_says × NeverNumberedZero take_says × NeverNumberedZero give_says

-- `ran_as` is the answer for a job that had a unit: its serial, and whether it finished. (6.12)
abbrev pub ran_as : (serial : ℕ) → Finished → Ran
ran_as serial f = record { serial = record { 0 = serial }; finished = f }

-- An idle tick says no value. (6.12)
abbrev pub IdleSays : Type 0
IdleSays = turn_says None ≡ values []

-- A tick that finishes a job says the job's serial and 1. (6.12)
abbrev pub TurnFinishedSays : Type 0
TurnFinishedSays = (serial : ℕ) → turn_says (Some (ran_as serial finished.Yes)) ≡ values (serial ∷ 1 ∷ [])

-- A tick that leaves its job unfinished says the job's serial and 0. (6.12)
abbrev pub TurnRanSays : Type 0
TurnRanSays = (serial : ℕ) → turn_says (Some (ran_as serial finished.No)) ≡ values (serial ∷ 0 ∷ [])

-- A choice says the place of the job that goes first. (6.11)
abbrev pub PlaceSays : Type 0
PlaceSays = (at : ℕ) → choice_says (Some at) ≡ values (at ∷ [])

-- A choice says no value if nobody is pending. (6.11)
abbrev pub NobodyChosenSays : Type 0
NobodyChosenSays = choice_says None ≡ values []

-- Putting a job in says no value if it is done. (6.7)
abbrev pub PutDoneSays : Type 0
PutDoneSays = put_says (Ok tt) ≡ values []

-- Putting a job in says the refusal's number, at place 0, if it is refused. (10.2)
abbrev pub PutRefusedSays : Type 0
PutRefusedSays = (r : Refusal) → put_says (Err r) ≡ refused_with (refusal_number r) 0

-- Taking a job out says all that the job holds. (6.1)
abbrev pub TakenSays : Type 0
TakenSays = (j : Job) → take_says (Some j) ≡ values (j.serial.0 ∷ j.row.0 ∷ j.release.0 ∷ j.due.0 ∷ j.cost ∷ j.left ∷ [])

-- Taking a job out says no value if nobody is pending at the place. (10.7)
abbrev pub NobodyTakenSays : Type 0
NobodyTakenSays = take_says None ≡ values []

-- Giving a unit that finishes a job says the job's serial and 1. (6.12)
abbrev pub GivenFinishedSays : Type 0
GivenFinishedSays = (serial : ℕ) → give_says (Some (ran_as serial finished.Yes)) ≡ values (serial ∷ 1 ∷ [])

-- Giving a unit that leaves its job unfinished says the job's serial and 0. (6.12)
abbrev pub GivenRanSays : Type 0
GivenRanSays = (serial : ℕ) → give_says (Some (ran_as serial finished.No)) ≡ values (serial ∷ 0 ∷ [])

-- Giving a unit says no value if nobody is pending at the place. (10.7)
abbrev pub NobodyGivenSays : Type 0
NobodyGivenSays = give_says None ≡ values []
