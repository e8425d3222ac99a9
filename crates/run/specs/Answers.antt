-- What the answers of start, release, tick and end say: each case with its number and values. (docs/RULES.md, sections 6 and 10.)
use Rattle.run.specs.declared.Accepted.{Accepted}
use Rattle.kinds.specs.declared.RefusedAt.{RefusedAt}
use Rattle.std.specs.Prelude.{ℕ, ◌≤◌, ◌≡◌, Bool, true, false, [], Result, Ok, Err}
use Rattle.kinds.specs.Numbering.{Says, numbered, values, refusal_number, refused_says, NeverNumberedZero, SaysApart, refused_with}
use Rattle.kinds.specs.declared.Refusal.{Refusal}
use Rattle.jobs.specs.declared.Finished.TheVariants as finished
use Rattle.jobs.specs.Answers.{has_finished, ran_as}
use Rattle.run.specs.declared.Ticked.{Ticked}
use Rattle.run.specs.declared.Ticked.TheVariants as tick

-- What the answer of a start says: no value where the run is ready, and otherwise the table's refusal with its place. (1.17, 6.4)
abbrev pub start_says : Result (Unit {0}) RefusedAt → Says
start_says (Ok done) = values []
start_says (Err r) = numbered (refused_says r)

-- What a release can say: the job's serial and due time, or a refusal's number and place. (1.17, 6.6, 6.8)
pub data ReleaseSays : Type 0 where
  accepted : (serial due : ℕ) → ReleaseSays
  refused : (number place : ℕ) → ReleaseSays

-- What each answer of a release says. Its refusals name no place, so the place is 0. (1.17, 10.2)
abbrev pub release_says : Result Accepted Refusal → ReleaseSays
release_says (Ok a) = accepted a.serial.0 a.due.0
release_says (Err r) = refused (refusal_number r) 0

-- What a tick can say: that it was idle, the serial of the job that had the unit and whether it finished, that it was taken, or a refusal's number and place.
-- (1.17, 6.12, 6.16)
pub data TickSays : Type 0 where
  idle : TickSays
  ran : (serial : ℕ) (finished : Bool) → TickSays
  taken : TickSays
  refused : (number place : ℕ) → TickSays

-- What each answer of a tick says. Its refusals name no place, so the place is 0. (1.17, 10.2)
abbrev pub tick_says : Ticked → TickSays
tick_says tick.Idle = idle
tick_says (tick.Ran r) = ran r.serial.0 (has_finished r.finished)
tick_says tick.Taken = taken
tick_says (tick.Refused r) = refused (refusal_number r) 0

-- What an end can say: the units that the job was given so far, or a refusal's number and place. (1.17, 6.27, 6.30)
pub data EndingSays : Type 0 where
  ended_with : (units : ℕ) → EndingSays
  refused : (number place : ℕ) → EndingSays

-- What each answer of an end says. Its refusals name no place, so the place is 0. (1.17, 10.2)
abbrev pub end_says : Result ℕ Refusal → EndingSays
end_says (Ok n) = ended_with n
end_says (Err r) = refused (refusal_number r) 0

-- ---- what is proved (proofs/Answers.antt)

-- No answer of start, release, tick or end is numbered 0. (1.16)
abbrev pub RunsNeverZero : Type 0
RunsNeverZero =
    NeverNumberedZero start_says
    × ((a : Result Accepted Refusal) (number place : ℕ) → release_says a ≡ ReleaseSays.refused number place → 1 ≤ number)
    × ((a : Ticked) (number place : ℕ) → tick_says a ≡ TickSays.refused number place → 1 ≤ number)
    × ((a : Result ℕ Refusal) (number place : ℕ) → end_says a ≡ EndingSays.refused number place → 1 ≤ number)

-- Different answers of a start say different things, and so do different answers of a release, of a tick and of an end.
abbrev pub RunsSaidApart : Type 0
RunsSaidApart =
    SaysApart start_says
    × ((a b : Result Accepted Refusal) → release_says a ≡ release_says b → a ≡ b)
    × ((a b : Ticked) → tick_says a ≡ tick_says b → a ≡ b)
    × ((a b : Result ℕ Refusal) → end_says a ≡ end_says b → a ≡ b)

-- A start that is ready has no value to say. (6.4)
abbrev pub StartReadySays : Type 0
StartReadySays = start_says (Ok tt) ≡ values []

-- A start that is refused says the table's refusal: its number, its place and 0. (6.4)
abbrev pub StartRefusedSays : Type 0
StartRefusedSays = (r : Refusal) (place : ℕ)
    → start_says (Err (record { refusal = r; place = place })) ≡ refused_with (refusal_number r) place

-- An accepted release says the job's serial and its due time. (6.6)
abbrev pub ReleaseAcceptedSays : Type 0
ReleaseAcceptedSays = (serial due : ℕ)
    → release_says (Ok (record { serial = record { 0 = serial }; due = record { 0 = due } })) ≡ accepted serial due

-- A refused release says the refusal's number, at place 0. (6.8, 10.2)
abbrev pub ReleaseRefusedSays : Type 0
ReleaseRefusedSays = (r : Refusal) → release_says (Err r) ≡ ReleaseSays.refused (refusal_number r) 0

-- An idle tick says that it was idle. (6.12)
abbrev pub IdleTickSays : Type 0
IdleTickSays = tick_says tick.Idle ≡ idle

-- A taken tick says that it was taken. (6.12)
abbrev pub TakenTickSays : Type 0
TakenTickSays = tick_says tick.Taken ≡ taken

-- A tick that finishes a job says the job's serial, and that it finished. (6.12)
abbrev pub FinishedTickSays : Type 0
FinishedTickSays = (serial : ℕ) → tick_says (tick.Ran (ran_as serial finished.Yes)) ≡ ran serial true

-- A tick that gives a job a unit and leaves it unfinished says the job's serial, and that it did not finish. (6.12)
abbrev pub RanTickSays : Type 0
RanTickSays = (serial : ℕ) → tick_says (tick.Ran (ran_as serial finished.No)) ≡ ran serial false

-- A refused tick says the refusal's number, at place 0. (6.16, 10.2)
abbrev pub TickRefusedSays : Type 0
TickRefusedSays = (r : Refusal) → tick_says (tick.Refused r) ≡ TickSays.refused (refusal_number r) 0

-- An end that is done says the units that the job was given. (6.27)
abbrev pub EndingDoneSays : Type 0
EndingDoneSays = (units : ℕ) → end_says (Ok units) ≡ ended_with units

-- A refused end says the refusal's number and place 0. (10.2)
abbrev pub EndingRefusedSays : Type 0
EndingRefusedSays = (r : Refusal) → end_says (Err r) ≡ EndingSays.refused (refusal_number r) 0
