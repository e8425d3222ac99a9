-- The statuses that the host is told, and what the calls on a live run say: a status, and two numbers beside it. (docs/RULES.md, 1.15 and 9.12.)
use Rattle.run.specs.declared.Accepted.{Accepted}
use Rattle.kinds.specs.declared.RefusedAt.{RefusedAt}
use Rattle.std.specs.Prelude.{ℕ, ◌≤◌, ◌<◌, ◌≡◌, ◌↔◌, Bool, true, false, cond, ◌&&◌, eqb, leb, Result, Ok, Err}
use Rattle.kinds.specs.Numbering.{Said, refusal_number, refusal_at, refused_says}
use Rattle.kinds.specs.declared.Refusal.{Refusal}
use Rattle.run.specs.declared.Ticked.{Ticked}
use Rattle.run.specs.Answers.{ReleaseSays, accepted, release_says, TickSays, idle, ran, taken, tick_says, EndingSays, ended_with, end_says}
use Rattle.run.specs.Answers as says
use Rattle.live.specs.declared.Saying.{Saying}
use Rattle.live.specs.declared.Status.{Status}
use Rattle.live.specs.declared.Status.TheVariants as status

-- The number of each status that is no refusal. (1.15, 9.12)
abbrev pub status_number : Status → ℕ
status_number status.Feasible = 20
status_number status.Overloaded = 21
status_number status.InTime = 22
status_number status.Late = 23
status_number status.Started = 33
status_number status.Accepted = 34
status_number status.Idle = 35
status_number status.Ran = 36
status_number status.Finished = 37
status_number status.Taken = 38
status_number status.Ended = 39

-- The status and the two numbers that the code hands on.
abbrev pub as_said : Saying → Said
as_said s = record { number = s.number; first = s.first; second = s.second }

-- A start says 33, 0 and 0, or the table's refusal with its place. (9.10, 9.12)
abbrev pub start_said : Result (Unit {0}) RefusedAt → Said
start_said (Ok done) = record { number = 33; first = 0; second = 0 }
start_said (Err r) = refused_says r

-- A release says 34, the job's serial and its due time, or its refusal. (9.12)
abbrev pub release_said : ReleaseSays → Said
release_said (accepted serial due) = record { number = 34; first = serial; second = due }
release_said (says.ReleaseSays.refused number place) = refusal_at number place

-- The status of a tick in which a job had the unit: 37 where the job finished, and 36 where it did not. (9.12)
abbrev pub ran_status : (finished : Bool) → ℕ
ran_status true = 37
ran_status false = 36

-- A tick says 35, 0 and 0 where it was idle; 36 or 37, the job's serial and the late count where a job had the unit; 38, 0 and the late count where it was
-- taken; or its refusal. (9.12)
abbrev pub tick_said : TickSays → (late : ℕ) → Said
tick_said idle late = record { number = 35; first = 0; second = 0 }
tick_said (ran serial finished) late = record { number = ran_status finished; first = serial; second = late }
tick_said taken late = record { number = 38; first = 0; second = late }
tick_said (says.TickSays.refused number place) late = refusal_at number place

-- An end says 39, the units that the job was given and 0, or its refusal. (9.12)
abbrev pub end_said : EndingSays → Said
end_said (ended_with units) = record { number = 39; first = units; second = 0 }
end_said (says.EndingSays.refused number place) = refusal_at number place

-- ---- what the host reads from a status and its two numbers

-- What a release said: with 34 it was accepted, and any other status is a refusal. (9.12)
abbrev pub release_read : Said → ReleaseSays
release_read s = cond (eqb s.number 34) (accepted s.first s.second) (says.ReleaseSays.refused s.number s.first)

-- What a tick said, by the statuses 35 to 38. Any other status is a refusal. (9.12)
abbrev pub tick_read : Said → TickSays
tick_read s =
    cond (eqb s.number 35) idle
    (cond (eqb s.number 36) (ran s.first false)
    (cond (eqb s.number 37) (ran s.first true)
    (cond (eqb s.number 38) taken (says.TickSays.refused s.number s.first))))

-- The late count of a tick: the second number beside 36, 37 and 38, and 0 beside any other status. (6.14, 9.12)
abbrev pub late_read : Said → ℕ
late_read s = cond (leb 36 s.number && leb s.number 38) s.second 0

-- What an end said: with 39 it was done, and any other status is a refusal. (9.12)
abbrev pub end_read : Said → EndingSays
end_read s = cond (eqb s.number 39) (ended_with s.first) (says.EndingSays.refused s.number s.first)

-- ---- what is proved (proofs/Statuses.antt)

-- No refusal has a number from 33 to 39. (1.15, 10.3)
abbrev pub NoRefusalFrom33On : Type 0
NoRefusalFrom33On = (r : Refusal) → refusal_number r < 33

-- A start that is ready says 33, 0 and 0. One that is refused says the table's refusal: its number, its place and 0. (9.12)
abbrev pub StartIsSaid : Type 0
StartIsSaid =
    (start_said (Ok tt) ≡ record { number = 33; first = 0; second = 0 })
    × ((r : Refusal) (place : ℕ) → start_said (Err (record { refusal = r; place = place })) ≡ refusal_at (refusal_number r) place)

-- No call on a live run says the status 0. (1.16)
abbrev pub LiveNeverZero : Type 0
LiveNeverZero =
    ((a : Result (Unit {0}) RefusedAt) → 1 ≤ (start_said a).number)
    × ((a : Result Accepted Refusal) → 1 ≤ (release_said (release_says a)).number)
    × ((a : Ticked) (late : ℕ) → 1 ≤ (tick_said (tick_says a) late).number)
    × ((a : Result ℕ Refusal) → 1 ≤ (end_said (end_says a)).number)

-- What a release, a tick or an end says reads back as the answer of the run's own call. So different answers say different things. (1.17, 9.12)
abbrev pub LiveReadsBack : Type 0
LiveReadsBack =
    ((a : Result Accepted Refusal) → release_read (release_said (release_says a)) ≡ release_says a)
    × ((a : Ticked) (late : ℕ) → tick_read (tick_said (tick_says a) late) ≡ tick_says a)
    × ((a : Result ℕ Refusal) → end_read (end_said (end_says a)) ≡ end_says a)

-- The late count of a tick reads back, where it is 0 beside idle and beside a refusal, as 6.14 says. (6.14, 9.12)
abbrev pub LateReadsBack : Type 0
LateReadsBack = (a : Ticked) (late : ℕ) → (tick_says a ≡ idle → late ≡ 0) → ((n place : ℕ) → tick_says a ≡ says.TickSays.refused n place → late ≡ 0)
    → late_read (tick_said (tick_says a) late) ≡ late

-- A start says 33 exactly where the table is accepted. (9.10, 9.12)
abbrev pub StartedMeans : Type 0
StartedMeans = (a : Result (Unit {0}) RefusedAt) → ((start_said a).number ≡ 33) ↔ (a ≡ (Ok tt))
