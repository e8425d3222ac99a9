-- The laws of the calls on pending jobs, by what their answers say. (docs/RULES.md, section 6.)
use Rattle.std.specs.Prelude.{ℕ, ◌≤◌, ◌<◌, ◌≡◌, List, [], ◌∷◌, length, get_or}
use Rattle.kinds.specs.Numbering.{values, refused_with}
use Rattle.jobs.specs.declared.Job.{Job}
use Rattle.jobs.specs.declared.Pending.{Pending}
use Rattle.jobs.specs.Places.{max_places, no_job, jobs_of, used, put_step, take_step}
use Rattle.jobs.specs.Choice.{first_place, choice_of}
use Rattle.jobs.specs.Units.{given}
use Rattle.jobs.specs.Turns.{turned}
use Rattle.jobs.specs.Answers.{job_values, choice_says, put_says, take_says, give_says}
use Rattle.jobs.specs.JobChanges.{UnitSaid, TickWasGiven, TickWasIdle}

-- ---- what the calls say

-- If a place is unused, putting a job in says no value. (6.7)
abbrev pub PutIsDone : Type 0
PutIsDone = (p : Pending) (j : Job) → p.count < max_places → put_says (put_step p j).answer ≡ values []

-- If all places are in use, putting a job in is refusal 8, at place 0, and nothing changes. (6.8, 6.18, 10.7)
abbrev pub PutIsRefused : Type 0
PutIsRefused = (p : Pending) (j : Job) → max_places ≤ p.count
    → (put_says (put_step p j).answer ≡ refused_with 8 0) × ((put_step p j).pending ≡ p)

-- If a job is pending, the choice says the place of the one that goes first. (6.11)
abbrev pub ChoiceSaysPlace : Type 0
ChoiceSaysPlace = (js : List Job) → 1 ≤ length js → choice_says (choice_of js) ≡ values (first_place js ∷ [])

-- If no job is pending, the choice says no value. (6.11)
abbrev pub ChoiceSaysNobody : Type 0
ChoiceSaysNobody = choice_says (choice_of []) ≡ values []

-- Taking out a pending job says all that it holds. (6.1, 6.13)
abbrev pub TakeSaysJob : Type 0
TakeSaysJob = (p : Pending) (at : ℕ) → at < used p → take_says (take_step p at).answer ≡ values (job_values (get_or (jobs_of p) at no_job))

-- If nobody is pending at the place, taking a job out says no value, and nothing changes. (10.7)
abbrev pub TakeSaysNobody : Type 0
TakeSaysNobody = (p : Pending) (at : ℕ) → used p ≤ at → (take_says (take_step p at).answer ≡ values []) × ((take_step p at).pending ≡ p)

-- Giving a unit to a pending job says its serial, and whether it finished. (6.12, 6.13)
abbrev pub GiveSaysJob : Type 0
GiveSaysJob = (p : Pending) (at : ℕ) → at < used p → UnitSaid (get_or (jobs_of p) at no_job) (give_says (given p at).answer)

-- If nobody is pending at the place, giving a unit says no value, and nothing changes. (10.7)
abbrev pub GiveSaysNobody : Type 0
GiveSaysNobody = (p : Pending) (at : ℕ) → used p ≤ at → (give_says (given p at).answer ≡ values []) × ((given p at).pending ≡ p)

-- A tick is idle if nothing is pending. (6.12)
abbrev pub TickIsIdle : Type 0
TickIsIdle = (p : Pending) (clock : ℕ) → used p ≡ 0 → TickWasIdle p (turned p clock)

-- A tick gives one unit to the job that goes first, if a job is pending. (6.10, 6.11)
abbrev pub TickIsGiven : Type 0
TickIsGiven = (p : Pending) (clock : ℕ) → 1 ≤ used p → TickWasGiven p clock (turned p clock)
