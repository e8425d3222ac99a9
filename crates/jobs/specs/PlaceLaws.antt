-- The laws of the choice, of jobs in their places, and of what each change makes of them. (docs/RULES.md, section 6.)
use Rattle.std.specs.Prelude.{ℕ, ◌+◌, ◌≤◌, ◌<◌, ◌≡◌, List, [], ◌∷◌, ◌++◌, length, take, drop, get_or}
use Rattle.jobs.specs.declared.Job.{Job}
use Rattle.jobs.specs.declared.Pending.{Pending}
use Rattle.jobs.specs.Places.{max_places, no_job, empty_pending, jobs_of, used, without, put, taken_out}
use Rattle.jobs.specs.Choice.{first_place}
use Rattle.jobs.specs.Units.{after}
use Rattle.jobs.specs.JobChanges.{IsFirst, WellFormed, unit_at}

-- ---- what is proved (proofs/Changes.antt; about late jobs in proofs/Late.antt; about what the calls say in proofs/Calls.antt)

-- The choice is a job with the earliest due time, and with the lowest serial among equal due times. (6.11)
abbrev pub ChoiceIsFirst : Type 0
ChoiceIsFirst = (js : List Job) → 1 ≤ length js → IsFirst js (first_place js)

-- ---- jobs and their places

-- A list of jobs is the jobs before a place, the job at it, and the jobs after it.
abbrev pub JobAmongTheRest : Type 0
JobAmongTheRest = (js : List Job) (i : ℕ) → i < length js → js ≡ take i js ++ (get_or js i no_job ∷ drop (i + 1) js)

-- Leaving out the job at a place makes the list shorter by one.
abbrev pub WithoutIsOneLess : Type 0
WithoutIsOneLess = (js : List Job) (i : ℕ) → i < length js → length (without js i) + 1 ≡ length js

-- The place i, if it is in use, holds the pending job number i, counted from 0.
abbrev pub PlaceHoldsJob : Type 0
PlaceHoldsJob = (p : Pending) (i : ℕ) → i < used p → get_or p.places i no_job ≡ get_or (jobs_of p) i no_job

-- If a job is pending, the place of the job that goes first is in use. (6.11)
abbrev pub FirstIsThere : Type 0
FirstIsThere = (p : Pending) → 1 ≤ used p → first_place (jobs_of p) < used p

-- ---- what each change does to the jobs

-- A job that is put in goes into the first unused place, so it comes last. (6.7)
abbrev pub PutAddsOne : Type 0
PutAddsOne = (p : Pending) (j : Job) → WellFormed p → p.count < max_places → jobs_of (put p j) ≡ jobs_of p ++ (j ∷ [])

-- When a job is taken out, the others stay in their order. (6.13)
abbrev pub TakenOutIsWithout : Type 0
TakenOutIsWithout = (p : Pending) (at : ℕ) → jobs_of (taken_out p at) ≡ without (jobs_of p) at

-- A unit changes only the job that gets it. (6.17)
abbrev pub AfterAUnit : Type 0
AfterAUnit = (p : Pending) (at : ℕ) → at < used p → jobs_of (after p at) ≡ unit_at (jobs_of p) at

-- The empty places are well formed.
abbrev pub EmptyIsWellFormed : Type 0
EmptyIsWellFormed = WellFormed empty_pending

-- There are as many places as jobs may be pending. (6.2)
abbrev pub ManyPlaces : Type 0
ManyPlaces = length empty_pending.places ≡ max_places

-- No job is pending in the empty places. (6.3)
abbrev pub NothingPending : Type 0
NothingPending = jobs_of empty_pending ≡ []

-- Putting a job in leaves the places well formed.
abbrev pub PutKeepsForm : Type 0
PutKeepsForm = (p : Pending) (j : Job) → WellFormed p → WellFormed (put p j)

-- Taking a job out leaves the places well formed.
abbrev pub TakenOutKeepsForm : Type 0
TakenOutKeepsForm = (p : Pending) (at : ℕ) → WellFormed p → WellFormed (taken_out p at)

-- Giving a unit leaves the places well formed.
abbrev pub AfterKeepsForm : Type 0
AfterKeepsForm = (p : Pending) (at : ℕ) → WellFormed p → WellFormed (after p at)
