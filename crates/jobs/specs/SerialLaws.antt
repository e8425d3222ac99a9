-- The laws of serials: when they are distinct, and that every change keeps them so. (docs/RULES.md, section 6.)
use Rattle.std.specs.Prelude.{ℕ, ◌<◌, ◌≡◌, ◌↔◌, true, List, length, get_or, Some, None}
use Rattle.jobs.specs.declared.Job.{Job}
use Rattle.jobs.specs.declared.Pending.{Pending}
use Rattle.jobs.specs.Places.{no_job, jobs_of, used, put, taken_out}
use Rattle.jobs.specs.Units.{after}
use Rattle.jobs.specs.Serials.{distinct_serials, rising_serials, place_of}
use Rattle.jobs.specs.JobChanges.{WellFormed, serial_at, KeepsSerials}

-- ---- what is proved (proofs/Changes.antt; about late jobs in proofs/Late.antt; about what the calls say in proofs/Calls.antt)

-- The test `distinct_serials` passes exactly when jobs in different places have different serials. (6.22)
abbrev pub DistinctMeans : Type 0
DistinctMeans = (js : List Job)
    → (distinct_serials js ≡ true) ↔ ((i k : ℕ) → i < k → k < length js → (get_or js i no_job).serial.0 ≡ (get_or js k no_job).serial.0 → ⊥)

-- A place is found for a serial exactly where the job at that place has it and no job in an earlier place does. (6.27)
abbrev pub FoundMeans : Type 0
FoundMeans = (s at : ℕ) (js : List Job) → (place_of s js ≡ Some at)
    ↔ ((at < length js) × (serial_at js at ≡ s) × ((i : ℕ) → i < at → serial_at js i ≡ s → ⊥))

-- Nobody is found for a serial exactly where no job has it. (6.27)
abbrev pub NobodyFoundMeans : Type 0
NobodyFoundMeans = (s : ℕ) (js : List Job) → (place_of s js ≡ None) ↔ ((i : ℕ) → i < length js → serial_at js i ≡ s → ⊥)

-- ---- what each change does to the serials

-- If each serial is above the one before it, no two jobs have the same serial. (6.22)
abbrev pub RisingIsDistinct : Type 0
RisingIsDistinct = (js : List Job) → rising_serials js ≡ true → distinct_serials js ≡ true

-- Putting in a job whose serial is above all others keeps the serials rising and distinct. (6.22)
abbrev pub PutKeepsSerials : Type 0
PutKeepsSerials = (p : Pending) (j : Job) → WellFormed p → ((i : ℕ) → i < used p → serial_at (jobs_of p) i < j.serial.0)
    → KeepsSerials (jobs_of p) (jobs_of (put p j))

-- Taking a job out keeps the serials rising and distinct. (6.22)
abbrev pub TakenOutKeepsSerials : Type 0
TakenOutKeepsSerials = (p : Pending) (at : ℕ) → KeepsSerials (jobs_of p) (jobs_of (taken_out p at))

-- Giving a unit keeps the serials rising and distinct. So in a run that came from a fresh one, comparing neighbours is enough to see that the serials are
-- distinct. (6.22)
abbrev pub AfterKeepsSerials : Type 0
AfterKeepsSerials = (p : Pending) (at : ℕ) → at < used p → KeepsSerials (jobs_of p) (jobs_of (after p at))
