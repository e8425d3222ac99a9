-- The laws of columns: what they hold, a job put in, and ticks given to the job that goes first. (docs/RULES.md, section 6.)
use Rattle.std.specs.Prelude.{ℕ, suc, ◌+◌, ◌≤◌, ◌<◌, ◌≡◌, true, false, List, [], length, set, Some, None}
use Rattle.kinds.specs.declared.Finish.{Finish}
use Rattle.jobs.specs.declared.Job.{Job}
use Rattle.jobs.specs.Places.{max_places, without}
use Rattle.jobs.specs.Choice.{first_place}
use Rattle.jobs.specs.Units.{last_unit}
use Rattle.columns.specs.declared.Columns.{Columns}
use Rattle.columns.specs.Columns.{AllEntries, used_in, ColumnsHold, put_in}
use Rattle.columns.specs.Ticks.{nobody_at, finished_at, first_of, after_tick, worked_for, units_to_go, worked_by}
use Rattle.columns.specs.Ordered.{in_place}
use Rattle.columns.specs.Outcomes.{HeldJobs, WorksAs, NobodyYet, OneFinished}

-- ---- what columns hold (proofs/Holding.antt)

-- Columns hold as many jobs as their count says, and never more than there are places. (6.1)
abbrev pub HeldAreCounted : Type 0
HeldAreCounted = (c : Columns) (js : List Job) → ColumnsHold c js → length js ≡ used_in c

-- Columns with a count of 0 hold no job. (6.3)
abbrev pub NothingIsHeld : Type 0
NothingIsHeld = (c : Columns) → AllEntries c → c.count ≡ 0 → ColumnsHold c []

-- For any numbers in the columns there is a list of jobs that they hold. So no law about the jobs that columns hold is empty.
abbrev pub AlwaysHeld : Type 0
AlwaysHeld = (c : Columns) → AllEntries c → HeldJobs c

-- A job that is put into columns with an unused place goes in behind those that are chosen before it. (6.7, 6.11)
abbrev pub PutInHolds : Type 0
PutInHolds = (c : Columns) (js : List Job) (j : Job) → ColumnsHold c js → c.count < max_places → ColumnsHold (put_in c j) (in_place j js)

-- Where all places are in use, a job that is put in changes nothing. (10.7)
abbrev pub FullStays : Type 0
FullStays = (c : Columns) (j : Job) → max_places ≤ c.count → put_in c j ≡ c

-- After `work` the columns hold what the ticks leave of the jobs that they held, and the answer is that of these ticks. (6.10 to 6.13)
abbrev pub WorkHolds : Type 0
WorkHolds = (c : Columns) (js : List Job) (clock until : ℕ) → ColumnsHold c js → WorksAs c js clock until

-- ---- ticks (proofs/Strides.antt)

-- Where nothing is pending, no tick is taken, and the clock stays as it is.
abbrev pub NothingToWorkOn : Type 0
NothingToWorkOn = (n clock : ℕ) (js : List Job) → length js ≡ 0 → worked_for n clock js ≡ nobody_at clock js

-- A tick that gives a job its last unit finishes that job, and no further tick is taken. (6.13)
abbrev pub TickFinishes : Type 0
TickFinishes = (n clock : ℕ) (js : List Job) → 1 ≤ length js → last_unit (first_of js) ≡ true
    → worked_for (suc n) clock js ≡ finished_at (clock + 1) (first_of js) (after_tick js)

-- After a tick that gives a job a unit but not its last, the other ticks follow. (6.10)
abbrev pub TickGoesOn : Type 0
TickGoesOn = (n clock : ℕ) (js : List Job) → 1 ≤ length js → last_unit (first_of js) ≡ false
    → worked_for (suc n) clock js ≡ worked_for n (clock + 1) (after_tick js)

-- The chosen job gets every tick, as long as there are fewer ticks than it needs to finish. No other job changes. (6.11, 6.17)
abbrev pub FirstGoesOn : Type 0
FirstGoesOn = (n clock : ℕ) (js : List Job) → 1 ≤ length js → n < units_to_go (first_of js).left
    → worked_for n clock js ≡ nobody_at (clock + n) (set js (first_place js) (worked_by n (first_of js)))

-- The chosen job finishes and is taken out, if there are as many ticks as it needs. (6.13)
abbrev pub FirstFinishes : Type 0
FirstFinishes = (n clock : ℕ) (js : List Job) → 1 ≤ length js → units_to_go (first_of js).left ≤ n
    → worked_for n clock js ≡ finished_at (clock + units_to_go (first_of js).left) (first_of js) (without js (first_place js))

-- Ticks never make the number of pending jobs larger.
abbrev pub NoMoreThanItsUnits : Type 0
NoMoreThanItsUnits = (n clock : ℕ) (js : List Job) → length (worked_for n clock js).jobs ≤ length js

-- If no job finishes in n ticks, then n + m ticks are those n ticks followed by m more.
abbrev pub InTwoParts : Type 0
InTwoParts = (n m clock : ℕ) (js : List Job) → (worked_for n clock js).answer ≡ None
    → worked_for (n + m) clock js ≡ worked_for m (worked_for n clock js).clock (worked_for n clock js).jobs

-- If a job finishes in n ticks, allowing m more ticks changes nothing.
abbrev pub FinishedStays : Type 0
FinishedStays = (n m clock : ℕ) (js : List Job) (f : Finish) → (worked_for n clock js).answer ≡ Some f
    → worked_for (n + m) clock js ≡ worked_for n clock js

-- If no job finishes in n ticks, as many jobs are pending as before, and the clock has gone up by n unless nothing was pending. (6.10, 6.13)
abbrev pub NobodyMeans : Type 0
NobodyMeans = (n clock : ℕ) (js : List Job) → (worked_for n clock js).answer ≡ None → NobodyYet n clock js (worked_for n clock js)

-- If a job finishes in n ticks, one job fewer is pending, and its finish is the clock that was reached. (6.13)
abbrev pub FinishedMeans : Type 0
FinishedMeans = (n clock : ℕ) (js : List Job) (f : Finish) → (worked_for n clock js).answer ≡ Some f
    → OneFinished n clock js f (worked_for n clock js)
