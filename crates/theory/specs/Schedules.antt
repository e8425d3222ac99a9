-- Schedules of any kind. An assignment `who` says for each tick which job has it, if any. It may idle, name jobs that nobody released, and give a job more than
-- its cost. Whatever it does, in a window it gives no more units than the window has free ticks. So jobs that are due by L and cost more than the free ticks
-- before L can't be run in time by anybody, in any order. Where any assignment meets every due time, earliest due first does too. (docs/RULES.md, 5.11.)
use Rattle.std.specs.Prelude.{ℕ, zero, suc, ◌+◌, ◌-◌, ◌≤◌, ◌<◌, ◌≡◌, Bool, false, cond, eqb, length}
use Rattle.std.proofs.Math.Option.{Option, none, some}
use mathlib.Core.List.{List, [], ◌∷◌, flatten}
use Rattle.theory.specs.Lists.{All, total}
use Rattle.theory.specs.Jobs.{Job, DistinctNames, asked}
use Rattle.theory.specs.Ticks.{free, had}
use Rattle.theory.specs.Trace.{Waiting, units, Trace, ServesEarliestDue, NeverIdlesInVain}

-- How many of the free ticks before t the assignment gives to the job named n.
unfoldable pub units_before : (taken : ℕ → Bool) (who : ℕ → Option ℕ) (n t : ℕ) → ℕ
units_before taken who n zero = 0
units_before taken who n (suc t) = cond (taken t) 0 (had n (who t)) + units_before taken who n t

-- How many of the free ticks from a on and before b the assignment gives to the job named n.
unfoldable pub units_in : (taken : ℕ → Bool) (who : ℕ → Option ℕ) (n a b : ℕ) → ℕ
units_in taken who n a b = units_before taken who n b - units_before taken who n a

-- The assignment meets the due times of the jobs: it gives each job its cost in ticks from its release on and before its due time.
abbrev pub Meets : (taken : ℕ → Bool) (who : ℕ → Option ℕ) → List Job → Type 0
Meets taken who js = All (λ j. j.cost ≤ units_in taken who j.name j.release j.due) js

-- Every tick from a on and before b is free, and the assignment gives it to the job named n.
abbrev pub GivesAll : (taken : ℕ → Bool) (who : ℕ → Option ℕ) (n a b : ℕ) → Type 0
GivesAll taken who n a b = (t : ℕ) → a ≤ t → t < b → (taken t ≡ false) × (who t ≡ some n)

-- A job is given as many consecutive ticks as it costs, beginning at its release or after, and ending at its due time or before.
pub record GivenOnEnd (taken : ℕ → Bool) (who : ℕ → Option ℕ) (j : Job) : Type 0 where
  pub from : ℕ
  pub not_before_release : j.release ≤ from
  pub in_time : from + j.cost ≤ j.due
  pub gives_all : GivesAll taken who j.name from (from + j.cost)

-- A trace's list of ticks, read as an assignment. The newest stands first, so the tick that started at t has t ticks behind it in the list. Ticks that are not
-- in the list go to no job.
unfoldable pub who_had : List (Option ℕ) → ℕ → Option ℕ
who_had [] t = none
who_had (tick ∷ earlier) t = cond (eqb t (length earlier)) tick (who_had earlier t)

-- ---- what is proved about schedules (proofs/Schedules.antt)

-- Where every tick from a on and before b is free and given to the job named n, that job has exactly b − a units from them.
abbrev pub UnitsOfAStretch : Type 0
UnitsOfAStretch = (taken : ℕ → Bool) (who : ℕ → Option ℕ) (n a b : ℕ) → a ≤ b → GivesAll taken who n a b → units_in taken who n a b ≡ b - a

-- Where each job is given consecutive ticks for its cost, between its release and its due time, the assignment meets the due times of all of them.
abbrev pub GivenTheirTicks : Type 0
GivenTheirTicks = (taken : ℕ → Bool) (who : ℕ → Option ℕ) (js : List Job) → All (GivenOnEnd taken who) js → Meets taken who js

-- Where an assignment meets the due times of all jobs, no window asks for more than its free ticks.
abbrev pub WindowsFit : Type 0
WindowsFit = (taken : ℕ → Bool) (who : ℕ → Option ℕ) (js : List Job) → DistinctNames js → Meets taken who js
    → (a b : ℕ) → a ≤ b → asked a b js ≤ free taken a b

-- Where jobs are all due by L and together cost more than the free ticks before L, no assignment meets all their due times. (5.11)
abbrev pub Overload : Type 0
Overload = (taken : ℕ → Bool) (L : ℕ) (js : List Job) → DistinctNames js → All (λ j. j.due ≤ L) js
    → free taken 0 L < total (λ j. j.cost) js → (who : ℕ → Option ℕ) → ¬ Meets taken who js

-- Where the jobs of several sources, listed source by source, are all due by L and together cost more than the free ticks before L, no assignment meets all
-- their due times. (5.11)
abbrev pub OverloadOfSources : Type 0
OverloadOfSources = (taken : ℕ → Bool) (L : ℕ) (lists : List (List Job)) → DistinctNames (flatten lists) → All (All (λ j. j.due ≤ L)) lists
    → free taken 0 L < total (λ js. total (λ j. j.cost) js) lists → (who : ℕ → Option ℕ) → ¬ Meets taken who (flatten lists)

-- ---- what is proved about traces as schedules (proofs/Served.antt)

module _ (taken : ℕ → Bool) (t : ℕ) (waiting : List Waiting) (accepted : List Job) (ticks : List (Option ℕ)) (left_early : List Waiting) where
  -- A trace is a schedule: read as an assignment, its ticks give each name as many units before the clock as the trace gave.
  abbrev pub TraceIsASchedule : Type 0
  TraceIsASchedule = Trace taken t waiting accepted ticks left_early → (n : ℕ) → units_before taken (who_had ticks) n t ≡ units n ticks

  -- In a trace no accepted job is given a unit before its release.
  abbrev pub NothingBeforeRelease : Type 0
  NothingBeforeRelease = Trace taken t waiting accepted ticks left_early → DistinctNames accepted
      → All (λ j. units_before taken (who_had ticks) j.name j.release ≡ 0) accepted

  -- Where no window asks for more than its free ticks, nobody leaves early, and all jobs are due by the clock, earliest due first meets all due times.
  abbrev pub EarliestDueMeets : Type 0
  EarliestDueMeets = (r : Trace taken t waiting accepted ticks left_early) → left_early ≡ [] → ServesEarliestDue r → NeverIdlesInVain r
      → DistinctNames accepted → ((a b : ℕ) → a ≤ b → asked a b accepted ≤ free taken a b) → All (λ j. j.due ≤ t) accepted
      → Meets taken (who_had ticks) accepted

  -- Where any assignment at all meets all due times, nobody leaves early, and all jobs are due by the clock, earliest due first meets all due times.
  abbrev pub EarliestDueIsOptimal : Type 0
  EarliestDueIsOptimal = (r : Trace taken t waiting accepted ticks left_early) → left_early ≡ [] → ServesEarliestDue r → NeverIdlesInVain r
      → DistinctNames accepted → All (λ j. j.due ≤ t) accepted → (who : ℕ → Option ℕ) → Meets taken who accepted
      → Meets taken (who_had ticks) accepted
