-- No order. On a table that `judge` finds overloaded, the witness of length L names, of each row with d ≤ L, its first (floor((L − d)/y) + 1) · x jobs, all
-- released at zero and at full cost, and of each server one odd job of cost floor(a · L / b), where that is not 0, released at zero. It names them all, however
-- many places they would need in a run, and however far above 4,096 the cost of an odd job is. They can't be run in time in any order by anybody: whoever tries
-- has only the ticks that the timer leaves free, counted from zero. (1.20, 5.10, 5.11, 5.17)
use Rattle.kinds.specs.declared.Refusal.{Refusal}
use Rattle.std.specs.Prelude.{ℕ, zero, suc, ◌+◌, ◌≤◌, ◌<◌, ◌≡◌, ◌↔◌, Bool, false, cond, eqb, length, Result, Ok, Err}
use Rattle.std.proofs.Math.Option.{Option, some}
use mathlib.Core.List.{List, [], ◌∷◌, flatten}
use Rattle.kinds.specs.Numbering.{max_time}
use Rattle.kinds.specs.declared.Tick.{Tick}
use Rattle.numbers.specs.SpelledNumbers.{Bytes}
use Rattle.theory.specs.Lists.{All}
use Rattle.theory.specs.Jobs.{Job}
use Rattle.theory.specs.Ticks.{had}
use Rattle.theory.specs.Demand.{row_jobs}
use Rattle.theory.specs.Servers.{longest_odd}
use Rattle.theory.specs.Sources.{in_turn}
use Rattle.table.specs.declared.Row.{Row}
use Rattle.table.specs.declared.Server.{Server}
use Rattle.table.specs.declared.Table.{Table}
use Rattle.table.specs.Tables.{table_read}
use Rattle.due.specs.declared.Kept.{Kept}
use Rattle.due.specs.Kept.{nothing_kept, due_of, kept_with}
use Rattle.verdict.specs.declared.Verdict.{Verdict}
use Rattle.verdict.specs.Demand.{server_demand_of}
use Rattle.verdict.specs.Verdict.{Judged, verdict_says}
use Rattle.promise.specs.Sources.{Source, sources_of}
use Rattle.promise.specs.Link.{taken_on}

-- ---- the jobs that a witness names

-- `due_at` is a due time as a number, where a time above 2^40 stands for a refused one. No job that a witness names has such a due time: page NamedJobs proves
-- that.
abbrev pub due_at : Result Tick Refusal → Tick
due_at (Ok t) = t
due_at (Err r) = record { 0 = suc max_time }

-- `kept_after` is the due times kept for a row after n of its jobs were released at zero and at full cost, by the definitions that a release uses. (4.6)
unfoldable pub kept_after : Row → (n : ℕ) → Kept
kept_after r zero = nothing_kept
kept_after r (suc n) = kept_with (kept_after r n) r (due_at (due_of (kept_after r n) r 0 r.c))

-- `first_jobs` lists the first n jobs of a row, all released at zero and at full cost, newest first. Their names count up from `first`. (5.10)
unfoldable pub first_jobs : (source first : ℕ) → Row → (n : ℕ) → List Job
first_jobs source first r zero = []
first_jobs source first r (suc n) =
    record { name = first + n; source = source; release = 0; due = (due_at (due_of (kept_after r n) r 0 r.c)).0; cost = r.c } ∷ first_jobs source first r n

-- `odd_jobs` lists the one odd job of a server that a length L names: released at zero as the server's first, of cost floor(a · L / b), and due by the server's
-- rule. Where that cost is 0, there is none. (5.17)
abbrev pub odd_jobs : (L source first : ℕ) → Server → List Job
odd_jobs L source first v = cond (eqb (server_demand_of v L) 0) [] (longest_odd v.a v.b source first L ∷ [])

-- A length L names, of each row with d ≤ L, its first (floor((L − d)/y) + 1) · x jobs. `row_jobs` is that number, and it is 0 where L is below d. Of a server it
-- names the odd job of `odd_jobs`. (5.10, 5.17)
abbrev pub jobs_named : (L source first : ℕ) → Source → List Job
jobs_named L source first (Source.row r) = first_jobs source first r (row_jobs r.x r.y r.d L)
jobs_named L source first (Source.server v) = odd_jobs L source first v

-- The jobs of all sources of a table that a length L names. No two of them have the same name. (5.10, 5.17)
abbrev pub named_jobs : Table → (L : ℕ) → List Job
named_jobs t L = flatten (in_turn (jobs_named L) 0 0 (sources_of t))

-- ---- anybody's order

-- An assignment is any function from ticks to an optional job. It may idle, name other jobs, or give too much. A unit counts for a job only where its tick is
-- free, and ends at the due time or before: tick t ends at t + 1. `units_by` is the number of units that count for the job named n. (1.8, 6.5)
unfoldable pub units_by : (taken : ℕ → Bool) (due : ℕ) (who : ℕ → Option ℕ) (n : ℕ) → ℕ
units_by taken zero who n = 0
units_by taken (suc t) who n = cond (taken t) 0 (had n (who t)) + units_by taken t who n

-- An assignment serves jobs when each of them has its cost in units that count. (1.8)
abbrev pub Serves : (taken : ℕ → Bool) (who : ℕ → Option ℕ) → List Job → Type 0
Serves taken who js = All (λ j. j.cost ≤ units_by taken j.due who j.name) js

-- These ticks all come before a time, and are listed latest first.
abbrev pub LatestFirst : (before : ℕ) → List ℕ → Type 0
LatestFirst before [] = Unit {0}
LatestFirst before (t ∷ ts) = (t < before) × LatestFirst t ts

-- An assignment gives a job its ticks: there are at least as many free ticks before its due time as the job costs, and all of them go to the job.
pub record GivenItsTicks (taken : ℕ → Bool) (who : ℕ → Option ℕ) (j : Job) : Type 0 where
  pub ticks : List ℕ
  pub in_time : LatestFirst j.due ticks
  pub all_free : All (λ t. taken t ≡ false) ticks
  pub given : All (λ t. who t ≡ some j.name) ticks
  pub enough : j.cost ≤ length ticks

-- An assignment serves jobs exactly when it gives each of them its ticks.
abbrev pub ServedMeansGivenTicks : Type 0
ServedMeansGivenTicks = (taken : ℕ → Bool) (who : ℕ → Option ℕ) (js : List Job) → Serves taken who js ↔ All (GivenItsTicks taken who) js

-- No assignment serves all the jobs that the witness names on the ticks that the table's timer leaves free. This is the third promise of demand 3. (1.20, 5.11)
abbrev pub NoOrder : Type 0
NoOrder = (bytes : List ℕ) → Bytes bytes → (v : Verdict) → Judged bytes v
    → (L demand : ℕ) → verdict_says v ≡ record { number = 21; first = L; second = demand } → (who : ℕ → Option ℕ)
    → ¬ Serves (taken_on (table_read bytes).table) who (named_jobs (table_read bytes).table L)
