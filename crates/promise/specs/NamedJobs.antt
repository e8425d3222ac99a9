-- The jobs that a length names are the paper's. Of each row there are as many as the row's demand in this length counts. All are released at zero and at full
-- cost, and they are due as the paper's recurrence (1) says, within the length. Of each server there is one job that costs all of the server's demand, or
-- none where that is 0, and it is due within the length by the server's rule. Together with the ticks that the timer takes they make up the table's demand.
-- So no due time among them stands for a refused one. (5.1, 5.3, 5.10, 5.17)
use Rattle.std.specs.Prelude.{ℕ, ◌+◌, ◌≤◌, ◌<◌, ◌≡◌, List, [], length}
use Rattle.kinds.specs.Numbering.{max_time}
use Rattle.numbers.specs.SpelledNumbers.{Bytes}
use Rattle.theory.specs.Lists.{All, total}
use Rattle.theory.specs.Jobs.{Job, DistinctNames}
use Rattle.theory.specs.Ticks.{timer_takes}
use Rattle.theory.specs.Demand.{row_jobs}
use Rattle.theory.specs.DueTimes.{RecurrenceOne, jth, dues}
use Rattle.theory.specs.Servers.{ByServer}
use Rattle.theory.specs.Sources.{own}
use Rattle.table.specs.declared.Row.{Row}
use Rattle.table.specs.declared.Server.{Server}
use Rattle.table.specs.declared.Table.{Table}
use Rattle.table.specs.Tables.{table_read}
use Rattle.verdict.specs.declared.Verdict.{Verdict}
use Rattle.verdict.specs.Demand.{server_demand_of, table_demand}
use Rattle.verdict.specs.Verdict.{Judged, verdict_says}
use Rattle.run.specs.Runs.{row_at, server_at}
use Rattle.promise.specs.NoOrder.{named_jobs}

-- These are the jobs of one row that a length L names: as many as its demand counts, released at zero, at full cost, due by recurrence (1), and due within L.
-- (4.2, 4.3, 5.10)
pub record NamedOfRow (r : Row) (L : ℕ) (js : List Job) : Type 0 where
  pub as_many : length js ≡ row_jobs r.x r.y r.d L
  pub at_zero : All (λ j. j.release ≡ 0) js
  pub at_full_cost : All (λ j. j.cost ≡ r.c) js
  pub by_the_recurrence : RecurrenceOne r.x r.y r.d (length js) (λ _. 0) (jth (dues js))
  pub due_within : All (λ j. j.due ≤ L) js

-- These are the jobs of one server that a length L names: one, or none where the server's demand in L is 0, released at zero, of cost floor(a · L / b), due
-- by the server's rule, and due within L. (4.9, 5.17)
pub record NamedOfServer (v : Server) (L : ℕ) (js : List Job) : Type 0 where
  pub none_of_zero : server_demand_of v L ≡ 0 → js ≡ []
  pub one_otherwise : 1 ≤ server_demand_of v L → length js ≡ 1
  pub at_zero : All (λ j. j.release ≡ 0) js
  pub of_the_demand : All (λ j. j.cost ≡ server_demand_of v L) js
  pub by_the_rule : ByServer v.a v.b js
  pub due_within : All (λ j. j.due ≤ L) js

-- These are the jobs of a table that a length L names. No two have the same name. What they cost together, and the ticks that the timer takes in L, make up the
-- table's demand in L. (5.3, 5.10, 5.17)
pub record Named (t : Table) (L : ℕ) (js : List Job) : Type 0 where
  pub of_its_sources : All (λ j. j.source < t.count + t.serving) js
  pub of_each_row : (row : ℕ) → row < t.count → NamedOfRow (row_at t row) L (own row js)
  pub of_each_server : (row : ℕ) → t.count ≤ row → row < t.count + t.serving → NamedOfServer (server_at t row) L (own row js)
  pub distinct : DistinctNames js
  pub cost_the_demand : total (λ j. j.cost) js + timer_takes t.s t.p L ≡ table_demand t L

-- For any table and every length up to 2^40, the jobs that the length names are as `Named` says: as many as 5.10 and 5.17 count, and due as the rules say.
-- (5.10, 5.17)
abbrev pub NamedJobsAreThePapers : Type 0
NamedJobsAreThePapers = (bytes : List ℕ) → Bytes bytes → (L : ℕ) → L ≤ max_time → Named (table_read bytes).table L (named_jobs (table_read bytes).table L)

-- The length of a witness is at most 2^40.
abbrev pub WitnessIsInTime : Type 0
WitnessIsInTime = (bytes : List ℕ) → Bytes bytes → (v : Verdict) → Judged bytes v
    → (L demand : ℕ) → verdict_says v ≡ record { number = 21; first = L; second = demand } → L ≤ max_time
