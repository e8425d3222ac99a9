-- Sources. A row number in use names a row or a server, and either is a source of jobs. What is promised about demand, share, due times and the witness's
-- jobs is promised for every source alike. (1.2, 3.14, 5.12)
use Rattle.std.specs.Prelude.{ℕ, ◌+◌, ◌<◌, ◌≡◌, cond, List, ◌++◌, map, length, get_or}
use Rattle.theory.specs.Curves.{sum_over}
use Rattle.theory.specs.Ticks.{timer_takes}
use Rattle.theory.specs.DueTimes.{due_time}
use Rattle.theory.specs.Servers.{server_due, last_due}
use Rattle.table.specs.declared.Row.{Row}
use Rattle.table.specs.declared.Server.{Server}
use Rattle.table.specs.declared.Table.{Table}
use Rattle.table.specs.Tables.{rows_of, servers_of, InRange}
use Rattle.verdict.specs.Demand.{row_demand_of, server_demand_of, table_demand}
use Rattle.run.specs.Runs.{is_row, row_at, server_at}

-- A source is a row or a server. (1.2)
pub data Source : Type 0 where
  row : Row → Source
  server : Server → Source

-- The sources of a table in the order of their row numbers: first the rows in use, and then the servers in use. (1.2, 3.14)
abbrev pub sources_of : Table → List Source
sources_of t = map Source.row (rows_of t) ++ map Source.server (servers_of t)

-- The source with this row number, where it is in use. (1.2)
abbrev pub source_at : Table → (number : ℕ) → Source
source_at t number = cond (is_row t number) (Source.row (row_at t number)) (Source.server (server_at t number))

-- A row's demand is that of 5.1, and a server's is floor(a · L / b). (5.1, 5.16)
abbrev pub source_demand : Source → (L : ℕ) → ℕ
source_demand (Source.row r) L = row_demand_of r L
source_demand (Source.server v) L = server_demand_of v L

-- The due time of a source's next job, released at t with a stated cost, where `earlier` has the due times of the source's accepted jobs, newest first. For a
-- row it is that of the paper's recurrence, in which the cost plays no part. For a server it is the later of t and the last due time, plus e · b / a rounded
-- up. (4.2, 4.3, 4.9)
abbrev pub source_due : Source → (earlier : List ℕ) (t cost : ℕ) → ℕ
source_due (Source.row r) earlier t cost = due_time r.x r.y r.d earlier t
source_due (Source.server v) earlier t cost = server_due v.a v.b (last_due earlier) t cost

-- ---- what is proved (proofs/Sources.antt)

-- The sources of a table in range are numbered as the row numbers in use are. (1.2, 3.14)
abbrev pub SourcesAreNumbered : Type 0
SourcesAreNumbered = (t : Table) → InRange t
    → (length (sources_of t) ≡ t.count + t.serving)
    × ((number : ℕ) (other : Source) → number < t.count + t.serving → get_or (sources_of t) number other ≡ source_at t number)

-- The demand of a table is the sum over its sources, and the ticks that the timer takes. (5.3)
abbrev pub DemandOverSources : Type 0
DemandOverSources = (t : Table) (L : ℕ) → table_demand t L ≡ sum_over source_demand (sources_of t) L + timer_takes t.s t.p L
