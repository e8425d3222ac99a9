-- A table without servers has the demand of its rows and of the ticks that its timer takes, and its verdict is what these say, as it was before there were
-- servers. Where its timer has s = 0 and p = 1, it has its rows alone: its demand is the rows' own demand. (docs/RULES.md, 5.14 and 5.18.)
use Rattle.std.specs.Prelude.{ℕ, ◌+◌, ◌≡◌, ◌↔◌, List, Ok}
use Rattle.theory.specs.Ticks.{timer_takes}
use Rattle.table.specs.declared.Row.{Row}
use Rattle.table.specs.declared.Table.{Table}
use Rattle.table.specs.Content.{without_servers, rows_alone}
use Rattle.table.specs.Tables.{content_of, table_read}
use Rattle.verdict.specs.declared.Verdict.{Verdict}
use Rattle.verdict.specs.Demand.{rows_demand_of, demand_of}
use Rattle.verdict.specs.Verdict.{RightFor, RightOf, Judged}

-- The sum of the demands of these rows in a length of time. (5.1, 5.14)
abbrev pub demand_of_rows : List Row → (L : ℕ) → ℕ
demand_of_rows rows L = rows_demand_of (rows_alone rows) L

-- The sum of the demands of these rows in a length of time, and of the ticks that this timer takes. (5.3, 5.18)
abbrev pub demand_of_rows_and_timer : (s p : ℕ) → List Row → (L : ℕ) → ℕ
demand_of_rows_and_timer s p rows L = demand_of_rows rows L + timer_takes s p L

-- ---- what is proved (proofs/RowsAlone.antt)

-- The demand of a table without servers is the sum of the rows' demands and of the ticks that the timer takes. (5.18)
abbrev pub DemandWithoutServers : Type 0
DemandWithoutServers = (s p : ℕ) (rows : List Row) (L : ℕ) → demand_of (without_servers s p rows) L ≡ demand_of_rows_and_timer s p rows L

-- A verdict is right for a table without servers exactly when it is right for the demand of its rows and its timer. (5.18)
abbrev pub VerdictWithoutServers : Type 0
VerdictWithoutServers = (t : Table) (s p : ℕ) (rows : List Row) → content_of t ≡ without_servers s p rows → (v : Verdict)
    → RightOf t v ↔ RightFor (demand_of_rows_and_timer s p rows) v

-- Where bytes are accepted as a table without servers, a verdict is right for them exactly when it is right for the demand of the rows and the timer. (5.18)
abbrev pub JudgedWithoutServers : Type 0
JudgedWithoutServers = (bytes : List ℕ) (period s p : ℕ) (rows : List Row) → (table_read bytes).answer ≡ Ok period
    → content_of (table_read bytes).table ≡ without_servers s p rows → (v : Verdict) → Judged bytes v ↔ RightFor (demand_of_rows_and_timer s p rows) v

-- The demand of rows alone is the sum of the rows' demands. (5.14)
abbrev pub DemandOfRowsAlone : Type 0
DemandOfRowsAlone = (rows : List Row) (L : ℕ) → demand_of (rows_alone rows) L ≡ demand_of_rows rows L

-- A verdict is right for a table of rows alone exactly when it is right for the sum of the rows' demands. So it is feasible exactly when that sum is at most
-- the length for every length, and otherwise the witness has the smallest length for which it is not, and the sum in that length. (5.14)
abbrev pub VerdictOfRowsAlone : Type 0
VerdictOfRowsAlone = (t : Table) (rows : List Row) → content_of t ≡ rows_alone rows → (v : Verdict) → RightOf t v ↔ RightFor (demand_of_rows rows) v

-- Where bytes are accepted as a table of rows alone, a verdict is right for them exactly when it is right for the sum of the rows' demands. (5.14)
abbrev pub JudgedByRowsAlone : Type 0
JudgedByRowsAlone = (s : List ℕ) (period : ℕ) (rows : List Row) → (table_read s).answer ≡ Ok period
    → content_of (table_read s).table ≡ rows_alone rows → (v : Verdict) → Judged s v ↔ RightFor (demand_of_rows rows) v
