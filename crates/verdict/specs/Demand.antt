-- The demand of a table: the sum of its rows' demands, of its servers' demands, and of the ticks that its timer takes. (docs/RULES.md, section 5.)
use Rattle.std.specs.Prelude.{ℕ, ◌+◌, ◌*◌, ◌/◌, max, List, [], ◌∷◌}
use Rattle.theory.specs.Lists.{total}
use Rattle.theory.specs.Ticks.{timer_takes}
use Rattle.theory.specs.Curves.{sum_over}
use Rattle.theory.specs.Demand.{row_demand, row_growth}
use Rattle.theory.specs.Servers.{server_demand, server_growth}
use Rattle.table.specs.declared.Row.{Row}
use Rattle.table.specs.declared.Server.{Server}
use Rattle.table.specs.declared.Table.{Table}
use Rattle.table.specs.Limits.{max_d, max_period}
use Rattle.table.specs.Content.{Content}
use Rattle.table.specs.Tables.{content_of}

-- A row's demand in a length L is 0 if L < d, and otherwise (floor((L − d)/y) + 1) · x · c. (5.1)
abbrev pub row_demand_of : Row → (L : ℕ) → ℕ
row_demand_of r L = row_demand r.x r.y r.d r.c L

-- A server's demand in a length L is floor(a · L / b). (5.16)
abbrev pub server_demand_of : Server → (L : ℕ) → ℕ
server_demand_of v L = server_demand v.a v.b L

-- The rows of a table's content have a demand of their own in a length of time: the sum of the rows' demands. Servers and the timer play no part in it. (5.3)
abbrev pub rows_demand_of : Content → (L : ℕ) → ℕ
rows_demand_of content L = sum_over row_demand_of content.rows L

-- The servers of a table's content have a demand of their own in a length of time: the sum of the servers' demands. (5.3, 5.16)
abbrev pub servers_demand_of : Content → (L : ℕ) → ℕ
servers_demand_of content L = sum_over server_demand_of content.servers L

-- The demand of a table's content in a length L is the rows' own demand, the servers' own demand, and the ticks that the timer takes,
-- floor(L/p) · s + min(s, L mod p). (5.3)
abbrev pub demand_of : Content → (L : ℕ) → ℕ
demand_of content L = rows_demand_of content L + (servers_demand_of content L + timer_takes content.s content.p L)

-- In a period that p, every y and every b divide, the demand of a content grows by the sum of x · c · (period/y) over its rows, by the sum of a · (period/b)
-- over its servers, and by s · (period/p). (5.7)
abbrev pub growth_of : Content → (period : ℕ) → ℕ
growth_of content period =
    total (λ (r : Row). row_growth r.x r.y r.c period) content.rows
    + (total (λ (v : Server). server_growth v.a v.b period) content.servers + content.s * (period / content.p))

-- `largest_of` is the largest d of some rows. The largest d of no rows is 0. (5.8)
unfoldable pub largest_of : List Row → ℕ
largest_of [] = 0
largest_of (r ∷ rs) = max r.d (largest_of rs)

-- The rows' own demand of a table is that of its content. (5.3)
abbrev pub rows_demand : Table → (L : ℕ) → ℕ
rows_demand t L = rows_demand_of (content_of t) L

-- A table's demand in a length of time is that of its content. (5.3)
unfoldable pub table_demand : Table → (L : ℕ) → ℕ
table_demand t L = demand_of (content_of t) L

-- A table's demand grows in a period as much as that of its content does. (5.7)
unfoldable pub table_growth : Table → (period : ℕ) → ℕ
table_growth t period = growth_of (content_of t) period

-- The largest d of a table is that of its rows in use. (5.8)
abbrev pub largest_d : Table → ℕ
largest_d t = largest_of (content_of t).rows

-- No length above this is ever looked at: it is the bound of 5.9 with the largest d and the largest H that a table may have. (5.9)
abbrev pub max_length : ℕ
max_length = (max_d + 1) * max_period + max_d
