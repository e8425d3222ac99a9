-- The period of a table, H: the least common multiple of the timer's p, every row's y and every server's b. (docs/RULES.md, 3.4 and 3.5.)
use Rattle.std.specs.Prelude.{ℕ, ◌≤◌, ◌≡◌, List, [], ◌∷◌, ◌++◌, map}
unfoldable pub use Rattle.periods.specs.Multiples.{first_multiple, least_common_multiple}
use Rattle.table.specs.declared.Row.{Row}
use Rattle.table.specs.declared.Server.{Server}
use Rattle.table.specs.Content.{Content, without_servers, rows_alone}

-- `ys_of` lists the y of each row, in the order of the rows. (1.1)
abbrev pub ys_of : List Row → List ℕ
ys_of rows = map (λ (r : Row). r.y) rows

-- `bs_of` lists the b of each server as it stands, in the order of the servers. It is not reduced with a. (1.21, 3.4)
abbrev pub bs_of : List Server → List ℕ
bs_of servers = map (λ (v : Server). v.b) servers

-- H is made from the timer's p, also where s is 0, from the y of each row, and from the b of each server. (3.4)
abbrev pub periods_of : Content → List ℕ
periods_of content = content.p ∷ (ys_of content.rows ++ bs_of content.servers)

-- H is the least common multiple of p, the y of all rows and the b of all servers. (3.4)
abbrev pub period_of : Content → ℕ
period_of content = least_common_multiple (periods_of content)

-- ---- what is proved (proofs/Periods.antt)

-- A server's b joins H as it stands: with p = 1 and no rows, the H of one server is its b, whatever its a is. (3.4)
abbrev pub PeriodOfOneServer : Type 0
PeriodOfOneServer = (v : Server) → 1 ≤ v.b → period_of (record { s = 0; p = 1; rows = []; servers = v ∷ [] }) ≡ v.b

-- Without servers, H is the least common multiple of p and the y of all rows. (5.18)
abbrev pub PeriodWithoutServers : Type 0
PeriodWithoutServers = (s p : ℕ) (rows : List Row) → period_of (without_servers s p rows) ≡ least_common_multiple (p ∷ ys_of rows)

-- With p = 1 and no servers, H is the least common multiple of the y of all rows alone. (3.4)
abbrev pub PeriodOfRowsAlone : Type 0
PeriodOfRowsAlone = (rows : List Row) → period_of (rows_alone rows) ≡ least_common_multiple (ys_of rows)
