-- How rows and tables are spelled, which content is acceptable, and what it means that bytes are accepted or refused. (docs/RULES.md, section 3.)
use Rattle.std.specs.Prelude.{ℕ, ◌≤◌, ◌≡◌, true, length}
use Rattle.std.specs.Int.{◌∣◌}
use mathlib.Core.List.{List, [], ◌∷◌, ◌++◌, flatten, map, Memᴰ}
use Rattle.kinds.specs.Numbering.{values, refused_with}
use Rattle.numbers.specs.Spelling.{spelling}
use Rattle.table.specs.declared.Row.{Row}
use Rattle.table.specs.declared.Server.{Server}
use Rattle.table.specs.Limits.{max_rows, max_servers, max_x, max_y, max_d, max_c, max_period}
use Rattle.table.specs.Content.{Content}
use Rattle.table.specs.Period.{periods_of, period_of}
use Rattle.table.specs.Rows.{row_in_range}
use Rattle.table.specs.Timer.{GoodTimer}
use Rattle.table.specs.Servers.{GoodServer}
use Rattle.table.specs.Tables.{table_of, table_read}
use Rattle.table.specs.Answers.{table_says}

-- Each value of a row is from 1 to its limit. (3.2)
pub record WithinLimits (r : Row) : Type 0 where
  pub some_x : 1 ≤ r.x
  pub most_x : r.x ≤ max_x
  pub some_y : 1 ≤ r.y
  pub most_y : r.y ≤ max_y
  pub some_d : 1 ≤ r.d
  pub most_d : r.d ≤ max_d
  pub some_c : 1 ≤ r.c
  pub most_c : r.c ≤ max_c

-- A table may have this row: each value is from 1 to its limit, and c is at most d. (3.2, 3.3)
pub record AcceptableRow (r : Row) : Type 0 where
  pub within_limits : WithinLimits r
  pub c_within_d : r.c ≤ r.d

-- A row is spelled as its x, y, d and c, one after the other. (3.6)
abbrev pub spelled_row : Row → List ℕ
spelled_row r = spelling r.x ++ (spelling r.y ++ (spelling r.d ++ spelling r.c))

-- Rows are spelled as their count, and then each row in turn. (3.6)
abbrev pub spelled_rows : List Row → List ℕ
spelled_rows rows = spelling (length rows) ++ flatten (map spelled_row rows)

-- A table may have these rows: there are at most as many as the limit of rows says, each is in range, and none has a c above its d. (3.1 to 3.3)
pub record GoodRows (rows : List Row) : Type 0 where
  pub few_rows : length rows ≤ max_rows
  pub in_range : (r : Row) → Memᴰ r rows → row_in_range r ≡ true
  pub c_within_d : (r : Row) → Memᴰ r rows → r.c ≤ r.d

-- A server is spelled as its a and b, one after the other. (3.6)
abbrev pub spelled_server : Server → List ℕ
spelled_server v = spelling v.a ++ spelling v.b

-- Servers are spelled as their count, and then each server in turn. (3.6)
abbrev pub spelled_servers : List Server → List ℕ
spelled_servers servers = spelling (length servers) ++ flatten (map spelled_server servers)

-- A table may have these servers: there are at most as many as the limit of servers says, and each has 1 ≤ a ≤ b with b at most its limit. (3.18)
pub record GoodServers (servers : List Server) : Type 0 where
  pub few_servers : length servers ≤ max_servers
  pub each_good : (v : Server) → Memᴰ v servers → GoodServer v

-- A table is spelled as its timer's s and p, then its rows, and then its servers, with nothing after them. (3.6)
abbrev pub spelled_table : Content → List ℕ
spelled_table content = spelling content.s ++ (spelling content.p ++ (spelled_rows content.rows ++ spelled_servers content.servers))

-- A content is acceptable when a table may have its timer, its rows and its servers, and its H is at most 1,048,576. (3.1 to 3.4, 3.16, 3.18)
pub record Acceptable (content : Content) : Type 0 where
  pub good_timer : GoodTimer content.s content.p
  pub good_rows : GoodRows content.rows
  pub good_servers : GoodServers content.servers
  pub period_within : period_of content ≤ max_period

-- The bytes s were accepted as this content: the content is acceptable, s is its spelling, the table that was read holds it, and h is its H. (3.4, 3.6)
pub record AcceptedAs (s : List ℕ) (h : ℕ) (content : Content) : Type 0 where
  pub acceptable : Acceptable content
  pub spelled : s ≡ spelled_table content
  pub read_as : (table_read s).table ≡ table_of content
  pub period : h ≡ period_of content

-- Other crates may use this about an accepted table: the bytes s were accepted as this content, a table may have its timer and each of its servers, each row is
-- within its limits and has a c of at most its d, and h is at least 1, at most 1,048,576 and a multiple of p, of each y and of each b. (3.2 to 3.4, 3.16,
-- 3.18)
pub record UsableContent (s : List ℕ) (h : ℕ) (content : Content) : Type 0 where
  pub accepted_as : AcceptedAs s h content
  pub good_timer : GoodTimer content.s content.p
  pub within_limits : (r : Row) → Memᴰ r content.rows → WithinLimits r
  pub c_within_d : (r : Row) → Memᴰ r content.rows → r.c ≤ r.d
  pub each_server : (v : Server) → Memᴰ v content.servers → GoodServer v
  pub some_period : 1 ≤ h
  pub most_period : h ≤ max_period
  pub divides_period : (y : ℕ) → Memᴰ y (periods_of content) → y ∣ h

-- Reading the bytes s answers that they are accepted, with h as their H.
abbrev pub SaysAccepted : List ℕ → (h : ℕ) → Type 0
SaysAccepted s h = table_says (table_read s).answer ≡ values (h ∷ [])

-- Reading the bytes s answers that they are refused, with this number and this place.
abbrev pub SaysRefused : List ℕ → (number place : ℕ) → Type 0
SaysRefused s number place = table_says (table_read s).answer ≡ refused_with number place
