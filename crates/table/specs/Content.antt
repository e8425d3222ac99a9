-- The content of a table, apart from how it is spelled in bytes and held in memory. Definitions about a whole table take this record. (docs/RULES.md, section
-- 3.)
use Rattle.std.specs.Prelude.{ℕ, List, []}
use Rattle.table.specs.declared.Row.{Row}
use Rattle.table.specs.declared.Server.{Server}

-- A table's content is its timer, which takes the first s ticks of every p, its rows, and its servers, both in the order of their row numbers. (1.2, 3.16,
-- 3.18)
pub record Content : Type 0 where
  pub s : ℕ
  pub p : ℕ
  pub rows : List Row
  pub servers : List Server

-- This content has a timer and rows, and no servers, as every table of before there were servers. (5.18)
abbrev pub without_servers : (s p : ℕ) → List Row → Content
without_servers s p rows = record { s = s; p = p; rows = rows; servers = [] }

-- This content has the given rows alone: no servers, and its timer, with s = 0 and p = 1, takes no tick. (5.14)
abbrev pub rows_alone : List Row → Content
rows_alone rows = without_servers 0 1 rows
