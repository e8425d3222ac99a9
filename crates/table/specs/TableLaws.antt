-- The laws of tables: which bytes are accepted, as what, and what every table that was read holds. (docs/RULES.md, section 3.)
use Rattle.std.specs.Prelude.{ℕ, ◌≤◌, ◌<◌, ◌≡◌, ◌↔◌, true, List, [], ◌∷◌, ◌++◌, get_or}
use Rattle.numbers.specs.Spelling.{spelling}
use Rattle.numbers.specs.SpelledNumbers.{Bytes}
use Rattle.table.specs.declared.Row.{Row}
use Rattle.table.specs.Limits.{max_rows, limits}
use Rattle.table.specs.Content.{Content, without_servers, rows_alone}
use Rattle.table.specs.Period.{period_of}
use Rattle.table.specs.Rows.{row_in_range, hopeless, row_acceptable}
use Rattle.table.specs.Servers.{no_server}
use Rattle.table.specs.Tables.{content_of, table_of, empty_table, no_row, InRange, table_read}
use Rattle.table.specs.SpelledTables.{WithinLimits, AcceptableRow, spelled_rows, spelled_table, Acceptable, AcceptedAs, UsableContent}
use Rattle.table.specs.SpelledTables.{SaysAccepted, SaysRefused}

-- ---- what is proved (proofs/SpelledTables.antt and proofs/TableAnswers.antt)

-- The limits are 4,096 for p, that of rows, 64 for x, 4,096 for y, 16,384 for d, 4,096 for c, 8 for servers, 4,096 for b and 1,048,576 for H. (3.1, 3.2, 3.4,
-- 3.16, 3.18)
abbrev pub LimitsOfTables : Type 0
LimitsOfTables = limits ≡ record { p = 4096; rows = max_rows; x = 64; y = 4096; d = 16384; c = 4096; servers = 8; b = 4096; period = 1048576 }

-- A row passes the test `row_in_range` exactly when each of its values is from 1 to its limit. (3.2)
abbrev pub InRangeMeans : Type 0
InRangeMeans = (r : Row) → (row_in_range r ≡ true) ↔ WithinLimits r

-- A row passes the test `hopeless` exactly when its c is above its d. (3.3)
abbrev pub HopelessMeans : Type 0
HopelessMeans = (r : Row) → (hopeless r ≡ true) ↔ (r.d < r.c)

-- A row passes the test `row_acceptable` exactly when each of its values is from 1 to its limit and its c is at most its d. (3.2, 3.3)
abbrev pub AcceptableMeans : Type 0
AcceptableMeans = (r : Row) → (row_acceptable r ≡ true) ↔ AcceptableRow r

-- The table that holds a content has exactly that content.
abbrev pub ContentOfTable : Type 0
ContentOfTable = (content : Content) → content_of (table_of content) ≡ content

-- A table without servers is spelled as its timer and its rows, and then the byte 00 for a server count of 0. So an older table gains this byte at its end.
-- (3.6, 5.18)
abbrev pub WithoutServersAreSpelled : Type 0
WithoutServersAreSpelled = (s p : ℕ) (rows : List Row)
    → spelled_table (without_servers s p rows) ≡ (spelling s ++ (spelling p ++ spelled_rows rows)) ++ (0 ∷ [])

-- Rows alone are spelled as the bytes 00 and 01, for a timer that takes no tick, then as the rows, and then as the byte 00, for no servers. (3.6, 3.16)
abbrev pub RowsAloneAreSpelled : Type 0
RowsAloneAreSpelled = (rows : List Row) → spelled_table (rows_alone rows) ≡ 0 ∷ 1 ∷ (spelled_rows rows ++ (0 ∷ []))

-- The spelling of an acceptable content is accepted with its H, and is read as the table of that content. (3.6)
abbrev pub SpelledIsAccepted : Type 0
SpelledIsAccepted = (content : Content) → Acceptable content
    → SaysAccepted (spelled_table content) (period_of content) × ((table_read (spelled_table content)).table ≡ table_of content)

-- Bytes that are accepted are the spelling of an acceptable content, which is the content of the table that was read. (3.6)
abbrev pub AcceptedIsSpelled : Type 0
AcceptedIsSpelled = (s : List ℕ) (h : ℕ) → Bytes s → SaysAccepted s h → AcceptedAs s h (content_of (table_read s).table)

-- Bytes are accepted with an H exactly when they are the spelling of an acceptable content with that H. (3.6, 3.13)
abbrev pub AcceptedExactly : Type 0
AcceptedExactly = (s : List ℕ) (h : ℕ) → Bytes s
    → SaysAccepted s h ↔ ((content : Content) × Acceptable content × (s ≡ spelled_table content) × (h ≡ period_of content))

-- Two different acceptable contents have different spellings.
abbrev pub SpellingsOfTablesDiffer : Type 0
SpellingsOfTablesDiffer = (content other : Content) → Acceptable content → Acceptable other → spelled_table content ≡ spelled_table other → content ≡ other

-- For bytes that are accepted, all that `UsableContent` lists holds for the table that was read.
abbrev pub AcceptedIsUsable : Type 0
AcceptedIsUsable = (s : List ℕ) (h : ℕ) → Bytes s → SaysAccepted s h → UsableContent s h (content_of (table_read s).table)

-- Whatever the bytes are, the table that they are read as is in range, and none of its rows has a c above its d. (3.1 to 3.3, 3.16, 3.18)
abbrev pub ReadInRange : Type 0
ReadInRange = (s : List ℕ) → Bytes s → InRange (table_read s).table

-- Whatever the bytes are, the unused rows of the table that they are read as hold zeros, and so do the unused servers. (3.14)
abbrev pub UnusedHoldZeros : Type 0
UnusedHoldZeros = (s : List ℕ) → Bytes s → (i : ℕ)
    → ((table_read s).table.count ≤ i → get_or (table_read s).table.rows i no_row ≡ record { x = 0; y = 0; d = 0; c = 0 })
    × ((table_read s).table.serving ≤ i → get_or (table_read s).table.servers i no_server ≡ record { a = 0; b = 0 })

-- Bytes that are refused are read as the empty table. (10.5)
abbrev pub RefusedIsEmpty : Type 0
RefusedIsEmpty = (s : List ℕ) (number place : ℕ) → SaysRefused s number place → (table_read s).table ≡ empty_table
