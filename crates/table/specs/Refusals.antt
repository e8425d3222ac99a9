-- Which bytes are refused as a table, with which number and at which place. There is one case for each test, in the order of the tests. A case describes the
-- bytes before the place by their spelling, and not by what the reader does with them. (docs/RULES.md, 3.3, 3.7 to 3.12, 3.17 and 3.19.)
use Rattle.std.specs.Prelude.{ℕ, ◌+◌, ◌≤◌, ◌<◌, ◌≡◌, ◌↔◌, ◌⊎◌, length, drop, get_or}
use mathlib.Core.List.{List, [], ◌∷◌, ◌++◌, flatten, map, Memᴰ}
use Rattle.numbers.specs.declared.Number.{Number}
use Rattle.numbers.specs.SpelledNumbers.{Bytes, Spelled}
use Rattle.numbers.specs.BadByte.{BadByteAt, FirstBadByte}
use Rattle.numbers.specs.Spelling.{spelling}
use Rattle.table.specs.declared.Row.{Row}
use Rattle.table.specs.declared.Server.{Server}
use Rattle.table.specs.Limits.{max_rows, max_servers, max_x, max_y, max_d, max_c, max_b, max_p, max_period}
use Rattle.table.specs.Content.{Content}
use Rattle.table.specs.Period.{period_of}
use Rattle.table.specs.Timer.{GoodTimer}
use Rattle.table.specs.Servers.{GoodServer}
use Rattle.table.specs.SpelledTables.{WithinLimits, AcceptableRow, spelled_row, spelled_rows, spelled_server, spelled_servers}
use Rattle.table.specs.SpelledTables.{SaysRefused}

-- In the bytes s, `part` stands from the place `at` on, and `next` is the place right after it.
pub record PartStands (s : List ℕ) (at : ℕ) (part : List ℕ) (next : ℕ) : Type 0 where
  pub here : drop at s ≡ part ++ drop next s
  pub ends : next ≡ at + length part

-- ---- rows, whose count stands at a place

-- The limits of a row's values stand in the order in which the values are spelled: x, y, d and c. (3.2, 3.6)
abbrev pub value_limits : List ℕ
value_limits = max_x ∷ max_y ∷ max_d ∷ max_c ∷ []

-- These are the first values of a row that is not complete: there are fewer values than limits, and each is from 1 to its limit. (3.2)
pub record FirstValues (limits values : List ℕ) : Type 0 where
  pub fewer : length values < length limits
  pub within : (i : ℕ) → i < length values → (1 ≤ get_or values i 0) × (get_or values i 0 ≤ get_or limits i 0)

-- No test before the place `at` refuses, and a value with the limit `most` begins there. Between the row count's place `from` and `at` stand a row count of at
-- most the limit of rows, fewer rows than it counts, each of which a table may have, and the first values of the next row, all of them in range. (3.7)
pub record ValueNext (s : List ℕ) (from at most : ℕ) : Type 0 where
  pub count : ℕ
  pub rows : List Row
  pub values : List ℕ
  pub few_rows : count ≤ max_rows
  pub fewer : length rows < count
  pub rows_acceptable : (r : Row) → Memᴰ r rows → AcceptableRow r
  pub first_values : FirstValues value_limits values
  pub its_limit : most ≡ get_or value_limits (length values) 0
  pub before : PartStands s from (spelling count ++ (flatten (map spelled_row rows) ++ flatten (map spelling values))) at

-- No test before the place `at` refuses, and the rows end there: their spelling stands between the row count's place `from` and `at`. (3.6, 3.7)
pub record RowsEnd (s : List ℕ) (from at : ℕ) (rows : List Row) : Type 0 where
  pub few_rows : length rows ≤ max_rows
  pub rows_acceptable : (r : Row) → Memᴰ r rows → AcceptableRow r
  pub before : PartStands s from (spelled_rows rows) at

-- A value that begins at `at` is refused with 1, at its bad byte, if it can't be read, and with 3, at its start, if it is out of its range. (3.8, 3.10)
pub data BadValue (s : List ℕ) (at most : ℕ) : (number place : ℕ) → Type 0 where
  misspelled : {place : ℕ} → BadByteAt s at place → BadValue s at most 1 place
  out_of_range : (n : Number) → Spelled s at n → (n.value ≡ 0) ⊎ (most < n.value) → BadValue s at most 3 at

-- No test before the place `at` refuses, the c of a row begins there, and this row is hopeless. Between the row count's place `from` and `at` stand a row count
-- of at most the limit of rows, fewer rows than it counts, each of which a table may have, and the x, y and d of the next row. Its four values are in range,
-- and its c is above its d. (3.3)
pub record HopelessRowAt (s : List ℕ) (from at : ℕ) : Type 0 where
  pub count : ℕ
  pub rows : List Row
  pub row : Row
  pub next : ℕ
  pub few_rows : count ≤ max_rows
  pub fewer : length rows < count
  pub rows_acceptable : (r : Row) → Memᴰ r rows → AcceptableRow r
  pub in_range : WithinLimits row
  pub c_above_d : row.d < row.c
  pub before : PartStands s from (spelling count ++ (flatten (map spelled_row rows) ++ (spelling row.x ++ (spelling row.y ++ spelling row.d)))) at
  pub its_c : PartStands s at (spelling row.c) next

-- The rules refuse the rows whose count stands at the place `from`, with this number and at this place. (3.3, 3.7 to 3.10)
pub data RowsRefusedSo (s : List ℕ) (from : ℕ) : (number place : ℕ) → Type 0 where
  -- If the row count can't be read, that is refusal 1, at its bad byte. (3.8)
  no_count : {place : ℕ} → BadByteAt s from place → RowsRefusedSo s from 1 place
  -- If the row count is above the limit of rows, that is refusal 2, at its start, whatever follows. (3.9)
  too_large_count : (n : Number) → Spelled s from n → max_rows < n.value → RowsRefusedSo s from 2 from
  -- If a value can't be read, that is refusal 1, at its bad byte. If it is out of its range, that is refusal 3, at its start. (3.8, 3.10)
  bad_value : {number place at most : ℕ} → ValueNext s from at most → BadValue s at most number place → RowsRefusedSo s from number place
  -- If a row's four values are in range and its c is above its d, that is refusal 16, at the start of c, whatever follows. (3.3)
  hopeless_row : {at : ℕ} → HopelessRowAt s from at → RowsRefusedSo s from 16 at

-- ---- the timer, whose s stands at place 0

-- No test before the place `at` refuses, and the timer with this s and p ends there: a table may have it, and its spelling stands before `at`. (3.6, 3.16)
pub record TimerEnds (bytes : List ℕ) (at s p : ℕ) : Type 0 where
  pub good_timer : GoodTimer s p
  pub before : PartStands bytes 0 (spelling s ++ spelling p) at

-- The rules refuse the timer, with this number and at this place. (3.8, 3.17)
pub data TimerRefusedSo (bytes : List ℕ) : (number place : ℕ) → Type 0 where
  -- If s can't be read, that is refusal 1, at its bad byte. (3.8)
  no_s : {place : ℕ} → BadByteAt bytes 0 place → TimerRefusedSo bytes 1 place
  -- If p, which stands after s, can't be read, that is refusal 1, at its bad byte. If it is out of its range, that is refusal 3, at its start. Both hold
  -- whatever s is. (3.8, 3.17)
  bad_p : {number place : ℕ} (s : Number) → Spelled bytes 0 s → BadValue bytes s.next max_p number place → TimerRefusedSo bytes number place
  -- If p is in its range and s is not below it, that is refusal 3, at the start of s. (3.17)
  s_not_below : (s p : Number) → Spelled bytes 0 s → Spelled bytes s.next p → 1 ≤ p.value → p.value ≤ max_p → p.value ≤ s.value
      → TimerRefusedSo bytes 3 0

-- ---- servers, whose count stands at a place

-- No test before the place `at` refuses, and a server begins there. Between the server count's place `from` and `at` stand a server count of at most the limit
-- of servers, and fewer servers than it counts, each of which a table may have. (3.7)
pub record ServerNext (s : List ℕ) (from at : ℕ) : Type 0 where
  pub count : ℕ
  pub servers : List Server
  pub few_servers : count ≤ max_servers
  pub fewer : length servers < count
  pub each_good : (v : Server) → Memᴰ v servers → GoodServer v
  pub before : PartStands s from (spelling count ++ flatten (map spelled_server servers)) at

-- No test before the place `at` refuses, and the servers end there: their spelling stands between the server count's place `from` and `at`. (3.6, 3.7)
pub record ServersEnd (s : List ℕ) (from at : ℕ) (servers : List Server) : Type 0 where
  pub few_servers : length servers ≤ max_servers
  pub each_good : (v : Server) → Memᴰ v servers → GoodServer v
  pub before : PartStands s from (spelled_servers servers) at

-- A b that begins at `at`, after this a, is refused with 1, at its bad byte, if it can't be read, and with 3, at its start, if it is below a or above its
-- limit. (3.8, 3.19)
pub data BadB (s : List ℕ) (at a : ℕ) : (number place : ℕ) → Type 0 where
  misspelled_b : {place : ℕ} → BadByteAt s at place → BadB s at a 1 place
  b_out_of_range : (n : Number) → Spelled s at n → (n.value < a) ⊎ (max_b < n.value) → BadB s at a 3 at

-- The rules refuse the servers whose count stands at the place `from`, with this number and at this place. (3.7 to 3.9, 3.19)
pub data ServersRefusedSo (s : List ℕ) (from : ℕ) : (number place : ℕ) → Type 0 where
  -- If the server count can't be read, that is refusal 1, at its bad byte. (3.8)
  no_server_count : {place : ℕ} → BadByteAt s from place → ServersRefusedSo s from 1 place
  -- If the server count is above the limit of servers, that is refusal 2, at its start, whatever follows. (3.9)
  too_many_servers : (n : Number) → Spelled s from n → max_servers < n.value → ServersRefusedSo s from 2 from
  -- If an a can't be read, that is refusal 1, at its bad byte. If it is out of its range, that is refusal 3, at its start. (3.8, 3.19)
  bad_a : {number place at : ℕ} → ServerNext s from at → BadValue s at max_b number place → ServersRefusedSo s from number place
  -- If a b can't be read, that is refusal 1, at its bad byte. If it is below a or above its limit, that is refusal 3, at its start. (3.8, 3.19)
  bad_b : {number place at : ℕ} → ServerNext s from at → (a : Number) → Spelled s at a → 1 ≤ a.value → a.value ≤ max_b
      → BadB s a.next a.value number place → ServersRefusedSo s from number place

-- ---- tables

-- No test before the place `at` refuses, and the servers of the content end there. The row count stands at the place `from`, where the timer ends, and the
-- server count at the place `then`, where the rows end. (3.6, 3.7)
pub record ContentEnds (s : List ℕ) (at : ℕ) (content : Content) : Type 0 where
  pub from : ℕ
  pub then : ℕ
  pub timer : TimerEnds s from content.s content.p
  pub its_rows : RowsEnd s from then content.rows
  pub its_servers : ServersEnd s then at content.servers

-- The rules refuse the bytes as a table, with this number and at this place. (3.3, 3.7 to 3.12, 3.17, 3.19)
pub data RefusedSo (s : List ℕ) : (number place : ℕ) → Type 0 where
  -- If the rules refuse the timer, that is refusal 1 or 3. (3.8, 3.17)
  bad_timer : {number place : ℕ} → TimerRefusedSo s number place → RefusedSo s number place
  -- If the rules refuse the rows, whose count stands where a timer ends that a table may have, that is refusal 1, 2, 3 or 16. (3.3, 3.8 to 3.10)
  bad_rows : {number place from ts tp : ℕ} → TimerEnds s from ts tp → RowsRefusedSo s from number place → RefusedSo s number place
  -- If the rules refuse the servers, whose count stands where rows end that a table may have, that is refusal 1, 2 or 3. (3.8, 3.9, 3.19)
  bad_servers : {number place from then ts tp : ℕ} {rows : List Row} → TimerEnds s from ts tp → RowsEnd s from then rows
      → ServersRefusedSo s then number place → RefusedSo s number place
  -- If there are bytes after the last server, that is refusal 4, at the first of them. (3.11)
  bytes_after : {at : ℕ} {content : Content} → ContentEnds s at content → at < length s → RefusedSo s 4 at
  -- If H is above 1,048,576, that is refusal 5, at the table's length. (3.12)
  long_period : {content : Content} → ContentEnds s (length s) content → max_period < period_of content → RefusedSo s 5 (length s)

-- A row of a table is hopeless and no test before its c refuses. The c begins at this place. The row count stands at the place `from`, where a timer ends that
-- a table may have. (3.3, 3.6)
pub record HopelessRowIn (bytes : List ℕ) (place : ℕ) : Type 0 where
  pub s : ℕ
  pub p : ℕ
  pub from : ℕ
  pub timer : TimerEnds bytes from s p
  pub its_row : HopelessRowAt bytes from place

-- A table is refused with these numbers and no other: 1 to 5 and 16. (10.4)
abbrev pub TableRefusal : (number : ℕ) → Type 0
TableRefusal number = ((1 ≤ number) × (number ≤ 5)) ⊎ (number ≡ 16)

-- ---- what is proved (proofs/TableAnswers.antt and BadBytes.antt)

-- Reading bytes answers a refusal, with its number and its place, exactly when the rules refuse the bytes so. All other bytes are accepted, since an answer is
-- one or the other. (3.7 to 3.13, 3.17, 3.19)
abbrev pub RefusedExactly : Type 0
RefusedExactly = (s : List ℕ) (number place : ℕ) → Bytes s → SaysRefused s number place ↔ RefusedSo s number place

-- Bytes that are refused with 1 are refused at their first bad byte. (3.8)
abbrev pub RefusedAtTheFirstBadByte : Type 0
RefusedAtTheFirstBadByte = (s : List ℕ) (place : ℕ) → Bytes s → SaysRefused s 1 place → FirstBadByte s place

-- Bytes are refused as a table with the numbers 1 to 5 and 16 only. (10.4)
abbrev pub RefusedAsATable : Type 0
RefusedAsATable = (s : List ℕ) (number place : ℕ) → Bytes s → SaysRefused s number place → TableRefusal number

-- Bytes are refused with 16 exactly where a row is hopeless and no test before its c refuses, and at the start of that c. (3.3)
abbrev pub RefusedWithSixteen : Type 0
RefusedWithSixteen = (s : List ℕ) (place : ℕ) → Bytes s → SaysRefused s 16 place ↔ HopelessRowIn s place
