-- What bytes are read as: a table, or a refusal. (docs/RULES.md, sections 3 and 10.)
use Rattle.std.specs.Prelude.{ℕ, zero, suc, ◌-◌, ◌≤◌, ◌<◌, ◌≡◌, true, cond, List, [], ◌∷◌, ◌++◌, ltb, leb, length, take, replicate, get_or, Result, Ok, Err}
use Rattle.kinds.specs.declared.RefusedAt.{RefusedAt}
use Rattle.kinds.specs.declared.Refusal.TheVariants.{TooManyRows, ExtraBytes, PeriodTooLong}
use Rattle.numbers.specs.declared.Number.{Number}
use Rattle.numbers.specs.Reading.{read_at}
use Rattle.table.specs.declared.RowsAt.{RowsAt}
use Rattle.table.specs.declared.RowAt.{RowAt}
use Rattle.table.specs.declared.Row.{Row}
use Rattle.table.specs.declared.Server.{Server}
use Rattle.table.specs.declared.TimerAt.{TimerAt}
use Rattle.table.specs.declared.Table.{Table}
use Rattle.table.specs.declared.TableRead.{TableRead}
use Rattle.table.specs.Limits.{max_rows, max_servers, max_period}
use Rattle.table.specs.Content.{Content, rows_alone}
use Rattle.table.specs.Period.{period_of}
use Rattle.table.specs.Rows.{row_in_range, read_row}
use Rattle.table.specs.Timer.{GoodTimer, read_timer}
use Rattle.table.specs.Servers.{GoodServer, no_server, held_servers, Servers, servers, servers_from}
use Rattle.table.specs.Servers as servers

-- ---- rows and tables

-- An unused row holds zeros. (3.14)
abbrev pub no_row : Row
no_row = record { x = 0; y = 0; d = 0; c = 0 }

-- A table holds its rows first, and the unused rows after them hold zeros. (3.14)
abbrev pub held_rows : List Row → List Row
held_rows rows = rows ++ replicate (max_rows - length rows) no_row

-- The rows in use are the first `count` rows of a table. (3.14)
abbrev pub rows_of : Table → List Row
rows_of t = take t.count t.rows

-- The servers in use are the first `serving` servers of a table. (3.14)
abbrev pub servers_of : Table → List Server
servers_of t = take t.serving t.servers

-- The content of a table is its timer, its rows in use and its servers in use. (1.2, 3.14, 3.16)
abbrev pub content_of : Table → Content
content_of t = record { s = t.s; p = t.p; rows = rows_of t; servers = servers_of t }

-- `table_of` is the table that holds a content. (3.14)
abbrev pub table_of : Content → Table
table_of content = record {
  s = content.s;
  p = content.p;
  rows = held_rows content.rows;
  count = length content.rows;
  servers = held_servers content.servers;
  serving = length content.servers;
}

-- The empty table has no rows and no servers, and its timer, with s = 0 and p = 1, takes no tick. (3.15)
abbrev pub empty_table : Table
empty_table = table_of (rows_alone [])

-- A table is in range when its timer is one that a table may have, it has room for as many rows and servers as their limits say, no more of them are in use,
-- each row in use is in range and has a c of at most its d, and each server in use is one that a table may have. (3.1 to 3.3, 3.14, 3.16, 3.18)
pub record InRange (t : Table) : Type 0 where
  pub good_timer : GoodTimer t.s t.p
  pub few_rows : t.count ≤ max_rows
  pub all_places : length t.rows ≡ max_rows
  pub rows_in_range : (i : ℕ) → i < t.count → row_in_range (get_or t.rows i no_row) ≡ true
  pub c_within_d : (i : ℕ) → i < t.count → (get_or t.rows i no_row).c ≤ (get_or t.rows i no_row).d
  pub few_servers : t.serving ≤ max_servers
  pub all_servers : length t.servers ≡ max_servers
  pub good_servers : (k : ℕ) → k < t.serving → GoodServer (get_or t.servers k no_server)

-- ---- how rows are read

-- Reading rows gives the rows and the place right after them, or the refusal that ended the reading. (3.7)
pub data Rows : Type 0 where
  rows : List Row → (next : ℕ) → Rows
  refused : RefusedAt → Rows

-- `in_front` puts one row in front of the rows that were read after it. If those were refused, the refusal stays.
abbrev pub in_front : Row → Rows → Rows
in_front r (rows rs next) = rows (r ∷ rs) next
in_front r (refused at) = refused at

-- After a row that was read the rows go on with `k`, and a refusal ends them. (3.7)
abbrev pub after_row : Result RowAt RefusedAt → (Row → (next : ℕ) → Rows) → Rows
after_row (Ok r) k = k r.row r.next
after_row (Err at) k = refused at

-- `read_rows` reads n rows, one after another, from the place `at` on. (3.6, 3.7)
unfoldable pub read_rows : (n : ℕ) → List ℕ → (at : ℕ) → Rows
read_rows zero s at = rows [] at
read_rows (suc n) s at = after_row (read_row s at) (λ r next. in_front r (read_rows n s next))

-- After the row count its rows are read. A count above the limit of rows is refusal 2 at once, at the count's start, and a count that can't be read keeps the
-- reader's refusal. (3.8, 3.9)
abbrev pub after_count : List ℕ → (at : ℕ) → Result Number RefusedAt → Rows
after_count s at (Ok n) = cond (leb n.value max_rows) (read_rows n.value s n.next) (refused (record { refusal = TooManyRows; place = at }))
after_count s at (Err r) = refused r

-- `rows_from` reads the row count at a place, and then the rows after it. (3.6, 3.7)
abbrev pub rows_from : List ℕ → (at : ℕ) → Rows
rows_from s at = after_count s at (read_at s at)

-- The code holds the rows that were read as a table does. (3.14)
abbrev pub held_as : Rows → Result RowsAt RefusedAt
held_as (rows rs next) = Ok (record { rows = held_rows rs; count = length rs; next = next })
held_as (refused r) = Err r

-- ---- how a table is read

-- For a refused table the empty table is answered, beside the refusal. (10.5)
abbrev pub refused_table : RefusedAt → TableRead
refused_table at = record { table = empty_table; answer = Err at }

-- The rows and servers were read up to the place `next`. Bytes after them are refusal 4. After that test, an H above 1,048,576 is refusal 5. Otherwise the
-- table is accepted, with its H. (3.11, 3.12, 3.13)
abbrev pub at_end : List ℕ → Content → (next : ℕ) → TableRead
at_end s content next =
    cond (ltb next (length s)) (refused_table (record { refusal = ExtraBytes; place = next }))
    (cond (leb (period_of content) max_period) (record { table = table_of content; answer = Ok (period_of content) })
    (refused_table (record { refusal = PeriodTooLong; place = length s })))

-- `content_with` is the content that has a timer, these rows and these servers. (3.6)
abbrev pub content_with : TimerAt → List Row → List Server → Content
content_with t rs vs = record { s = t.s; p = t.p; rows = rs; servers = vs }

-- After the servers come the tests for extra bytes and of H. A refusal of the servers is the table's refusal. (3.7)
abbrev pub after_servers : List ℕ → TimerAt → List Row → Servers → TableRead
after_servers s t rs (servers vs next) = at_end s (content_with t rs vs) next
after_servers s t rs (servers.refused at) = refused_table at

-- After the rows come the server count and the servers. A refusal of the rows is the table's refusal. (3.7)
abbrev pub after_rows : List ℕ → TimerAt → Rows → TableRead
after_rows s t (rows rs next) = after_servers s t rs (servers_from s next)
after_rows s t (refused at) = refused_table at

-- After the timer come the row count and the rows. A refusal of the timer is the table's refusal. (3.7, 3.17)
abbrev pub after_timer : List ℕ → Result TimerAt RefusedAt → TableRead
after_timer s (Ok t) = after_rows s t (rows_from s t.next)
after_timer s (Err at) = refused_table at

-- The bytes are read as a table: the timer's s and p, the row count, its rows, the server count, its servers, and nothing after them. (3.6, 3.7)
abbrev pub table_read : List ℕ → TableRead
table_read s = after_timer s (read_timer s)
