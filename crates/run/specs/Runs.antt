-- Fresh runs, and how a run is started on a table's bytes. (docs/RULES.md, sections 6.1 to 6.4.)
use Rattle.kinds.specs.declared.RefusedAt.{RefusedAt}
use Rattle.std.specs.Prelude.{ℕ, ◌+◌, ◌-◌, Bool, cond, List, ltb, get_or, replicate, Result, Ok, Err}
use Rattle.table.specs.declared.Row.{Row}
use Rattle.kinds.specs.declared.Tick.{Tick}
use Rattle.table.specs.declared.Server.{Server}
use Rattle.table.specs.declared.Table.{Table}
use Rattle.table.specs.Limits.{max_rows, max_servers, max_c}
use Rattle.table.specs.Servers.{no_server}
use Rattle.table.specs.Tables.{no_row, table_read}
use Rattle.due.specs.Kept.{nothing_kept, no_kept}
use Rattle.due.specs.declared.Kept.{Kept}
use Rattle.jobs.specs.Places.{empty_pending}
use Rattle.run.specs.declared.Run.{Run}
use Rattle.run.specs.declared.Started.{Started}

-- The fresh run of a table has the table's timer, rows and servers, the clock at 0, no pending job, the next serial 0, no due time kept, 0 for every server's
-- last due time, and no job ended early. (6.3)
abbrev pub fresh_run : Table → Run
fresh_run t = record {
  table = t;
  clock = record { 0 = 0 };
  pending = empty_pending;
  next = record { 0 = 0 };
  kept = replicate max_rows nothing_kept;
  last = replicate max_servers (record { 0 = 0 });
  ended = 0;
}

-- A start is ready where the table is accepted, and otherwise gives the table's refusal. (6.4)
abbrev pub start_answer : Result ℕ RefusedAt → Result (Unit {0}) RefusedAt
start_answer (Ok period) = Ok tt
start_answer (Err r) = Err r

-- A run started on a table's bytes. An accepted table, an overloaded one too, gives its fresh run. Other bytes give the table's refusal, with the fresh run of
-- the empty table: `table_read` gives the empty table beside every refusal. (6.4)
abbrev pub started : List ℕ → Started
started s = record { run = fresh_run (table_read s).table; answer = start_answer (table_read s).answer }

-- A row number is in use when it is below the sum of the table's row count and its server count. (3.14)
abbrev pub row_in_use : Table → (row : ℕ) → Bool
row_in_use t row = ltb row (t.count + t.serving)

-- A row number in use is a row's when it is below the table's row count, and otherwise a server's. (1.2)
abbrev pub is_row : Table → (row : ℕ) → Bool
is_row t row = ltb row t.count

-- The row of a table with this row number. (1.2)
abbrev pub row_at : Table → (row : ℕ) → Row
row_at t row = get_or t.rows row no_row

-- The server of a table with this row number: server k has the row number k plus the row count. (1.2)
abbrev pub server_at : Table → (row : ℕ) → Server
server_at t row = get_or t.servers (row - t.count) no_server

-- The most that a job of the row number may cost, which is the row's c, and 4,096 for a server. (1.6, 3.20)
abbrev pub cost_limit : Table → (row : ℕ) → ℕ
cost_limit t row = cond (is_row t row) (row_at t row).c max_c

-- The due times that the run keeps for a row. (4.6)
abbrev pub kept_of : Run → (row : ℕ) → Kept
kept_of run row = get_or run.kept row no_kept

-- The last due time of the server with this row number. (4.9)
abbrev pub last_of : Run → (row : ℕ) → Tick
last_of run row = get_or run.last (row - run.table.count) (record { 0 = 0 })
