-- The limits of a table. All other definitions use them by name. (docs/RULES.md, section 3.)
use Rattle.std.specs.Prelude.{ℕ, ◌+◌}
use Rattle.table.specs.declared.Limits.{Limits}

-- A table has at most so many rows: the limit of rows. (3.1)
abbrev pub max_rows : ℕ
max_rows = 64

-- A table has at most so many servers: the limit of servers. (3.18)
abbrev pub max_servers : ℕ
max_servers = 8

-- A table has room for so many rows and servers together, each of which has a row number. (1.2)
abbrev pub max_sources : ℕ
max_sources = max_rows + max_servers

-- A row's x is at most this. (3.2)
abbrev pub max_x : ℕ
max_x = 64

-- A row's y is at most this. (3.2)
abbrev pub max_y : ℕ
max_y = 4096

-- A row's d is at most this. (3.2)
abbrev pub max_d : ℕ
max_d = 16384

-- A row's c is at most this. (3.2)
abbrev pub max_c : ℕ
max_c = 4096

-- A server's a and b are at most this. (3.18)
abbrev pub max_b : ℕ
max_b = 4096

-- The timer's p is at most this. (3.16)
abbrev pub max_p : ℕ
max_p = 4096

-- H is at most this many ticks. (3.4)
abbrev pub max_period : ℕ
max_period = 1048576

-- `Table::limits` hands out all limits of a table in one record. (3.1, 3.2, 3.4, 3.16, 3.18)
abbrev pub limits : Limits
limits = record { p = max_p; rows = max_rows; x = max_x; y = max_y; d = max_d; c = max_c; servers = max_servers; b = max_b; period = max_period }
