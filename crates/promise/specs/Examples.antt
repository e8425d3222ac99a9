-- The examples of the rules, V1 to V8, T1 to T7, D1 to D3 and S1 to S8, as one list under one claim. For a feasible table the claim is that every length fits,
-- however long. D1 to D3 are claimed for every cost c in range. (4.8, 4.10, 5.13, 5.15, 5.19)
use Rattle.std.specs.Prelude.{ℕ, ◌≤◌, ◌≡◌, List, [], ◌∷◌}
use Rattle.kinds.specs.Numbering.{Said}
use Rattle.theory.specs.Lists.{All}
use Rattle.table.specs.declared.Row.{Row}
use Rattle.table.specs.Limits.{max_c}
use Rattle.table.specs.declared.Server.{Server}
use Rattle.table.specs.Content.{Content, without_servers, rows_alone}
use Rattle.table.specs.Tables.{table_read}
use Rattle.table.specs.SpelledTables.{spelled_table}
use Rattle.due.specs.declared.Kept.{Kept}
use Rattle.due.specs.Kept.{nothing_kept, due_of, kept_with}
use Rattle.due.specs.OddJobs.{odd_due_of}
use Rattle.verdict.specs.declared.Verdict.{Verdict}
use Rattle.verdict.specs.Demand.{table_demand}
use Rattle.verdict.specs.Verdict.{Judged, verdict_says}
use Rattle.promise.specs.NoOrder.{due_at}

-- An example is a table's bytes and what their verdict says, or a table's demand in a length, or releases of a row with their due times, or releases of a
-- server with their costs and due times. (4.8, 4.10, 5.13, 5.15, 5.19)
pub data Example : Type 0 where
  verdict : (bytes : List ℕ) → Said → Example
  demand : (bytes : List ℕ) (L units : ℕ) → Example
  due_times : (x y d : ℕ) (releases due_times : List ℕ) → Example
  odd_due_times : (a b : ℕ) (releases costs due_times : List ℕ) → Example

-- `due_times_from` lists the due times of releases at full cost, one after another, by the definitions that a release uses. (4.2, 4.3)
abbrev pub due_times_from : Kept → Row → (releases : List ℕ) → List ℕ
due_times_from k r [] = []
due_times_from k r (t ∷ ts) = let due = due_at (due_of k r t r.c) in due.0 ∷ due_times_from (kept_with k r due) r ts

-- `odd_due_times_from` lists the due times of a server's releases with their costs, one after another, by the definitions that a release uses. (4.9)
abbrev pub odd_due_times_from : Server → (last : ℕ) (releases costs : List ℕ) → List ℕ
odd_due_times_from v last [] costs = []
odd_due_times_from v last (t ∷ ts) [] = []
odd_due_times_from v last (t ∷ ts) (e ∷ es) = let due = due_at (odd_due_of v last t e) in due.0 ∷ odd_due_times_from v due.0 ts es

-- The right verdict for the bytes says this. `OneVerdict` of crate `verdict` proves that no other verdict is right.
abbrev pub RightVerdictSays : (bytes : List ℕ) → Said → Type 0
RightVerdictSays bytes said = (v : Verdict) × Judged bytes v × (verdict_says v ≡ said)

-- The claim of each kind of example is that its verdict is right, that its demand is the table's, or that its due times are those of the rules.
abbrev pub ExampleHolds : Example → Type 0
ExampleHolds (verdict bytes said) = RightVerdictSays bytes said
ExampleHolds (demand bytes L units) = table_demand (table_read bytes).table L ≡ units
ExampleHolds (due_times x y d releases times) =
    (c : ℕ) → 1 ≤ c → c ≤ max_c → due_times_from nothing_kept (record { x = x; y = y; d = d; c = c }) releases ≡ times
ExampleHolds (odd_due_times a b releases costs times) = odd_due_times_from (record { a = a; b = b }) 0 releases costs ≡ times

-- `row` makes a row of its four numbers. (1.1)
abbrev row : (x y d c : ℕ) → Row
row x y d c = record { x = x; y = y; d = d; c = c }

-- Feasible says 20, and both its numbers are 0. (9.5)
abbrev pub feasible : Said
feasible = record { number = 20; first = 0; second = 0 }

-- Overloaded says 21, the smallest length that fails, and its demand. (9.5)
abbrev pub overloaded : (length units : ℕ) → Said
overloaded length units = record { number = 21; first = length; second = units }

-- `served` is a table's content by its timer's s and p, its rows and its servers. (1.2, 3.16, 3.18)
abbrev served : (s p : ℕ) → List Row → List Server → Content
served s p rows servers = record { s = s; p = p; rows = rows; servers = servers }

-- `server` makes a server of its two numbers. (1.21)
abbrev server : (a b : ℕ) → Server
server a b = record { a = a; b = b }

-- V1 is spelled `00 01 00 00`. V1 and V2 are written here by their bytes, and the other tables by their rows. (5.13)
abbrev pub v1 : List ℕ
v1 = 0x00 ∷ 0x01 ∷ 0x00 ∷ 0x00 ∷ []

-- V2 is spelled `00 01 01 01 02 06 01 00`. (5.13)
abbrev pub v2 : List ℕ
v2 = 0x00 ∷ 0x01 ∷ 0x01 ∷ 0x01 ∷ 0x02 ∷ 0x06 ∷ 0x01 ∷ 0x00 ∷ []

-- V3 has these rows: (1, 4, 4, 2) and (1, 6, 6, 3). (5.13)
abbrev pub rows_of_v3 : List Row
rows_of_v3 = row 1 4 4 2 ∷ row 1 6 6 3 ∷ []

-- V3 has its rows alone. (5.13)
abbrev pub v3 : List ℕ
v3 = spelled_table (rows_alone rows_of_v3)

-- V4 has the rows (1, 4, 3, 2) and (1, 6, 5, 3). (5.13)
abbrev pub v4 : List ℕ
v4 = spelled_table (rows_alone (row 1 4 3 2 ∷ row 1 6 5 3 ∷ []))

-- V5 has the row (3, 6, 6, 2). (5.13)
abbrev pub v5 : List ℕ
v5 = spelled_table (rows_alone (row 3 6 6 2 ∷ []))

-- V6 has the row (3, 6, 5, 2). (5.13)
abbrev pub v6 : List ℕ
v6 = spelled_table (rows_alone (row 3 6 5 2 ∷ []))

-- V7 has the row (2, 1, 1, 1). (5.13)
abbrev pub v7 : List ℕ
v7 = spelled_table (rows_alone (row 2 1 1 1 ∷ []))

-- V8 has the row (1, 2, 10, 3). (5.13)
abbrev pub v8 : List ℕ
v8 = spelled_table (rows_alone (row 1 2 10 3 ∷ []))

-- T1 is spelled `01 04 00 00`. T1 and T2 are written here by their bytes. (5.15)
abbrev pub t1 : List ℕ
t1 = 0x01 ∷ 0x04 ∷ 0x00 ∷ 0x00 ∷ []

-- T2 is spelled `01 04 01 01 04 04 03 00`. (5.15)
abbrev pub t2 : List ℕ
t2 = 0x01 ∷ 0x04 ∷ 0x01 ∷ 0x01 ∷ 0x04 ∷ 0x04 ∷ 0x03 ∷ 0x00 ∷ []

-- T3 has the rows of V3, and a timer with s = 0 and p = 12, which takes no tick. (5.15)
abbrev pub t3 : List ℕ
t3 = spelled_table (without_servers 0 12 rows_of_v3)

-- T4 has the rows of V3, and a timer that takes one tick of every 12. (5.15)
abbrev pub t4 : List ℕ
t4 = spelled_table (without_servers 1 12 rows_of_v3)

-- T5 has the row (1, 4, 3, 1), and a timer that takes three ticks of every 4. (5.15)
abbrev pub t5 : List ℕ
t5 = spelled_table (without_servers 3 4 (row 1 4 3 1 ∷ []))

-- T6 has the row (1, 10, 7, 4), and a timer that takes two ticks of every 5. (5.15)
abbrev pub t6 : List ℕ
t6 = spelled_table (without_servers 2 5 (row 1 10 7 4 ∷ []))

-- T7 has the row (1, 2, 10, 2), and a timer that takes every other tick. (5.15)
abbrev pub t7 : List ℕ
t7 = spelled_table (without_servers 1 2 (row 1 2 10 2 ∷ []))

-- S2 is spelled `00 01 00 01 01 04`. S2 and S5 are written here by their bytes. (5.19)
abbrev pub s2 : List ℕ
s2 = 0x00 ∷ 0x01 ∷ 0x00 ∷ 0x01 ∷ 0x01 ∷ 0x04 ∷ []

-- S3 has no rows, and a server that may take every tick. (5.19)
abbrev pub s3 : List ℕ
s3 = spelled_table (served 0 1 [] (server 4096 4096 ∷ []))

-- S4 has the rows of V3 and the server (1, 12). (5.19)
abbrev pub s4 : List ℕ
s4 = spelled_table (served 0 1 rows_of_v3 (server 1 12 ∷ []))

-- S5 is spelled `00 01 00 02 01 01 01 80 20`: it has no rows, and the servers (1, 1) and (1, 4096). (5.19)
abbrev pub s5 : List ℕ
s5 = 0x00 ∷ 0x01 ∷ 0x00 ∷ 0x02 ∷ 0x01 ∷ 0x01 ∷ 0x01 ∷ 0x80 ∷ 0x20 ∷ []

-- S6 has no rows, a timer that takes one tick of every 4, and a server for the other three. (5.19)
abbrev pub s6 : List ℕ
s6 = spelled_table (served 1 4 [] (server 3 4 ∷ []))

-- S7 has no rows, a timer that takes one tick of every 4, and the server (4, 5). (5.19)
abbrev pub s7 : List ℕ
s7 = spelled_table (served 1 4 [] (server 4 5 ∷ []))

-- S8 has the row (1, 4, 7, 2) and the servers (1, 3) and (1, 4). Its witness is no length at which the row's demand steps up. (5.19)
abbrev pub s8 : List ℕ
s8 = spelled_table (served 0 1 (row 1 4 7 2 ∷ []) (server 1 3 ∷ server 1 4 ∷ []))

-- The list has V1 to V8, T1 to T7 and S2 to S8 with their verdicts, the demand of V3 and T3 in 12 ticks and of T2 in 4, D1 to D3 with their due times, and S1
-- with its due times. (4.8, 4.10, 5.13, 5.15, 5.19)
abbrev pub examples : List Example
examples =
    verdict v1 feasible
    ∷ verdict v2 feasible
    ∷ verdict v3 feasible
    ∷ demand v3 12 12
    ∷ verdict v4 (overloaded 11 12)
    ∷ verdict v5 feasible
    ∷ verdict v6 (overloaded 5 6)
    ∷ verdict v7 (overloaded 1 2)
    ∷ verdict v8 (overloaded 26 27)
    ∷ verdict t1 feasible
    ∷ verdict t2 feasible
    ∷ demand t2 4 4
    ∷ verdict t3 feasible
    ∷ demand t3 12 12
    ∷ verdict t4 (overloaded 12 13)
    ∷ verdict t5 (overloaded 3 4)
    ∷ verdict t6 (overloaded 7 8)
    ∷ verdict t7 (overloaded 18 19)
    -- These three are D1 to D3.
    ∷ due_times 1 2 6 (0 ∷ 0 ∷ 0 ∷ 3 ∷ 3 ∷ 6 ∷ []) (6 ∷ 8 ∷ 10 ∷ 12 ∷ 14 ∷ 16 ∷ [])
    ∷ due_times 3 6 6 (0 ∷ 0 ∷ 0 ∷ 3 ∷ 3 ∷ 6 ∷ []) (6 ∷ 6 ∷ 6 ∷ 12 ∷ 12 ∷ 12 ∷ [])
    ∷ due_times 1 2 6 (0 ∷ 20 ∷ []) (6 ∷ 26 ∷ [])
    -- This one is S1.
    ∷ odd_due_times 1 4 (30 ∷ 69 ∷ 140 ∷ []) (10 ∷ 20 ∷ 20 ∷ []) (70 ∷ 150 ∷ 230 ∷ [])
    ∷ verdict s2 feasible
    ∷ verdict s3 feasible
    ∷ verdict s4 (overloaded 12 13)
    ∷ verdict s5 (overloaded 4096 4097)
    ∷ verdict s6 feasible
    ∷ verdict s7 (overloaded 5 6)
    ∷ verdict s8 (overloaded 36 37)
    ∷ []

-- Every example of the rules holds. (4.8, 4.10, 5.13, 5.15, 5.19)
abbrev pub ExamplesHold : Type 0
ExamplesHold = All ExampleHolds examples
