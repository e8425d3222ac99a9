-- A table's demand is a curve, and so some lengths settle its verdict. (docs/RULES.md, section 5.)
use Rattle.std.specs.Prelude.{ℕ, ◌+◌, ◌*◌, ◌≤◌, ◌<◌, ◌≡◌, Ok}
use Rattle.std.specs.Int.{◌∣◌}
use mathlib.Core.List.{List, Memᴰ}
use Rattle.numbers.specs.SpelledNumbers.{Bytes}
use Rattle.theory.specs.Curves.{Curve, EveryLengthFits, SmallestFailing, FitsUpTo, FailsUpTo}
use Rattle.table.specs.declared.Row.{Row}
use Rattle.table.specs.declared.Server.{Server}
use Rattle.table.specs.declared.Table.{Table}
use Rattle.table.specs.Tables.{rows_of, servers_of, table_read, InRange}
use Rattle.verdict.specs.Demand.{table_demand, table_growth, largest_d}

-- ---- what is proved (proofs/TableCurve.antt)

-- The demand of a table is a curve: from the largest d on it repeats itself in every period that p, each y and each b divide, higher by its growth in that
-- period. (5.3, 5.7)
abbrev pub TableIsACurve : Type 0
TableIsACurve = (t : Table) (period : ℕ) → InRange t → t.p ∣ period → ((r : Row) → Memᴰ r (rows_of t) → r.y ∣ period)
    → ((v : Server) → Memᴰ v (servers_of t) → v.b ∣ period) → Curve (table_demand t) (largest_d t) period (table_growth t period)

-- ---- how far the verdict has to look (proofs/Scans.antt)

-- P holds for every accepted table and its H.
abbrev OfAccepted : (Table → (period : ℕ) → Type 0) → Type 0
OfAccepted P = (s : List ℕ) (period : ℕ) → Bytes s → (table_read s).answer ≡ Ok period → P (table_read s).table period

-- Where the sum of x · c / y over the rows, of a / b over the servers and of s / p is at most 1, the lengths up to H + the largest d settle every length.
-- (5.7, 5.8)
abbrev pub LengthsThatSettle : Type 0
LengthsThatSettle = OfAccepted λ t period. table_growth t period ≤ period → FitsUpTo (table_demand t) (period + largest_d t) → EveryLengthFits (table_demand t)

-- Where the sum of x · c / y over the rows, of a / b over the servers and of s / p is at most 1, the smallest length that fails, if any does, is at most H +
-- the largest d. (5.7, 5.8)
abbrev pub SmallestIsAmongThem : Type 0
SmallestIsAmongThem = OfAccepted λ t period. table_growth t period ≤ period → (L : ℕ) → SmallestFailing (table_demand t) L → L ≤ period + largest_d t

-- Where the sum of x · c / y over the rows, of a / b over the servers and of s / p is above 1, a length fails at or below (the largest d + 1) · H + the
-- largest d. (5.9)
abbrev pub OverloadedAboveOne : Type 0
OverloadedAboveOne = OfAccepted λ t period. period < table_growth t period → FailsUpTo (table_demand t) ((largest_d t + 1) * period + largest_d t)
