-- `verdict::scan_range` meets its contract: the outer loop passes lengths that fit. In one length, the first inner loop adds the demands of the servers to the
-- ticks that the timer takes there, and the second adds those of the rows to this sum.
use Prim.Native.Nat.{ℕ, ◌+◌, ◌≤◌, ◌<◌}
use Rattle.theory.specs.Lists.{total}
use Rattle.theory.specs.Ticks.{timer_takes}
use Rattle.table.specs.declared.Table.{Table}
use Rattle.table.specs.Tables.{servers_of}
use Rattle.verdict.specs.Demand.{table_demand}
use Rattle.verdict.proofs.Sums.{Summed}
use Rattle.verdict.proofs.Rows.{demand_in}
use Rattle.verdict.proofs.Servers.{server_demand_in}
use Rattle.verdict.proofs.scan_range.Given as goal

-- The ticks that the timer takes are there before the first inner loop.
abbrev pub timer_part : Table → (L : ℕ) → ℕ
timer_part t L = timer_takes t.s t.p L

-- The servers' demands and the ticks that the timer takes are there before the second inner loop.
abbrev pub base_part : Table → (L : ℕ) → ℕ
base_part t L = total (server_demand_in L) (servers_of t) + timer_part t L

abbrev pub invariant-loop-k : goal.invariant-loop-k
invariant-loop-k l =
    Summed (server_demand_in l.length) l.table.servers l.table.serving (timer_part l.table l.length) l.demand l.k

abbrev pub invariant-loop-i : goal.invariant-loop-i
invariant-loop-i l =
    Summed (demand_in l.length) l.table.rows l.table.count (base_part l.table l.length) l.demand l.i

abbrev pub invariant-loop-length : goal.invariant-loop-length
invariant-loop-length l = (l.first ≤ l.length) × ((L : ℕ) → L < l.length → l.first ≤ L → table_demand l.table L ≤ L)
