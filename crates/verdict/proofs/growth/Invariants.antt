-- `verdict::growth` meets its contract: the first loop adds the growths of the servers to that of the timer, and the second adds those of the rows to this sum.
use Prim.Native.Nat.{ℕ, ◌+◌, ◌*◌, ◌/◌}
use Rattle.theory.specs.Lists.{total}
use Rattle.table.specs.declared.Table.{Table}
use Rattle.table.specs.Tables.{servers_of}
use Rattle.verdict.proofs.Sums.{Summed}
use Rattle.verdict.proofs.Rows.{growth_in}
use Rattle.verdict.proofs.Servers.{server_growth_in}
use Rattle.verdict.proofs.growth.Given as goal

-- The timer's part of the growth is there before the first loop.
abbrev pub timer_growth : Table → (period : ℕ) → ℕ
timer_growth t period = t.s * (period / t.p)

-- The servers' part and the timer's are there before the second loop.
abbrev pub base_growth : Table → (period : ℕ) → ℕ
base_growth t period = total (server_growth_in period) (servers_of t) + timer_growth t period

abbrev pub invariant-loop-k : goal.invariant-loop-k
invariant-loop-k l = Summed (server_growth_in l.period) l.table.servers l.table.serving (timer_growth l.table l.period) l.sum l.k

abbrev pub invariant-loop-i : goal.invariant-loop-i
invariant-loop-i l = Summed (growth_in l.period) l.table.rows l.table.count (base_growth l.table l.period) l.sum l.i
