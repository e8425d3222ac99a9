-- `Table::cost_limits` meets its contract. The loop's invariant is `LimitsSoFar`: the c of each row passed is written, and 4,096 stands everywhere behind them.
use Prim.Native.Nat.{ℕ, ◌-◌, ◌≤◌}
use mathlib.Core.Path.{◌≡◌}
use mathlib.Core.List.{List}
use lib.ListN.{length, take, drop, replicate}
use Rattle.table.specs.declared.Table.{Table}
use Rattle.table.specs.Limits.{max_rows, max_sources, max_c}
use Rattle.table.specs.Costs.{cs_of}
use Rattle.table.proofs.Table.cost_limits.Given as goal

-- The c of each of the first i rows is written, and every entry behind them is 4,096.
pub record LimitsSoFar (t : Table) (limits : List ℕ) (i : ℕ) : Type 0 where
  pub not_past : i ≤ t.count
  pub few : i ≤ max_rows
  pub all_places : length limits ≡ max_sources
  pub so_far : take i limits ≡ cs_of (take i t.rows)
  pub behind : drop i limits ≡ replicate (max_sources - i) max_c

abbrev pub invariant-loop-i : goal.invariant-loop-i
invariant-loop-i l = LimitsSoFar l.self l.limits l.i
