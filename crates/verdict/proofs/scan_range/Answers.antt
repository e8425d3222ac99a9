use Prim.Native.Nat.{ℕ, ◌+◌, ◌*◌, ◌≤◌}
use native.Mathlib.Omega.{arith}
use borrow.Author.Count.{below_more}
use Rattle.table.specs.declared.Table.{Table}
use Rattle.table.specs.Limits.{max_servers}
use Rattle.table.specs.Servers.{no_server}
use Rattle.table.specs.Tables.{no_row, InRange}
use Rattle.verdict.specs.Demand.{table_demand, max_length}
use Rattle.verdict.proofs.Sums.{none_summed, all_summed, summed_more}
use Rattle.verdict.proofs.Rows.{row_places}
use Rattle.verdict.proofs.Servers.{server_demand_in, server_places}
use Rattle.verdict.proofs.Bounds.{most, takes_at_most, demand_at_most, server_demand_at_most, base_at_most, server_sum_fits, sum_fits}
use Rattle.verdict.proofs.scan_range.Invariants.{timer_part, base_part}
use Rattle.verdict.proofs.scan_range.Goals as goal

module _ {t : Table} (in_range : InRange t) (L : ℕ) (looked_at : L ≤ max_length) where
  -- The timer's part is within the bound for one row.
  timer_small : timer_part t L ≤ most
  timer_small = takes_at_most _ _ in_range.good_timer L looked_at

  -- The servers' part and the timer's are within their bound.
  base_small : base_part t L ≤ (max_servers + 1) * most
  base_small = base_at_most in_range (server_demand_in L) (λ v g. server_demand_at_most v g L looked_at) timer_small

pub loop-k-init : goal.loop-k-init
loop-k-init c = none_summed _ _ c.timer_takes-demand.ensures

pub overflow_add-demand : goal.overflow_add-demand
overflow_add-demand c =
    let in_range = c.requires.0 in
    let timer = timer_small in_range c.loop-length.length (omega arith) in
    omega (arith, server_sum_fits in_range _ (λ v g. server_demand_at_most v g _ (omega arith)) timer c.loop-k.invariant c.loop-k-test.true)

pub loop-k-preserved : goal.loop-k-preserved
loop-k-preserved c =
    let in_range = c.requires.0 in
    rw c.server_demand-demand.ensures (summed_more no_server (server_places in_range) c.loop-k.invariant c.loop-k-test.true)

pub loop-i-init : goal.loop-i-init
loop-i-init c = none_summed _ _ (all_summed c.loop-k.invariant c.loop-k-test.false)

pub overflow_add-demand-in-loop-i : goal.overflow_add-demand-in-loop-i
overflow_add-demand-in-loop-i c =
    let in_range = c.requires.0 in
    let base = base_small in_range c.loop-length.length (omega arith) in
    omega (arith, sum_fits in_range _ (λ r l. demand_at_most r l _ (omega arith)) base c.loop-i.invariant c.loop-i-test.true)

pub loop-i-preserved : goal.loop-i-preserved
loop-i-preserved c =
    let in_range = c.requires.0 in
    rw c.row_demand-demand.ensures (summed_more no_row (row_places in_range) c.loop-i.invariant c.loop-i-test.true)

pub returns-then-length-demand : goal.returns-then-length-demand
unfolding table_demand
returns-then-length-demand c =
    let whole = all_summed c.loop-i.invariant c.loop-i-test.false in
    (omega arith, omega arith, omega (arith, whole), whole, λ M h k. c.loop-length.invariant.1 M k h)

pub loop-length-preserved : goal.loop-length-preserved
unfolding table_demand
loop-length-preserved c =
    let whole = all_summed c.loop-i.invariant c.loop-i-test.false in
    (omega arith, below_more _ _ c.loop-length.invariant.1 (λ h. omega (arith, whole)))
