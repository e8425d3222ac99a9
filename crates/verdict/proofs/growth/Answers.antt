use Prim.Native.Nat.{ℕ, ◌+◌, ◌*◌, ◌≤◌}
use native.Mathlib.Omega.{arith}
use Rattle.theory.specs.Demand.{row_growth}
use Rattle.table.specs.declared.Table.{Table}
use Rattle.table.specs.Limits.{max_servers, max_period}
use Rattle.table.specs.Servers.{no_server}
use Rattle.table.specs.Tables.{no_row, InRange}
use Rattle.verdict.specs.Demand.{table_growth}
use Rattle.verdict.proofs.Sums.{none_summed, all_summed, summed_more}
use Rattle.verdict.proofs.Rows.{row_places}
use Rattle.verdict.proofs.Servers.{server_growth_in, server_places}
use Rattle.verdict.proofs.Bounds.{most, timer_growth_at_most, growth_at_most, server_growth_at_most}
use Rattle.verdict.proofs.Bounds.{base_at_most, server_sum_fits, sum_fits}
use Rattle.verdict.proofs.growth.Invariants.{timer_growth, base_growth}
use Rattle.verdict.proofs.growth.Goals as goal

module _ {t : Table} (in_range : InRange t) (period : ℕ) (h : period ≤ max_period) where
  -- The timer's part is within the bound for one row.
  timer_small : timer_growth t period ≤ most
  timer_small = timer_growth_at_most _ _ in_range.good_timer period h

  -- The servers' part and the timer's are within their bound.
  base_small : base_growth t period ≤ (max_servers + 1) * most
  base_small = base_at_most in_range (server_growth_in period) (λ v g. server_growth_at_most v g period h) timer_small

pub loop-k-init : goal.loop-k-init
loop-k-init c = none_summed _ _ (omega arith)

pub overflow_add-sum : goal.overflow_add-sum
overflow_add-sum c =
    let p = c.requires in
    let timer = timer_small p.0 _ p.1 in
    omega (arith, server_sum_fits p.0 _ (λ v g. server_growth_at_most v g _ p.1) timer c.loop-k.invariant c.loop-k-test.true)

pub loop-k-preserved : goal.loop-k-preserved
loop-k-preserved c =
    let more = summed_more no_server (server_places c.requires.0) c.loop-k.invariant c.loop-k-test.true in
    record { counted = more.counted; so_far = omega (arith, more.so_far) }

pub loop-i-init : goal.loop-i-init
loop-i-init c = none_summed _ _ (all_summed c.loop-k.invariant c.loop-k-test.false)

pub overflow_add-sum-in-loop-i : goal.overflow_add-sum-in-loop-i
unfolding row_growth
overflow_add-sum-in-loop-i c =
    let p = c.requires in
    let base = base_small p.0 _ p.1 in
    omega (arith, sum_fits p.0 _ (λ r l. growth_at_most r l _ p.1) base c.loop-i.invariant c.loop-i-test.true)

pub loop-i-preserved : goal.loop-i-preserved
unfolding row_growth
loop-i-preserved c =
    summed_more no_row (row_places c.requires.0) c.loop-i.invariant c.loop-i-test.true

pub returns : goal.returns
unfolding table_growth
returns c = all_summed c.loop-i.invariant c.loop-i-test.false
