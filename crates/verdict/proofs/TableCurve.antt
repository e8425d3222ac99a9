-- The demand of a table is a curve, since it is the sum of its rows' demands, of its servers' demands and of the ticks that the timer takes, and each of these
-- is a curve. A row's curve starts at its own d, and a server's and the timer's start at 0, so that all may be said to start at the largest d.
use Prim.Native.Nat.{◌*◌, ◌/◌, ◌≤◌}
use mathlib.Core.Path.{ap}
use mathlib.Core.List.{List, Memᴰ}
use native.Mathlib.Omega.{arith}
use Rattle.theory.specs.Ticks.{timer_takes}
use Rattle.theory.proofs.Lists.{all_at, all_of_members}
use Rattle.theory.proofs.Timers.{timer_is_a_curve}
use Rattle.theory.proofs.Curves.{two_curves_add_up, sums_are_curves, starts_later}
use Rattle.theory.proofs.Demand.{rows_are_curves}
use Rattle.theory.proofs.Servers.{server_is_a_curve}
use Rattle.table.specs.declared.Row.{Row}
use Rattle.table.specs.declared.Server.{Server}
use Rattle.table.specs.SpelledTables.{WithinLimits}
use Rattle.table.specs.Servers.{GoodServer}
use Rattle.table.specs.Tables.{rows_of, servers_of}
use Rattle.verdict.specs.Demand.{row_demand_of, server_demand_of, table_demand, table_growth, largest_of, largest_d}
use Rattle.verdict.specs.ScanLaws.{TableIsACurve}
use Rattle.verdict.proofs.Rows.{growth_in, rows_within}
use Rattle.verdict.proofs.Servers.{server_growth_in, servers_good}

-- No row's d is above the largest.
pub d_at_most_largest : {r : Row} {l : List Row} → Memᴰ r l → r.d ≤ largest_of l
unfolding largest_of
d_at_most_largest (Memᴰ.head e) = omega (arith, ap (λ (r : Row). r.d) e)
d_at_most_largest (Memᴰ.tail m) = omega (arith, d_at_most_largest m)

pub table_is_a_curve : TableIsACurve
unfolding table_demand table_growth
table_is_a_curve t period in_range p_divides y_divides b_divides =
    let within = rows_within in_range t.count (omega arith) in
    let good_servers = servers_good in_range t.serving (omega arith) in
    let good = in_range.good_timer in
    two_curves_add_up
    (sums_are_curves Row row_demand_of (growth_in period) (largest_d t) period (rows_of t)
    (all_of_members (rows_of t) (λ r m.
    starts_later (row_demand_of r) r.d (largest_d t) period (growth_in period r) (d_at_most_largest m)
    (rows_are_curves r.x r.y r.d r.c period (all_at WithinLimits within m).some_y (y_divides r m)))))
    (two_curves_add_up
    (sums_are_curves Server server_demand_of (server_growth_in period) (largest_d t) period (servers_of t)
    (all_of_members (servers_of t) (λ v m.
    let server = all_at GoodServer good_servers m in
    starts_later (server_demand_of v) 0 (largest_d t) period (server_growth_in period v) (omega arith)
    (server_is_a_curve v.a v.b period (omega (arith, server)) (b_divides v m)))))
    (starts_later (timer_takes t.s t.p) 0 (largest_d t) period (t.s * (period / t.p)) (omega arith)
    (timer_is_a_curve t.s t.p period good.some_p (omega (arith, good.s_below_p)) p_divides)))
