-- Share: the proof. The accepted jobs of each row come by the rule of due times, and those of each server by the server's rule. So in any window they cost no
-- more than the demand of their row or server, whatever all others release. No job is ever given more units than its cost. (5.12)
use Prim.Native.Nat.{ℕ, ◌+◌, ◌-◌, ◌≤◌, ◌<◌}
use mathlib.Core.Path.{◌≡◌, refl}
use mathlib.Core.List.{List, [], ◌∷◌, Memᴰ}
use native.Mathlib.Nat.{le_trans, mul-zero, zero-div}
use native.Mathlib.Omega.{arith}
use borrow.Author.Tests.{lt-ltb, le-ltb}
use Rattle.theory.specs.Lists.{All, weight_if}
use Rattle.theory.specs.Jobs.{Job, within, weighed, BoundedBy}
use Rattle.theory.specs.Servers.{server_demand}
use Rattle.theory.specs.Sources.{own}
use Rattle.theory.proofs.Cases.{by_lt, by_eq, by_test}
use Rattle.theory.proofs.Lists.{all_of_members, all_imply, total_monotone, weight_if_lem, weight_unless}
use Rattle.theory.proofs.Demand.{no_demand_below_d}
use Rattle.theory.proofs.Sources.{own_of_it, own_of_another}
use Rattle.theory.proofs.Windows.{row_is_bounded}
use Rattle.theory.proofs.Servers.{server_is_bounded}
use Rattle.table.specs.declared.Table.{Table}
use Rattle.table.specs.Servers.{GoodServer}
use Rattle.table.specs.Tables.{InRange}
use Rattle.verdict.proofs.Rows.{row_within}
use Rattle.run.specs.declared.Run.{Run}
use Rattle.run.specs.Runs.{row_at, server_at}
use Rattle.promise.specs.Sources.{source_at, source_demand}
use Rattle.promise.specs.Traces.{Event, jobs_of_trace, units_of}
use Rattle.promise.specs.Share.{costs_in, consumed_in, Share, NoDemandInNoTime}
use Rattle.promise.proofs.RunAndTrace.{Bridge}
use Rattle.promise.proofs.RunsFollow.{bridge}
use Rattle.promise.proofs.Units.{never_more_units}

-- What holds for every job of a list holds for every job of one source in it.
All-own : (P : Job → Type 0) (i : ℕ) (js : List Job) → All P js → All P (own i js)
unfolding own
All-own P i [] h = tt
All-own P i (j ∷ js) h = by_eq j.source i
    (λ e. rw (own_of_it i j js e) (h.0, All-own P i js h.1))
    (λ e. rw (own_of_another i j js e) (All-own P i js h.1))

-- A job is among the jobs of its own source.
pub own_member : (j : Job) {js : List Job} → Memᴰ j js → Memᴰ j (own j.source js)
unfolding own
own_member j (Memᴰ.head {xs = js} e) = rw (← e, own_of_it j.source j js refl) (Memᴰ.head refl)
own_member j (Memᴰ.tail {x = i} {xs = js} m) = by_eq i.source j.source
    (λ e. rw (own_of_it j.source i js e) (Memᴰ.tail (own_member j m)))
    (λ e. rw (own_of_another j.source i js e) (own_member j m))

-- ---- a table in range

module _ {t : Table} (in_range : InRange t) where
  -- A server in use is one that a table may have.
  pub server_good : (row : ℕ) → t.count ≤ row → row < t.count + t.serving → GoodServer (server_at t row)
  server_good row from h = in_range.good_servers (row - t.count) (omega arith)

  -- In a window of no length no row and no server in use has any demand.
  pub no_demand_at_zero : (row : ℕ) → row < t.count + t.serving → source_demand (source_at t row) 0 ≡ 0
  unfolding server_demand
  no_demand_at_zero row h = by_lt row t.count
      (λ of_row.
      let r = row_at t row in
      rw (lt-ltb row t.count of_row) (no_demand_below_d r.x r.y r.d r.c 0 (row_within in_range row of_row).some_d))
      (λ of_server. let v = server_at t row in rw (le-ltb row t.count of_server, mul-zero v.a) (zero-div v.b))

-- ---- at one point

module _ {t : Table} {run : Run} {es : List Event} (b : Bridge t run es) where
  -- In every window the accepted jobs of a row or of a server in use cost at most its demand.
  pub source_share : (row : ℕ) → row < t.count + t.serving → BoundedBy (source_demand (source_at t row)) (own row (jobs_of_trace es))
  source_share row h = by_lt row t.count
      (λ of_row.
      let limits = row_within b.table_in_range row of_row in
      let r = row_at t row in
      rw (lt-ltb row t.count of_row)
      (row_is_bounded r.x r.y r.d r.c (own row (jobs_of_trace es)) limits.some_x limits.some_y (b.by_rule row of_row)))
      (λ of_server.
      let good = server_good b.table_in_range row of_server h in
      let v = server_at t row in
      rw (le-ltb row t.count of_server)
      (server_is_bounded v.a v.b (own row (jobs_of_trace es)) good.some_a (omega (arith, good)) (b.by_server row of_server h)))

  -- The jobs of a row number in a window are given no more units than they cost.
  consumed_at_most_costs : (from to row : ℕ) → consumed_in from to row es ≤ costs_in from to row es
  unfolding weighed
  consumed_at_most_costs from to row =
      let its_units : Job → ℕ = λ j. units_of j.name es in
      let its_cost : Job → ℕ = λ j. j.cost in
      let few = All-own (λ j. its_units j ≤ its_cost j) row (jobs_of_trace es) (all_of_members (jobs_of_trace es) (never_more_units b)) in
      total_monotone (weight_if (within from to) its_units) (weight_if (within from to) its_cost) (own row (jobs_of_trace es))
      (all_imply
      (λ j h. by_test (within from to j)
      (λ inside. omega (arith, weight_if_lem (within from to) its_units j inside, weight_if_lem (within from to) its_cost j inside))
      (λ outside. omega (arith, weight_unless (within from to) its_units j outside)))
      (own row (jobs_of_trace es))
      few)

-- ---- the promises

-- In any window the jobs of a row or of a server cost at most its demand, and are given at most as many units.
pub share : Share
share bytes ok calls row in_use from to h =
    let b = bridge bytes ok calls in
    let costs_fit = source_share b row in_use from to h in
    (costs_fit, le_trans (consumed_at_most_costs b from to row) costs_fit)

-- In a window of no length no row and no server has any demand.
pub no_demand_in_no_time : NoDemandInNoTime
no_demand_in_no_time bytes ok = no_demand_at_zero (bridge bytes ok []).table_in_range
