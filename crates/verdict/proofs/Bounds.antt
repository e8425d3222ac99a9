-- Nothing overflows. The demand of one row is bounded by the limits of the rules alone, and a sum over the rows by their number times that bound. A server's
-- demand in a length is at most the length, and a timer takes at most every tick, both of which are within the bound for one row. Two facts about the values of
-- the limits are used. One is `room`: 64 bits hold the most that a table can ask for. The other is `product_room`: they hold a server's a times a length.
use Prim.Native.Nat.{ℕ, zero, suc, ◌+◌, ◌-◌, ◌*◌, ◌/◌, ◌^◌, ◌≤◌, ◌<◌, suc-le-suc}
use native.Mathlib.Omega.{arith}
use native.Mathlib.Nat.{div-le_self, div-lt_iff_lt-mul, div-mul-le_self, le_trans, mul-le-mul, mul-le-mul_right}
use native.Mathlib.Numerals.{add-one}
use lib.Dec.{lit<}
use Rattle.theory.specs.Lists.{total}
use Rattle.theory.specs.Ticks.{timer_takes}
use Rattle.theory.specs.Demand.{row_growth}
use Rattle.theory.specs.Servers.{server_demand}
use Rattle.theory.proofs.Cases.{by_lt}
use Rattle.theory.proofs.Timers.{timer_takes_from_zero}
use Rattle.theory.proofs.Demand.{no_demand_below_d, demand_from_d}
use Rattle.table.specs.declared.Row.{Row}
use Rattle.table.specs.declared.Server.{Server}
use Rattle.table.specs.declared.Table.{Table}
use Rattle.table.specs.SpelledTables.{WithinLimits}
use Rattle.table.specs.Limits.{max_rows, max_servers, max_x, max_d, max_c, max_b, max_period}
use Rattle.table.specs.Timer.{GoodTimer}
use Rattle.table.specs.Servers.{GoodServer, no_server}
use Rattle.table.specs.Tables.{no_row, servers_of, InRange}
use Rattle.verdict.specs.Demand.{largest_of, largest_d, max_length}
use Rattle.verdict.proofs.Sums.{Summed, total_at_most}
use Rattle.verdict.proofs.Rows.{row_at, first_rows, demand_in, growth_in, row_places, row_within, largest_more}
use Rattle.verdict.proofs.Servers.{server_at, server_demand_in, server_growth_in, server_places}

-- In a length that is looked at, one row can ask for at most this.
abbrev pub most : ℕ
most = (max_length + 1) * max_x * max_c

-- 64 bits hold the most that a table can ask for: its rows, its servers as if they were rows too, and the timer as if it were one row more.
pub room : (max_rows + (max_servers + 1)) * most < 2 ^ 64
room = lit< tt

-- 64 bits hold the product of the largest a and the largest length.
product_room : max_b * max_length < 2 ^ 64
product_room = lit< tt

-- ---- the timer

module _ (s p : ℕ) (good : GoodTimer s p) where
  -- Of L ticks the timer takes at most all.
  pub taken_at_most : (L : ℕ) → timer_takes s p L ≤ L
  taken_at_most L = omega (arith, timer_takes_from_zero s p good.some_p (omega (arith, good.s_below_p)) L)

  -- What the timer takes in a length that is looked at is within the bound `most`.
  pub takes_at_most : (L : ℕ) → L ≤ max_length → timer_takes s p L ≤ most
  takes_at_most L looked_at = omega (arith, taken_at_most L)

  -- The ticks that the timer takes grow in a period by at most the period.
  pub taken_in_period : (period : ℕ) → period / p * s ≤ period
  taken_in_period period = omega (arith, taken_at_most period)

  -- The growth of what the timer takes in a period is within the bound `most`.
  pub timer_growth_at_most : (period : ℕ) → period ≤ max_period → s * (period / p) ≤ most
  timer_growth_at_most period h = omega (arith, taken_in_period period)

-- ---- one row

module _ (r : Row) (limits : WithinLimits r) where
  module _ (L : ℕ) (looked_at : L ≤ max_length) where
    -- The number floor((L − d)/y) + 1 of 5.1 is within a bound.
    pub spaces_at_most : (L - r.d) / r.y + 1 ≤ max_length + 1
    spaces_at_most = omega (arith, div-le_self (L - r.d) r.y)

    -- The number of the row's jobs in the length L is within a bound.
    pub jobs_at_most : ((L - r.d) / r.y + 1) * r.x ≤ (max_length + 1) * max_x
    jobs_at_most = mul-le-mul spaces_at_most limits.most_x

    -- What the row's jobs in the length L cost is within the bound `most`.
    pub cost_at_most : ((L - r.d) / r.y + 1) * r.x * r.c ≤ most
    cost_at_most = mul-le-mul jobs_at_most limits.most_c

    -- The row's demand is within the bound `most`.
    pub demand_at_most : demand_in L r ≤ most
    demand_at_most = by_lt L r.d
        (λ low. omega (arith, no_demand_below_d r.x r.y r.d r.c L low))
        (λ high. rw (demand_from_d r.x r.y r.d r.c L high) cost_at_most)

  -- What x jobs cost is within a bound.
  pub cost_of_x_at_most : r.x * r.c ≤ max_x * max_c
  cost_of_x_at_most = mul-le-mul limits.most_x limits.most_c

  -- The growth of the row's demand in a period is within the bound `most`.
  pub growth_at_most : (period : ℕ) → period ≤ max_period → growth_in period r ≤ most
  unfolding row_growth
  growth_at_most period h =
      omega (arith, mul-le-mul (div-le_self period r.y) cost_of_x_at_most, mul-le-mul_right (max_x * max_c) h)

-- ---- one server

module _ (v : Server) (good : GoodServer v) where
  -- A b is at least 1, because it is at least a.
  pub some_b : 1 ≤ v.b
  some_b = omega (arith, good)

  -- In a length L the server's demand is at most L.
  pub served_at_most : (L : ℕ) → server_demand_in L v ≤ L
  unfolding server_demand
  served_at_most L =
      let below : v.a * L / v.b < L + 1 = (div-lt_iff_lt-mul some_b).1 (omega (arith, mul-le-mul_right L good.a_within_b, some_b)) in
      omega arith

  module _ (L : ℕ) (looked_at : L ≤ max_length) where
    -- The product a · L, which is divided by b, fits into 64 bits.
    pub product_fits : v.a * L < 2 ^ 64
    product_fits = omega (arith, mul-le-mul (le_trans good.a_within_b good.most_b) looked_at, product_room)

    -- The server's demand is within the bound `most`.
    pub server_demand_at_most : server_demand_in L v ≤ most
    server_demand_at_most = omega (arith, served_at_most L)

  -- The growth of the server's demand in a period is at most the period.
  pub served_in_period : (period : ℕ) → server_growth_in period v ≤ period
  served_in_period period = omega (arith, mul-le-mul_right (period / v.b) good.a_within_b, div-mul-le_self period v.b)

  -- The growth of the server's demand in a period is within the bound `most`.
  pub server_growth_at_most : (period : ℕ) → period ≤ max_period → server_growth_in period v ≤ most
  server_growth_at_most period h = omega (arith, served_in_period period)

-- ---- the rows and servers of a table

module _ {t : Table} (in_range : InRange t) where
  module _ (w : Server → ℕ) (small : (v : Server) → GoodServer v → w v ≤ most) where
    -- Each server in use has a weight within the bound.
    each_server_small : (k : ℕ) → k < t.serving → w (server_at t k) ≤ most
    each_server_small k h = small (server_at t k) (in_range.good_servers k h)

    -- The sum over all servers in use, with what the timer adds, is within the bound for the servers and the timer.
    pub base_at_most : {timer : ℕ} → timer ≤ most → total w (servers_of t) + timer ≤ (max_servers + 1) * most
    base_at_most within =
        let all = total_at_most no_server t.servers w t.serving most (server_places in_range) each_server_small t.serving (omega arith) in
        omega (arith, all, in_range.few_servers)

    -- The sum over the servers before server k, together with server k and with what the timer adds, fits into 64 bits.
    pub server_sum_fits : {timer sum k : ℕ} → timer ≤ most → Summed w t.servers t.serving timer sum k → k < t.serving
        → sum + w (server_at t k) < 2 ^ 64
    server_sum_fits {timer} {sum} {k} within summed h =
        let before = total_at_most no_server t.servers w t.serving most (server_places in_range) each_server_small k summed.counted in
        omega (arith, before, each_server_small k h, in_range.few_servers, room)

  module _ (w : Row → ℕ) (small : (r : Row) → WithinLimits r → w r ≤ most) where
    -- Each row in use has a weight within the bound.
    each_row_small : (i : ℕ) → i < t.count → w (row_at t i) ≤ most
    each_row_small i h = small (row_at t i) (row_within in_range i h)

    -- The sum over the rows before row i, together with row i and with what the servers and the timer add, fits into 64 bits.
    pub sum_fits : {base sum i : ℕ} → base ≤ (max_servers + 1) * most → Summed w t.rows t.count base sum i → i < t.count
        → sum + w (row_at t i) < 2 ^ 64
    sum_fits {base} {sum} {i} within summed h =
        let before = total_at_most no_row t.rows w t.count most (row_places in_range) each_row_small i summed.counted in
        omega (arith, before, each_row_small i h, in_range.few_rows, room)

  -- The largest d of the rows before i is within its limit.
  largest_at_most : (i : ℕ) → i ≤ t.count → largest_of (first_rows t i) ≤ max_d
  unfolding largest_of
  largest_at_most zero h = omega arith
  largest_at_most (suc i) h =
      rw (← add-one i)
      (omega (arith, largest_more in_range i h, (row_within in_range i h).most_d, largest_at_most i (omega arith)))

  -- The largest d of a table is within the limit of a row's d.
  pub d_at_most : largest_d t ≤ max_d
  d_at_most = largest_at_most t.count (omega arith)

  -- The largest length that a verdict looks at is at most `max_length`.
  pub last_at_most : (period : ℕ) → period ≤ max_period → (largest_d t + 1) * period + largest_d t ≤ max_length
  last_at_most period h =
      let d : largest_d t ≤ max_d = d_at_most in
      omega (arith, mul-le-mul (suc-le-suc d) h)
