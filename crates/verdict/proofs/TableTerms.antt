-- The array of a table is filled with its timer, its servers and its rows, and then holds the table's demand. (docs/RULES.md, 5.3.)
use Prim.Native.Nat.{ℕ, ◌+◌, ◌-◌, ◌*◌, ◌≤◌, ◌<◌, ◌∣◌}
use mathlib.Core.Path.{◌≡◌, refl}
use mathlib.Core.List.{List, Memᴰ}
use native.Mathlib.Omega.{arith}
use lib.ListN.{length}
use Rattle.theory.specs.Lists.{total}
use Rattle.theory.specs.Ticks.{timer_takes}
use Rattle.theory.specs.Terms.{reciprocal}
use Rattle.theory.proofs.Terms.{row_is_a_term, server_is_a_term}
use Rattle.table.specs.declared.Row.{Row}
use Rattle.table.specs.declared.Server.{Server}
use Rattle.table.specs.declared.Table.{Table}
use Rattle.table.specs.SpelledTables.{WithinLimits}
use Rattle.table.specs.Servers.{GoodServer, no_server}
use Rattle.table.specs.Tables.{no_row, rows_of, servers_of, InRange}
use Rattle.verdict.specs.Demand.{table_demand, largest_d}
use Rattle.verdict.specs.HeldTerms.{parts, held_entries, held_p, held_demand, GoodTerm, Held, with_term}
use Rattle.verdict.specs.HeldParts.{PeriodOf, Repeats}
use Rattle.verdict.proofs.Sums.{total_more, stands_among}
use Rattle.verdict.proofs.Rows.{row_at, first_rows, demand_in, row_places, row_within}
use Rattle.verdict.proofs.Servers.{server_at, first_servers, server_demand_in, server_places}
use Rattle.verdict.proofs.Bounds.{some_b, cost_of_x_at_most}
use Rattle.verdict.proofs.TableCurve.{d_at_most_largest}
use Rattle.verdict.proofs.FilledTerms.{Filled, Placed, none_placed, filled_as, one_more_filled, one_more_placed}

-- A server is a good term.
pub server_is_good : (v : Server) → GoodServer v → GoodTerm (reciprocal parts v.a v.b) 1 0 v.b v.a
server_is_good v good = record {
  some_b = some_b v good;
  most_b = good.most_b;
  a_within_b = good.a_within_b;
  most_w = omega arith;
  most_up = omega arith;
  is_reciprocal = refl;
}

-- A row is a good term.
pub row_is_good : (r : Row) → WithinLimits r → GoodTerm (reciprocal parts 1 r.y) (r.x * r.c) (r.y - r.d) r.y 1
row_is_good r limits = record {
  some_b = limits.some_y;
  most_b = omega (arith, limits.most_y);
  a_within_b = limits.some_y;
  most_w = cost_of_x_at_most r limits;
  most_up = omega (arith, limits.most_y);
  is_reciprocal = refl;
}

-- The demand of the timer and of the servers before place k.
abbrev pub servers_to : Table → (k L : ℕ) → ℕ
servers_to t k L = total (server_demand_in L) (first_servers t k) + timer_takes t.s t.p L

-- The demand of the timer, of all servers and of the rows before row i.
abbrev pub rows_to : Table → (i L : ℕ) → ℕ
rows_to t i L = total (demand_in L) (first_rows t i) + servers_to t t.serving L

-- Every period of a table is a multiple of b, and from the largest d on a term with this `up` and this `down` repeats itself.
abbrev pub OfTable : Table → (b up down : ℕ) → Type 0
OfTable t b up down = ((period : ℕ) → PeriodOf t period → b ∣ period) × (down ≤ largest_d t + up)

module _ {t : Table} (in_range : InRange t) where
  -- A server in use is one of the table's servers.
  server_is_there : (k : ℕ) → k < t.serving → Memᴰ (server_at t k) (servers_of t)
  server_is_there k h = stands_among no_server t.servers t.serving k h (server_places in_range)

  -- A row in use is one of the table's rows.
  row_is_there : (i : ℕ) → i < t.count → Memᴰ (row_at t i) (rows_of t)
  row_is_there i h = stands_among no_row t.rows t.count i h (row_places in_range)

  -- An array that holds the timer and no terms yet.
  pub timer_filled : {l : List ℕ} → length l ≡ held_entries → Held l 0 → ((L : ℕ) → held_demand l 0 L ≡ timer_takes t.s t.p L)
      → Filled l 0 (servers_to t 0)
  unfolding total
  timer_filled long held is = record { as_long = long; held = held; demands = λ L. omega (arith, is L) }

  -- An array that holds the timer places no terms yet.
  pub timer_placed : (l : List ℕ) → held_p l ≡ t.p → Placed t.p (OfTable t) l 0
  timer_placed l is_p = none_placed l is_p

  -- After the servers come the rows.
  pub servers_placed : {l : List ℕ} {k : ℕ} → k ≡ t.serving → Placed t.p (OfTable t) l k → Placed t.p (OfTable t) l (t.serving + 0)
  servers_placed all placed = let e : t.serving + 0 ≡ t.serving = omega arith in rw e (rw all at placed)

  -- The next server is filled in.
  pub server_filled : {l : List ℕ} (k : ℕ) → k < t.serving → Filled l k (servers_to t k)
      → Filled (with_term k (server_at t k).b (server_at t k).a 1 0 0 l) (k + 1) (servers_to t (k + 1))
  server_filled k h filled =
      let v = server_at t k in
      filled_as (one_more_filled filled (omega (arith, in_range.few_servers)) v.b v.a 1 0 0 (server_is_good v (in_range.good_servers k h)))
      (λ L. omega (arith, total_more no_server t.servers (server_demand_in L) k (omega (arith, server_places in_range)), server_is_a_term v.a v.b L))

  -- The next server is placed.
  pub server_placed : {l : List ℕ} {f : ℕ → ℕ} (k : ℕ) → k < t.serving → Filled l k f → Placed t.p (OfTable t) l k
      → Placed t.p (OfTable t) (with_term k (server_at t k).b (server_at t k).a 1 0 0 l) (k + 1)
  server_placed k h filled placed =
      let v = server_at t k in
      one_more_placed filled (omega (arith, in_range.few_servers)) v.b v.a 1 0 0 (server_is_good v (in_range.good_servers k h)) placed
      (λ period whole. whole.b_divides v (server_is_there k h), omega arith)

  -- After the servers come the rows.
  pub servers_filled : {l : List ℕ} {k : ℕ} → k ≡ t.serving → Filled l k (servers_to t k) → Filled l (t.serving + 0) (rows_to t 0)
  unfolding total
  servers_filled all filled =
      let e : t.serving + 0 ≡ t.serving = omega arith in
      rw e (filled_as (rw all at filled) (λ L. omega arith))

  -- The next row is filled in.
  pub row_filled : {l : List ℕ} (i : ℕ) → i < t.count → Filled l (t.serving + i) (rows_to t i)
      → Filled (with_term (t.serving + i) (row_at t i).y 1 ((row_at t i).x * (row_at t i).c) ((row_at t i).y - (row_at t i).d) ((row_at t i).d - (row_at t i).y) l)
      (t.serving + (i + 1)) (rows_to t (i + 1))
  row_filled i h filled =
      let r = row_at t i in
      let limits = row_within in_range i h in
      let e : t.serving + (i + 1) ≡ t.serving + i + 1 = omega arith in
      rw e (filled_as
      (one_more_filled filled (omega (arith, in_range.few_servers, in_range.few_rows)) r.y 1 (r.x * r.c) (r.y - r.d) (r.d - r.y)
      (row_is_good r limits))
      (λ L. omega (
        arith,
        total_more no_row t.rows (demand_in L) i (omega (arith, row_places in_range)),
        row_is_a_term r.x r.y r.d r.c L limits.some_y,
      )))

  -- The next row is placed.
  pub row_placed : {l : List ℕ} {f : ℕ → ℕ} (i : ℕ) → i < t.count → Filled l (t.serving + i) f → Placed t.p (OfTable t) l (t.serving + i)
      → Placed t.p (OfTable t)
      (with_term (t.serving + i) (row_at t i).y 1 ((row_at t i).x * (row_at t i).c) ((row_at t i).y - (row_at t i).d) ((row_at t i).d - (row_at t i).y) l)
      (t.serving + (i + 1))
  row_placed i h filled placed =
      let r = row_at t i in
      let e : t.serving + (i + 1) ≡ t.serving + i + 1 = omega arith in
      rw e
      (one_more_placed filled (omega (arith, in_range.few_servers, in_range.few_rows)) r.y 1 (r.x * r.c) (r.y - r.d) (r.d - r.y)
      (row_is_good r (row_within in_range i h)) placed
      (λ period whole. whole.y_divides r (row_is_there i h), omega (arith, d_at_most_largest (row_is_there i h))))

  -- Where all terms are placed, they repeat themselves in every period of the table.
  pub all_repeat : {l : List ℕ} {i : ℕ} → i ≡ t.count → Placed t.p (OfTable t) l (t.serving + i)
      → (period : ℕ) → PeriodOf t period → Repeats l (t.serving + t.count) (largest_d t) period
  all_repeat all placed period whole =
      let whole_array = rw all at placed in
      record {
        p_divides = rw whole_array.is_p whole.p_divides;
        b_divides = λ k h. (whole_array.each k h).0 period whole;
        from_d = λ k h. (whole_array.each k h).1;
      }

  -- An array that is filled with all servers and all rows holds the table's demand.
  pub all_filled : {l : List ℕ} {i : ℕ} → i ≡ t.count → Filled l (t.serving + i) (rows_to t i)
      → (L : ℕ) → held_demand l (t.serving + t.count) L ≡ table_demand t L
  unfolding table_demand
  all_filled all filled = (rw all at filled).demands
