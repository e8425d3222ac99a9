-- What is known about a table that was accepted: it is in range, its H is from 1 to its limit, p and each y and b divide H, and its demand is a curve with the
-- period H.
use Rattle.std.specs.Prelude.{Ok}
use Prim.Native.Nat.{ℕ, ◌≤◌}
use mathlib.Core.Path.{◌≡◌, refl}
use mathlib.Core.List.Memᴰ
use mathlib.Core.List.{List}
use Rattle.numbers.specs.SpelledNumbers.{Bytes}
use Rattle.theory.specs.Curves.{Curve}
use Rattle.table.specs.declared.Row.{Row}
use Rattle.table.specs.declared.Server.{Server}
use Rattle.table.specs.declared.Table.{Table}
use Rattle.table.specs.Limits.{max_period}
use Rattle.table.specs.Period.{ys_of, bs_of}
use Rattle.table.specs.Tables.{rows_of, servers_of, table_read, InRange}
use Rattle.table.proofs.SpelledTables.{accepted_is_usable}
use Rattle.table.proofs.Tables.{read_in_range}
use Rattle.verdict.specs.Demand.{table_demand, table_growth, largest_d}
use Rattle.verdict.specs.HeldParts.{PeriodOf}
use Rattle.verdict.proofs.TableCurve.{table_is_a_curve}

-- This is what a verdict needs to know about a table.
pub record Known (t : Table) (period : ℕ) : Type 0 where
  pub in_range : InRange t
  pub some_period : 1 ≤ period
  pub most_period : period ≤ max_period
  pub whole : PeriodOf t period
  pub curve : Curve (table_demand t) (largest_d t) period (table_growth t period)

-- All that a verdict needs is known about every accepted table.
pub accepted_is_known : (s : List ℕ) (period : ℕ) → Bytes s → (table_read s).answer ≡ Ok period → Known (table_read s).table period
accepted_is_known s period bytes accepted =
    let u = accepted_is_usable s period bytes accepted in
    let t = (table_read s).table in
    let in_range = read_in_range s bytes in
    let whole : PeriodOf t period = record {
      p_divides = u.divides_period t.p (Memᴰ.head refl);
      y_divides = λ r m. u.divides_period r.y (Memᴰ.tail (Memᴰ.append_left (bs_of (servers_of t)) (Memᴰ.map (λ (q : Row). q.y) m)));
      b_divides = λ v m. u.divides_period v.b (Memᴰ.tail (Memᴰ.append_right (ys_of (rows_of t)) (Memᴰ.map (λ (q : Server). q.b) m)));
    } in
    record {
      in_range = in_range;
      some_period = u.some_period;
      most_period = u.most_period;
      whole = whole;
      curve = table_is_a_curve t period in_range whole.p_divides whole.y_divides whole.b_divides;
    }
