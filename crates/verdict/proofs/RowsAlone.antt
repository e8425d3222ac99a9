-- The demand of no servers is 0, so that the demand of a table without servers is that of its rows and of the ticks that its timer takes. A timer with s = 0
-- takes no tick, so that the demand of rows alone is the rows' own. Where two demands are the same, a verdict is right for both or for neither.
use Prim.Native.Nat.{ℕ}
use mathlib.Core.Path.{◌≡◌, sym, ap, ◌∙◌}
use mathlib.Core.Logic.{◌↔◌}
use native.Mathlib.Omega.{arith}
use Rattle.theory.specs.Lists.{total}
use Rattle.theory.specs.Curves.{SmallestFailing}
use Rattle.theory.proofs.Timers.{no_timer}
use Rattle.table.specs.declared.Table.{Table}
use Rattle.table.specs.Content.{Content, without_servers, rows_alone}
use Rattle.table.specs.Tables.{content_of, table_read}
use Rattle.verdict.specs.declared.Verdict.{Verdict}
use Rattle.verdict.specs.declared.Verdict.TheVariants as verdict
use Rattle.verdict.specs.Demand.{demand_of, table_demand}
use Rattle.verdict.specs.Verdict.{RightFor, RightOf}
use Rattle.verdict.specs.RowsAlone.{demand_of_rows, demand_of_rows_and_timer, DemandWithoutServers, VerdictWithoutServers, JudgedWithoutServers}
use Rattle.verdict.specs.RowsAlone.{DemandOfRowsAlone, VerdictOfRowsAlone, JudgedByRowsAlone}

pub demand_without_servers : DemandWithoutServers
unfolding total
demand_without_servers s p rows L = omega arith

pub demand_of_rows_alone : DemandOfRowsAlone
demand_of_rows_alone rows L = omega (arith, demand_without_servers 0 1 rows L, (no_timer 1).1 L)

module _ (f g : ℕ → ℕ) (same : (L : ℕ) → f L ≡ g L) where
  -- Where two demands are the same in every length, the smallest length that fails is the same.
  same_smallest : (L : ℕ) → SmallestFailing f L → SmallestFailing g L
  same_smallest L s = record {
    some_length = s.some_length;
    fails = omega (arith, s.fails, same L);
    smaller_fit = λ M some below. omega (arith, s.smaller_fit M some below, same M);
  }

  -- Where two demands are the same in every length, a verdict that is right for one is right for the other.
  pub right_for_same : (v : Verdict) → RightFor f v → RightFor g v
  right_for_same verdict.Feasible fits = λ L some. omega (arith, fits L some, same L)
  right_for_same (verdict.Overloaded w) right = (same_smallest w.length right.0, right.1 ∙ same w.length)
  right_for_same (verdict.Refused r) right = right

-- Where a table has a content whose demand is f in every length, a verdict is right for the table exactly when it is right for f.
right_by_content : (t : Table) (content : Content) (f : ℕ → ℕ) → content_of t ≡ content → ((L : ℕ) → demand_of content L ≡ f L)
    → (v : Verdict) → RightOf t v ↔ RightFor f v
unfolding table_demand
right_by_content t content f has demands v =
    let same : (L : ℕ) → table_demand t L ≡ f L = λ L. ap (λ (it : Content). demand_of it L) has ∙ demands L in
    (right_for_same (table_demand t) f same v, right_for_same f (table_demand t) (λ L. sym (same L)) v)

-- ---- no servers

pub verdict_without_servers : VerdictWithoutServers
verdict_without_servers t s p rows has v =
    right_by_content t (without_servers s p rows) (demand_of_rows_and_timer s p rows) has (demand_without_servers s p rows) v

pub judged_without_servers : JudgedWithoutServers
judged_without_servers bytes period s p rows accepted has v = rw accepted (verdict_without_servers (table_read bytes).table s p rows has v)

-- ---- rows alone

pub verdict_of_rows_alone : VerdictOfRowsAlone
verdict_of_rows_alone t rows alone v = right_by_content t (rows_alone rows) (demand_of_rows rows) alone (demand_of_rows_alone rows) v

pub judged_by_rows_alone : JudgedByRowsAlone
judged_by_rows_alone s period rows accepted alone v = rw accepted (verdict_of_rows_alone (table_read s).table rows alone v)
