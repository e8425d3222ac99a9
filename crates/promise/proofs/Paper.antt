-- The verdict is the paper's Theorem 4.2, since the demand of the rows is the sum of the expressions of Lemma 4.1, and the table's demand adds the servers'
-- demand and the ticks that the timer takes. (5.2 to 5.4)
use Rattle.std.specs.Prelude.{Ok}
use Prim.Native.Nat.{ℕ, ◌+◌}
use mathlib.Core.Path.{◌≡◌, refl, ap₂}
use mathlib.Core.Logic.{◌↔◌}
use mathlib.Core.List.{List, [], ◌∷◌}
use native.Mathlib.Omega.{arith}
use Rattle.theory.specs.Lists.{All, total}
use Rattle.theory.specs.Curves.{EveryLengthFits, SmallestFailing}
use Rattle.theory.specs.Paper.{paper_demand}
use Rattle.theory.proofs.Paper.{demand_is_lemma41}
use Rattle.theory.proofs.Curves.{one_smallest_failing, none_where_every_length_fits}
use Rattle.table.specs.declared.Row.{Row}
use Rattle.table.specs.Tables.{rows_of, table_read}
use Rattle.table.specs.SpelledTables.{WithinLimits}
use Rattle.table.proofs.Answers.{tables_said_apart}
use Rattle.verdict.specs.declared.Verdict.{Verdict}
use Rattle.verdict.specs.declared.Verdict.TheVariants as verdict
use Rattle.verdict.specs.Demand.{row_demand_of, table_demand}
use Rattle.verdict.specs.Verdict.{RightFor, verdict_says}
use Rattle.verdict.proofs.Accepted.{accepted_is_known}
use Rattle.verdict.proofs.Rows.{rows_within}
use Rattle.promise.specs.Paper.{FeasibleIsTheorem42}
use Rattle.promise.proofs.NoOrder.{says_overloaded}

-- The demand of some rows is the sum of the paper's expressions.
demand_is_the_papers : (rows : List Row) (L : ℕ) → All WithinLimits rows
    → total (λ r. row_demand_of r L) rows ≡ total (λ (r : Row). paper_demand r.x r.y r.d r.c L) rows
unfolding total
demand_is_the_papers [] L within = refl
demand_is_the_papers (r ∷ rows) L within =
    ap₂ ◌+◌ (demand_is_lemma41 r.x r.y r.d r.c L within.0.some_y) (demand_is_the_papers rows L within.1)

-- A right verdict for a demand says feasible exactly when every length fits.
pub feasible_means : (f : ℕ → ℕ) (v : Verdict) → RightFor f v → ((verdict_says v).number ≡ 20) ↔ EveryLengthFits f
feasible_means f verdict.Feasible right = (λ _. right, λ _. refl)
feasible_means f (verdict.Overloaded w) right =
    (λ said. absurd (omega arith), λ fits. absurd (none_where_every_length_fits f w.length fits right.0))
feasible_means f (verdict.Refused r) right = absurd right

-- A right verdict for a demand says overloaded with a length and its demand exactly when this is the smallest length that fails.
pub overloaded_means : (f : ℕ → ℕ) (v : Verdict) → RightFor f v → (L units : ℕ)
    → (verdict_says v ≡ record { number = 21; first = L; second = units }) ↔ (SmallestFailing f L × (units ≡ f L))
overloaded_means f v right L units = (λ said. rw (says_overloaded v L units said) at right, from v right)
  where
    from : (w : Verdict) → RightFor f w → SmallestFailing f L × (units ≡ f L) → verdict_says w ≡ record { number = 21; first = L; second = units }
    from verdict.Feasible fits found = absurd (none_where_every_length_fits f L fits found.0)
    from (verdict.Overloaded w) right found =
        let same = one_smallest_failing f w.length L right.0 found.0 in
        rw (right.1, same, found.1)
    from (verdict.Refused r) right found = absurd right

pub feasible_is_theorem42 : FeasibleIsTheorem42
unfolding table_demand
feasible_is_theorem42 bytes b h says v judged =
    let t = (table_read bytes).table in
    let accepted = tables_said_apart (table_read bytes).answer (Ok h) says in
    let within : All WithinLimits (rows_of t) = rows_within (accepted_is_known bytes h b accepted).in_range t.count (omega arith) in
    let means = feasible_means (table_demand t) v (rw accepted at judged) in (
      (λ said L some. rw (← demand_is_the_papers (rows_of t) L within) (means.0 said L some)),
      (λ fits. means.1 (λ L some. rw (demand_is_the_papers (rows_of t) L within) (fits L some))),
    )
