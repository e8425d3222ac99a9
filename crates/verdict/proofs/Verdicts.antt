-- At most one verdict is right for any bytes, and some verdict is. Different verdicts say different things, and none has the number 0. (docs/RULES.md, 5.6.)
use Rattle.kinds.specs.declared.RefusedAt.{RefusedAt}
use Rattle.std.specs.Prelude.{Some, Result, Ok, Err}
use Prim.Native.Nat.{ℕ}
use mathlib.Core.Path.{◌≡◌, refl, sym, ap, ap₂, ◌∙◌}
use mathlib.Core.Logic.{⊎_elim}
use native.Mathlib.Omega.{arith}
use Rattle.kinds.specs.Numbering.{Said}
use Rattle.kinds.proofs.Numbering.{never_zero, no_answer, numbers_differ}
use Rattle.theory.proofs.Curves.{decided, one_smallest_failing, none_where_every_length_fits}
use Rattle.table.specs.declared.Table.{Table}
use Rattle.table.specs.Tables.{table_read}
use Rattle.verdict.specs.declared.Witness.{Witness}
use Rattle.verdict.specs.declared.Verdict.{Verdict}
use Rattle.verdict.specs.declared.Verdict.TheVariants as verdict
use Rattle.verdict.specs.Demand.{table_demand, table_growth, largest_d}
use Rattle.verdict.specs.Verdict.{RightOf, RightOfRead, verdict_says, Scanned, OneVerdict, SomeVerdict, VerdictNeverSaysZero, VerdictsSaidApart}
use Rattle.verdict.specs.Verdict.{FeasibleSays, OverloadedSays, RefusedVerdictSays}
use Rattle.verdict.proofs.Accepted.{Known, accepted_is_known}

-- Two witnesses with the same length and the same demand are the same.
same_witness : (v w : Witness) → v.length ≡ w.length → v.demand ≡ w.demand → v ≡ w
same_witness v w = ap₂ (λ l d. record { length = l; demand = d })

-- ---- one verdict

-- A table has at most one witness.
one_witness : (t : Table) (v w : Witness) → RightOf t (verdict.Overloaded v) → RightOf t (verdict.Overloaded w) → v ≡ w
one_witness t v w p q =
    let length : v.length ≡ w.length = one_smallest_failing (table_demand t) v.length w.length p.0 q.0 in
    same_witness v w length (p.1 ∙ rw length (sym q.1))

-- At most one verdict is right for a table.
one_right : (t : Table) (v w : Verdict) → RightOf t v → RightOf t w → v ≡ w
one_right t verdict.Feasible verdict.Feasible p q = refl
one_right t verdict.Feasible (verdict.Overloaded w) p q = absurd (none_where_every_length_fits (table_demand t) w.length p q.0)
one_right t verdict.Feasible (verdict.Refused r) p q = absurd q
one_right t (verdict.Overloaded v) verdict.Feasible p q = absurd (none_where_every_length_fits (table_demand t) v.length q p.0)
one_right t (verdict.Overloaded v) (verdict.Overloaded w) p q = ap verdict.Overloaded (one_witness t v w p q)
one_right t (verdict.Overloaded v) (verdict.Refused r) p q = absurd q
one_right t (verdict.Refused r) w p q = absurd p

-- At most one verdict is right for what was read.
one_right_of_read : (t : Table) (a : Result ℕ RefusedAt) (v w : Verdict) → RightOfRead t a v → RightOfRead t a w → v ≡ w
one_right_of_read t (Ok period) v w p q = one_right t v w p q
one_right_of_read t (Err r) v w p q = p ∙ sym q

pub one_verdict : OneVerdict
one_verdict s v w p q = one_right_of_read (table_read s).table (table_read s).answer v w p q

-- ---- some verdict

-- A table that was accepted fits at every length, or has a smallest length that fails.
some_right : (t : Table) (period : ℕ) → Known t period → (v : Verdict) × RightOf t v
some_right t period known = ⊎_elim
    (λ fits. (verdict.Feasible, fits))
    (λ s. (verdict.Overloaded (record { length = s.0; demand = table_demand t s.0 }), (s.1, refl)))
    (decided (table_demand t) (largest_d t) period (table_growth t period) known.curve known.some_period)

pub some_verdict : SomeVerdict
some_verdict s bytes = right (table_read s).answer refl
  where
    right : (a : Result ℕ RefusedAt) → (table_read s).answer ≡ a → (v : Verdict) × RightOfRead (table_read s).table a v
    right (Ok period) e = some_right (table_read s).table period (accepted_is_known s period bytes e)
    right (Err r) e = (verdict.Refused r, refl)

-- The first length from 1 on that a scan finds to fail is the witness.
pub smallest_found : (t : Table) (last : ℕ) (w : Witness) → Scanned (table_demand t) 1 last (Some w) → RightOf t (verdict.Overloaded w)
smallest_found t last w found = (record { some_length = found.0; fails = found.2; smaller_fit = found.4 }, omega (arith, found.3))

-- ---- what a verdict says

pub verdict_never_says_zero : VerdictNeverSaysZero
verdict_never_says_zero verdict.Feasible = omega arith
verdict_never_says_zero (verdict.Overloaded w) = omega arith
verdict_never_says_zero (verdict.Refused r) = never_zero r.refusal

-- Two verdicts that say the same three numbers are the same.
same_said : (v w : Verdict) → (verdict_says v).number ≡ (verdict_says w).number → (verdict_says v).first ≡ (verdict_says w).first
    → (verdict_says v).second ≡ (verdict_says w).second → v ≡ w
same_said verdict.Feasible verdict.Feasible n f s = refl
same_said verdict.Feasible (verdict.Overloaded w) n f s = absurd (omega arith)
same_said verdict.Feasible (verdict.Refused r) n f s = absurd (no_answer r.refusal (omega arith) (omega arith))
same_said (verdict.Overloaded v) verdict.Feasible n f s = absurd (omega arith)
same_said (verdict.Overloaded v) (verdict.Overloaded w) n f s = ap verdict.Overloaded (same_witness v w f s)
same_said (verdict.Overloaded v) (verdict.Refused r) n f s = absurd (no_answer r.refusal (omega arith) (omega arith))
same_said (verdict.Refused q) verdict.Feasible n f s = absurd (no_answer q.refusal (omega arith) (omega arith))
same_said (verdict.Refused q) (verdict.Overloaded w) n f s = absurd (no_answer q.refusal (omega arith) (omega arith))
same_said (verdict.Refused q) (verdict.Refused r) n f s =
    ap₂ (λ kind place. verdict.Refused (record { refusal = kind; place = place })) (numbers_differ q.refusal r.refusal n) f

pub verdicts_said_apart : VerdictsSaidApart
verdicts_said_apart v w e = same_said v w (ap (λ (s : Said). s.number) e) (ap (λ (s : Said). s.first) e) (ap (λ (s : Said). s.second) e)

pub feasible_says : FeasibleSays
feasible_says = refl

pub overloaded_says : OverloadedSays
overloaded_says L demand = refl

pub refused_verdict_says : RefusedVerdictSays
refused_verdict_says r place = refl
