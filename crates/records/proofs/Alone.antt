-- A record that was read already: each answer of its tests, what the answer means, and that these tests agree with those of a record's numbers at their places.
-- (docs/RULES.md, section 8.5.)
use Rattle.std.specs.Prelude.{Option, Some, None, Result, Ok, Err}
use Rattle.records.specs.declared.Asked.{Asked}
use Rattle.kinds.specs.declared.RefusedAt.{RefusedAt}
use Prim.Native.Nat.{ℕ, ◌+◌, ◌≤◌, ◌<◌}
use mathlib.Core.Path.{◌≡◌, refl, sym, ap, ◌∙◌}
use mathlib.Core.Logic.{◌⊎◌, ⊎_elim}
use mathlib.Core.Bool.{Bool, true, false, cond}
use mathlib.Core.List.{List, [], ◌∷◌}
use native.Mathlib.Omega.{arith}
use native.Mathlib.Decide.{dec_le}
use lib.Dec.{leb, eqb}
use lib.ListN.{length, get_or}
use borrow.Author.Tests.{le-leb, lt-leb}
use Rattle.kinds.specs.Numbering.{Says, max_time, values, refused_with}
use Rattle.kinds.specs.declared.Refusal.{Refusal}
use Rattle.kinds.specs.declared.Refusal.TheVariants as refusal
use Rattle.kinds.proofs.Apart.{impossible}
use Rattle.kinds.proofs.Numbering.{said_in}
use Rattle.numbers.specs.declared.Number.{Number}
use Rattle.script.specs.declared.Record.{Record}
use Rattle.script.specs.declared.RecordAt.{RecordAt}
use Rattle.script.specs.Records.{script_number, after_number}
use Rattle.table.specs.Costs.{limit_of, cost_answer}
use Rattle.table.proofs.CostLimits.{CostTested, cost_tested}
use Rattle.records.specs.declared.Ready.{Ready}
use Rattle.records.specs.Numbers.{numbers_at, refused_at, on_row, on_cost, allowed_or, record_tested, places_aside}
use Rattle.records.specs.TestLaws.{RecordCostMeans, RecordNoRowMeans, RecordReadyMeans, RecordTooLateMeans, TestedAlike, TestedInAScript}
use Rattle.records.specs.Answers.{record_tested_says}
use Rattle.records.specs.PassedTests.{RecordFits}

-- ---- what each answer means

-- The four answers of the tests, each with what holds where it is given.
data Sorted (limits : List ℕ) (time : ℕ) (r : Record) : Result Asked Refusal → Type 0 where
  late : max_time < time + r.gap → Sorted limits time r (Err refusal.TimeTooLate)
  no_row : time + r.gap ≤ max_time → length limits ≤ r.row.0 → Sorted limits time r (Err refusal.NoSuchRow)
  no_cost : time + r.gap ≤ max_time → r.row.0 < length limits → (r.cost ≡ 0) ⊎ (get_or limits r.row.0 0 < r.cost)
      → Sorted limits time r (Err refusal.CostOutOfRange)
  fits : RecordFits limits time r
      → Sorted limits time r (Ok (record { time = record { 0 = time + r.gap }; row = r.row; cost = r.cost }))

module _ (limits : List ℕ) (time : ℕ) (r : Record) where
  by_cost : time + r.gap ≤ max_time → (a : Result (Unit {0}) Refusal) → CostTested limits r.row.0 r.cost a
      → Sorted limits time r
      (allowed_or a (Ok (record { time = record { 0 = time + r.gap }; row = r.row; cost = r.cost })))
  by_cost in_time a (CostTested.not_in_use h) = no_row in_time h
  by_cost in_time a (CostTested.out_of_range h o) = no_cost in_time h o
  by_cost in_time a (CostTested.allowed h l m) = fits (record { in_time = in_time; in_use = h; some_cost = l; allowed = m })

  -- For every record one of the four answers holds with its meaning.
  sorted : Sorted limits time r (record_tested limits time r)
  sorted = elim (dec_le (time + r.gap) max_time) [
    | yes h ↦ rw (le-leb (time + r.gap) max_time h) (by_cost h _ (cost_tested limits r.row.0 r.cost))
    | no h ↦ rw (lt-leb (time + r.gap) max_time (omega arith)) (late (omega arith))
  ]

-- Refusals with different numbers do not say the same.
numbers_apart : {A : Type 0} {m n : ℕ} {a b : Says} → a ≡ b → (said_in a).number ≡ m → (said_in b).number ≡ n → (m ≡ n → ⊥) → A
numbers_apart e p q apart = absurd (apart (sym p ∙ ap (λ (a : Says). (said_in a).number) e ∙ q))

pub record_too_late_means : RecordTooLateMeans
record_too_late_means limits time r = (to _ (sorted limits time r), from _ (sorted limits time r))
  where
    to : (v : Result Asked Refusal) → Sorted limits time r v → record_tested_says v ≡ refused_with 10 0 → max_time < time + r.gap
    to v (late h) e = h
    to v (no_row h u) e = numbers_apart {m = 6} {n = 10} e refl refl (λ z. omega arith)
    to v (no_cost h u o) e = numbers_apart {m = 7} {n = 10} e refl refl (λ z. omega arith)
    to v (fits f) e = impossible cc

    from : (v : Result Asked Refusal) → Sorted limits time r v → max_time < time + r.gap → record_tested_says v ≡ refused_with 10 0
    from v (late h) l = refl
    from v (no_row h u) l = absurd (omega arith)
    from v (no_cost h u o) l = absurd (omega arith)
    from v (fits f) l = absurd (omega (arith, f.in_time))

pub record_no_row_means : RecordNoRowMeans
record_no_row_means limits time r = (to _ (sorted limits time r), from _ (sorted limits time r))
  where
    to : (v : Result Asked Refusal) → Sorted limits time r v → record_tested_says v ≡ refused_with 6 0 → (time + r.gap ≤ max_time) × (length limits ≤ r.row.0)
    to v (late h) e = numbers_apart {m = 10} {n = 6} e refl refl (λ z. omega arith)
    to v (no_row h u) e = (h, u)
    to v (no_cost h u o) e = numbers_apart {m = 7} {n = 6} e refl refl (λ z. omega arith)
    to v (fits f) e = impossible cc

    from : (v : Result Asked Refusal) → Sorted limits time r v → (time + r.gap ≤ max_time) × (length limits ≤ r.row.0) → record_tested_says v ≡ refused_with 6 0
    from v (late h) l = absurd (omega (arith, l.0))
    from v (no_row h u) l = refl
    from v (no_cost h u o) l = absurd (omega (arith, l.1))
    from v (fits f) l = absurd (omega (arith, l.1, f.in_use))

pub record_cost_means : RecordCostMeans
record_cost_means limits time r = (to _ (sorted limits time r), from _ (sorted limits time r))
  where
    to : (v : Result Asked Refusal) → Sorted limits time r v → record_tested_says v ≡ refused_with 7 0
        → (time + r.gap ≤ max_time) × (r.row.0 < length limits) × ((r.cost ≡ 0) ⊎ (get_or limits r.row.0 0 < r.cost))
    to v (late h) e = numbers_apart {m = 10} {n = 7} e refl refl (λ z. omega arith)
    to v (no_row h u) e = numbers_apart {m = 6} {n = 7} e refl refl (λ z. omega arith)
    to v (no_cost h u o) e = (h, u, o)
    to v (fits f) e = impossible cc

    from : (v : Result Asked Refusal) → Sorted limits time r v
        → (time + r.gap ≤ max_time) × (r.row.0 < length limits) × ((r.cost ≡ 0) ⊎ (get_or limits r.row.0 0 < r.cost))
        → record_tested_says v ≡ refused_with 7 0
    from v (late h) l = absurd (omega (arith, l.0))
    from v (no_row h u) l = absurd (omega (arith, l.1))
    from v (no_cost h u o) l = refl
    from v (fits f) l = ⊎_elim (λ z. absurd (omega (arith, f.some_cost))) (λ above. absurd (omega (arith, f.allowed))) l.2

pub record_ready_means : RecordReadyMeans
record_ready_means limits time r a = (to _ (sorted limits time r), from _ (sorted limits time r))
  where
    to : (v : Result Asked Refusal) → Sorted limits time r v → record_tested_says v ≡ values (a.time.0 ∷ a.row.0 ∷ a.cost ∷ [])
        → RecordFits limits time r × (a.time.0 ≡ time + r.gap) × (a.row ≡ r.row) × (a.cost ≡ r.cost)
    to v (late h) e = impossible cc
    to v (no_row h u) e = impossible cc
    to v (no_cost h u o) e = impossible cc
    to v (fits f) e =
        let row : a.row.0 ≡ r.row.0 = cc in
        (f, cc, ap (λ (n : ℕ). record { 0 = n }) row, cc)

    from : (v : Result Asked Refusal) → Sorted limits time r v → RecordFits limits time r × (a.time.0 ≡ time + r.gap) × (a.row ≡ r.row) × (a.cost ≡ r.cost)
        → record_tested_says v ≡ values (a.time.0 ∷ a.row.0 ∷ a.cost ∷ [])
    from v (late h) l = absurd (omega (arith, l.0.in_time))
    from v (no_row h u) l = absurd (omega (arith, l.0.in_use))
    from v (no_cost h u o) l = ⊎_elim (λ z. absurd (omega (arith, l.0.some_cost))) (λ above. absurd (omega (arith, l.0.allowed))) o
    from v (fits f) l = rw (l.1, l.2, l.3)

-- ---- both tests agree

-- The two tests agree on a cost, whether it is allowed or refused.
alike_cost : (a : Result (Unit {0}) Refusal) (place : ℕ) (r : Ready)
    → places_aside (on_cost a place (Ok r)) ≡ allowed_or a (Ok (record { time = r.time; row = r.row; cost = r.cost }))
alike_cost (Ok done) place r = refl
alike_cost (Err q) place r = refl

-- The two tests agree on a row number, whether it has a limit or none.
alike_row : (l : Option ℕ) (row_place cost_place : ℕ) (r : Ready)
    → places_aside (on_row l row_place (on_cost (cost_answer l r.cost) cost_place (Ok r)))
    ≡ allowed_or (cost_answer l r.cost) (Ok (record { time = r.time; row = r.row; cost = r.cost }))
alike_row (Some most) row_place cost_place r = alike_cost (cost_answer (Some most) r.cost) cost_place r
alike_row None row_place cost_place r = refl

-- The two tests agree on whether a time is above 2^40.
alike_time : (test : Bool) (x : Result Ready RefusedAt) (y : Result Asked Refusal) (place : ℕ) → places_aside x ≡ y
    → places_aside (cond test x (refused_at refusal.TimeTooLate place)) ≡ cond test y (Err refusal.TimeTooLate)
alike_time true x y place e = e
alike_time false x y place e = refl

pub tested_alike : TestedAlike
tested_alike limits time n gap row cost e₁ e₂ e₃ =
    rw (e₁, e₂, e₃) (alike_time (leb (time + gap.value) max_time) _ _ n.gap.place
    (alike_row (limit_of limits row.value) n.row.place n.cost.place
    (record { time = record { 0 = time + gap.value }; row = record { 0 = row.value }; cost = cost.value; next = cost.next })))

-- Where a record was read, each of its numbers was read.
number_before : (v : Result Number RefusedAt) (k : Number → Result (Option RecordAt) RefusedAt) (found : RecordAt) → after_number v k ≡ Ok (Some found)
    → (n : Number) × (v ≡ Ok n) × (k n ≡ Ok (Some found))
number_before (Ok n) k found e = (n, refl, e)
number_before (Err r) k found e = impossible cc

-- Where a record was read, the script had not ended.
not_ended : (t : Bool) (then : Result (Option RecordAt) RefusedAt) (found : RecordAt) → cond t (Ok None) then ≡ Ok (Some found) → then ≡ Ok (Some found)
not_ended true then found e = impossible cc
not_ended false then found e = e

-- The row number of a record is read right after the gap, and the cost right after the row number.
row_after : (s : List ℕ) (at : ℕ) {gap row : Number} → script_number s at ≡ Ok gap → script_number s gap.next ≡ Ok row
    → (numbers_at s at).row.read ≡ Ok row
row_after s at g r = rw g r

cost_after : (s : List ℕ) (at : ℕ) {gap row cost : Number} → script_number s at ≡ Ok gap → script_number s gap.next ≡ Ok row
    → script_number s row.next ≡ Ok cost → (numbers_at s at).cost.read ≡ Ok cost
cost_after s at g r c = rw (g, r) c

-- Two readings that answer the same have read the same record.
one_record : {a b : RecordAt} → ◌≡◌ {A = Result (Option RecordAt) RefusedAt} (Ok (Some a)) (Ok (Some b)) → a ≡ b
one_record e = cc

pub tested_in_a_script : TestedInAScript
tested_in_a_script limits time s at found e =
    let gap = number_before (script_number s at) _ found (not_ended (eqb at (length s)) _ found e) in
    let row = number_before (script_number s gap.0.next) _ found gap.2 in
    let cost = number_before (script_number s row.0.next) _ found row.2 in
    tested_alike limits time (numbers_at s at) gap.0 row.0 cost.0 gap.1 (row_after s at gap.1 row.1)
    (cost_after s at gap.1 row.1 cost.1)
    ∙ ap (λ (f : RecordAt). record_tested limits time f.release) (one_record cost.2)
