-- The one test of a row number and a cost: each answer comes exactly where its rule says, and the limits of a table are those of its rows and servers in use.
-- (docs/RULES.md, 3.20 and 6.8.)
use Rattle.std.specs.Prelude.{Option, Some, None, Result, Ok, Err}
use Prim.Native.Nat.{ℕ, ◌+◌, ◌-◌, ◌≤◌, ◌<◌}
use native.Mathlib.Decide.{dec_le}
use native.Mathlib.Omega.{arith}
use mathlib.Core.Path.{◌≡◌, refl, sym, ap, ap₂, ◌∙◌}
use mathlib.Core.Logic.{◌⊎◌, inl, inr, ⊎_elim}
use mathlib.Core.List.{List, [], ◌∷◌, ◌++◌, append_assoc}
use lib.ListN.{length, take, get_or, replicate, length-append, length-map, length-replicate, get_or-replicate, replicate-append-replicate, get_or-append}
use lib.ListN.{get_or-map}
use lib.Seq.{get_or-take, get_or-append-add, length-take-le, take_at}
use borrow.Author.Tests.{lt-ltb, le-ltb, le-leb, lt-leb}
use Rattle.kinds.specs.declared.Refusal.{Refusal}
use Rattle.kinds.specs.declared.Refusal.TheVariants as refusal
use Rattle.kinds.specs.Numbering.{values, NeverNumberedZero, refused_with}
use Rattle.kinds.proofs.Apart.{impossible}
use Rattle.kinds.proofs.Numbering.{never_zero, plain_refusals_apart}
use Rattle.periods.proofs.Periods.{numbers_apart}
use Rattle.table.specs.declared.Row.{Row}
use Rattle.table.specs.declared.Table.{Table}
use Rattle.table.specs.Limits.{max_rows, max_sources, max_c}
use Rattle.table.specs.Tables.{no_row, rows_of}
use Rattle.table.specs.Costs.{cs_of, cost_limits, held_limits, limit_of, cost_answer, limit_says, cost_says}
use Rattle.table.specs.Costs as laws

-- ---- the answers

-- A row number in use has the limit that stands there.
pub limit_in_use : (limits : List ℕ) (number : ℕ) → number < length limits → limit_of limits number ≡ Some (get_or limits number 0)
limit_in_use limits number h = rw (lt-ltb number (length limits) h)

-- A row number that is not in use has no limit.
pub limit_not_in_use : (limits : List ℕ) (number : ℕ) → length limits ≤ number → limit_of limits number ≡ None
limit_not_in_use limits number h = rw (le-ltb number (length limits) h)

-- A cost from 1 to the most is allowed.
pub cost_allowed : (most cost : ℕ) → 1 ≤ cost → cost ≤ most → cost_answer (Some most) cost ≡ Ok tt
cost_allowed most cost l h = simp (le-leb 1 cost l, le-leb cost most h)

-- A cost of 0 is refused with 7.
pub no_cost : (most cost : ℕ) → cost < 1 → cost_answer (Some most) cost ≡ Err refusal.CostOutOfRange
no_cost most cost h = simp (lt-leb 1 cost h)

-- A cost above the most is refused with 7.
pub cost_too_high : (most cost : ℕ) → 1 ≤ cost → most < cost → cost_answer (Some most) cost ≡ Err refusal.CostOutOfRange
cost_too_high most cost l h = simp (le-leb 1 cost l, lt-leb cost most h)

-- The test of a row number and a cost has three outcomes, each with what it means.
pub data CostTested (limits : List ℕ) (number cost : ℕ) : Result (Unit {0}) Refusal → Type 0 where
  not_in_use : length limits ≤ number → CostTested limits number cost (Err refusal.NoSuchRow)
  out_of_range : number < length limits → (cost ≡ 0) ⊎ (get_or limits number 0 < cost) → CostTested limits number cost (Err refusal.CostOutOfRange)
  allowed : number < length limits → 1 ≤ cost → cost ≤ get_or limits number 0 → CostTested limits number cost (Ok tt)

module _ (limits : List ℕ) (number cost : ℕ) where
  -- A row number that is not in use is refused with 6.
  refused_not_in_use : length limits ≤ number → cost_answer (limit_of limits number) cost ≡ Err refusal.NoSuchRow
  refused_not_in_use h = rw (limit_not_in_use limits number h)

  -- A cost that is 0 or above the limit is refused with 7.
  refused_out_of_range : number < length limits → (cost ≡ 0) ⊎ (get_or limits number 0 < cost)
      → cost_answer (limit_of limits number) cost ≡ Err refusal.CostOutOfRange
  refused_out_of_range h o = rw (limit_in_use limits number h) (elim (dec_le 1 cost) [
    | yes l ↦ cost_too_high (get_or limits number 0) cost l (⊎_elim (λ z. absurd (omega arith)) (λ above. above) o)
    | no l ↦ no_cost (get_or limits number 0) cost (omega arith)
  ])

  -- A cost from 1 to the limit is allowed.
  allowed_in_range : number < length limits → 1 ≤ cost → cost ≤ get_or limits number 0 → cost_answer (limit_of limits number) cost ≡ Ok tt
  allowed_in_range h l m = rw (limit_in_use limits number h) (cost_allowed (get_or limits number 0) cost l m)

  -- The test always has one of the three outcomes.
  pub cost_tested : CostTested limits number cost (cost_answer (limit_of limits number) cost)
  cost_tested = elim (dec_le (length limits) number) [
    | yes h ↦ rw (refused_not_in_use h) (not_in_use h)
    | no h ↦ elim (dec_le 1 cost) [
      | yes l ↦ elim (dec_le cost (get_or limits number 0)) [
        | yes m ↦ rw (allowed_in_range (omega arith) l m) (allowed (omega arith) l m)
        | no m ↦ let o : (cost ≡ 0) ⊎ (get_or limits number 0 < cost) = inr (omega arith) in rw (refused_out_of_range (omega arith) o) (out_of_range (omega arith) o)
      ]
      | no l ↦ let o : (cost ≡ 0) ⊎ (get_or limits number 0 < cost) = inl (omega arith) in rw (refused_out_of_range (omega arith) o) (out_of_range (omega arith) o)
    ]
  ]

-- ---- what each answer means

pub not_in_use_means : laws.NotInUseMeans
not_in_use_means limits number cost = (to _ (cost_tested limits number cost), λ h. rw (refused_not_in_use limits number cost h))
  where
    to : (a : Result (Unit {0}) Refusal) → CostTested limits number cost a → cost_says a ≡ refused_with 6 0 → length limits ≤ number
    to a (not_in_use h) e = h
    to a (out_of_range h o) e = numbers_apart {m = 7} {n = 6} e refl refl (λ z. omega arith)
    to a (allowed h l m) e = impossible cc

pub out_of_range_cost_means : laws.OutOfRangeCostMeans
out_of_range_cost_means limits number cost = (to _ (cost_tested limits number cost), λ h. rw (refused_out_of_range limits number cost h.0 h.1))
  where
    to : (a : Result (Unit {0}) Refusal) → CostTested limits number cost a → cost_says a ≡ refused_with 7 0
        → (number < length limits) × ((cost ≡ 0) ⊎ (get_or limits number 0 < cost))
    to a (not_in_use h) e = numbers_apart {m = 6} {n = 7} e refl refl (λ z. omega arith)
    to a (out_of_range h o) e = (h, o)
    to a (allowed h l m) e = impossible cc

pub allowed_means : laws.AllowedMeans
allowed_means limits number cost = (to _ (cost_tested limits number cost), λ h. rw (allowed_in_range limits number cost h.0 h.1 h.2))
  where
    to : (a : Result (Unit {0}) Refusal) → CostTested limits number cost a → cost_says a ≡ values []
        → (number < length limits) × (1 ≤ cost) × (cost ≤ get_or limits number 0)
    to a (not_in_use h) e = impossible cc
    to a (out_of_range h o) e = impossible cc
    to a (allowed h l m) e = (h, l, m)

pub limit_means : laws.LimitMeans
limit_means limits number most = (to, λ h. rw (limit_in_use limits number h.0, h.1))
  where
    to : limit_says (limit_of limits number) ≡ values (most ∷ []) → (number < length limits) × (most ≡ get_or limits number 0)
    to e = elim (dec_le (length limits) number) [
      | yes h ↦ let f = rw (limit_not_in_use limits number h) at e in impossible cc
      | no h ↦ let f = rw (limit_in_use limits number (omega arith)) at e in (omega arith, cc)
    ]

pub no_limit_means : laws.NoLimitMeans
no_limit_means limits number = (to, λ h. rw (limit_not_in_use limits number h))
  where
    to : limit_says (limit_of limits number) ≡ refused_with 6 0 → length limits ≤ number
    to e = elim (dec_le (length limits) number) [
      | yes h ↦ h
      | no h ↦ let f = rw (limit_in_use limits number (omega arith)) at e in impossible cc
    ]

pub costs_never_zero : laws.CostsNeverZero
costs_never_zero = (limits, costs)
  where
    limits : NeverNumberedZero limit_says
    limits (Some most) = tt
    limits None = never_zero refusal.NoSuchRow

    costs : NeverNumberedZero cost_says
    costs (Ok done) = tt
    costs (Err r) = never_zero r

pub costs_said_apart : laws.CostsSaidApart
costs_said_apart = (limits, costs)
  where
    limits : (a b : Option ℕ) → limit_says a ≡ limit_says b → a ≡ b
    limits (Some m) (Some n) e = cc
    limits (Some m) None e = impossible cc
    limits None (Some n) e = impossible cc
    limits None None e = refl

    costs : (a b : Result (Unit {0}) Refusal) → cost_says a ≡ cost_says b → a ≡ b
    costs (Ok done) (Ok again) e = refl
    costs (Ok done) (Err r) e = impossible cc
    costs (Err q) (Ok done) e = impossible cc
    costs (Err q) (Err r) e = ap Err (plain_refusals_apart q r e)

-- ---- the limits of a table

-- There is one c for each row in use.
one_c_for_each : (t : Table) → t.count ≤ max_rows → length t.rows ≡ max_rows → length (cs_of (rows_of t)) ≡ t.count
one_c_for_each t few places = length-map (rows_of t) _ ∙ length-take-le t.count t.rows (omega arith)

pub one_limit_for_each : laws.OneLimitForEach
one_limit_for_each t few places = length-append (cs_of (rows_of t)) _ ∙ ap₂ ◌+◌ (one_c_for_each t few places) (length-replicate t.serving max_c)

pub limits_are_the_first : laws.LimitsAreTheFirst
limits_are_the_first t few places serving =
    let used : length (rows_of t) ≡ t.count = length-take-le t.count t.rows (omega arith) in
    let left : max_sources - length (rows_of t) ≡ t.serving + (max_sources - t.count - t.serving) = omega arith in
    let split : held_limits t ≡ cost_limits t ++ replicate (max_sources - t.count - t.serving) max_c =
    ap (λ n. cs_of (rows_of t) ++ replicate n max_c) left
    ∙ ap (◌++◌ (cs_of (rows_of t))) (sym (replicate-append-replicate t.serving _ max_c)) ∙ sym (append_assoc (cs_of (rows_of t)) _ _)
    in
    sym (ap (take (t.count + t.serving)) split ∙ take_at (cost_limits t) _ _ (one_limit_for_each t few places))

pub limit_is_its_c : laws.LimitIsItsC
limit_is_its_c t number few places h =
    get_or-append (cs_of (rows_of t)) _ 0 number (omega (arith, one_c_for_each t few places))
    ∙ get_or-map (λ (r : Row). r.c) (rows_of t) number no_row ∙ ap (λ (r : Row). r.c) (get_or-take t.count t.rows number no_row h)

pub limit_of_a_server : laws.LimitOfAServer
limit_of_a_server t number few places above below =
    let place : number ≡ length (cs_of (rows_of t)) + (number - t.count) = omega (arith, one_c_for_each t few places) in
    ap (λ n. get_or (cost_limits t) n 0) place ∙ get_or-append-add (cs_of (rows_of t)) _ (number - t.count) 0
    ∙ get_or-replicate t.serving (number - t.count) max_c 0 (omega arith)
