-- No order: the proof. The jobs that a witness of length L names are due by L and cost more than the ticks that the timer leaves free before L, so no
-- assignment serves them. (5.11)
use Rattle.std.specs.Prelude.{Result, Ok, Err}
use Rattle.kinds.specs.declared.RefusedAt.{RefusedAt}
use Prim.Native.Nat.{ℕ, zero, suc, ◌+◌, ◌≤◌}
use mathlib.Core.Path.{◌≡◌, refl, ap}
use mathlib.Core.Logic.{⊎_elim}
use mathlib.Core.Bool.{Bool, cond}
use mathlib.Core.Option.{Option}
use mathlib.Core.List.{List, [], ◌∷◌, flatten}
use native.Mathlib.Omega.{arith}
use Rattle.kinds.specs.Numbering.{max_time}
use Rattle.kinds.proofs.Apart.{impossible}
use Rattle.numbers.specs.SpelledNumbers.{Bytes}
use Rattle.theory.specs.Lists.{All}
use Rattle.theory.specs.Jobs.{Job}
use Rattle.theory.specs.Ticks.{had}
use Rattle.theory.specs.Curves.{SmallestFailing}
use Rattle.theory.specs.Schedules.{units_before, units_in, Meets}
use Rattle.theory.specs.Sources.{in_turn}
use Rattle.theory.proofs.Lists.{All-flatten}
use Rattle.theory.proofs.Curves.{decided, one_smallest_failing, none_where_every_length_fits}
use Rattle.theory.proofs.Timers.{timer_takes_from_zero}
use Rattle.theory.proofs.Schedules.{overload_of_sources}
use Rattle.table.specs.declared.Table.{Table}
use Rattle.table.specs.Tables.{table_read}
use Rattle.verdict.specs.declared.Witness.{Witness}
use Rattle.verdict.specs.declared.Verdict.{Verdict}
use Rattle.verdict.specs.declared.Verdict.TheVariants as verdict
use Rattle.verdict.specs.Demand.{table_demand, table_growth, largest_d}
use Rattle.verdict.specs.Verdict.{RightOfRead, Judged, verdict_says}
use Rattle.verdict.proofs.Accepted.{Known, accepted_is_known}
use Rattle.verdict.proofs.Verdicts.{verdicts_said_apart}
use Rattle.verdict.proofs.Bounds.{last_at_most}
use Rattle.promise.specs.Sources.{sources_of}
use Rattle.promise.specs.Link.{taken_on}
use Rattle.promise.specs.NoOrder.{named_jobs, units_by, Serves, NoOrder}
use Rattle.promise.specs.NamedJobs.{WitnessIsInTime}
use Rattle.promise.proofs.Sources.{demand_over_sources, sources_good}
use Rattle.promise.proofs.NamedJobs.{theirs, all_due, all_cost, all_distinct, all_are_at_zero, same_named}

-- ---- assignments

module _ (taken : ℕ → Bool) (who : ℕ → Option ℕ) where
  -- The units that count for a job by its due time are the theory's units, where the job is released at zero.
  same_units : (n t : ℕ) → units_before taken who n t ≡ units_by taken t who n
  unfolding units_before units_by
  same_units n zero = refl
  same_units n (suc t) = ap (λ m. cond (taken t) 0 (had n (who t)) + m) (same_units n t)

  -- No unit counts before time 0.
  none_before : (n : ℕ) → units_by taken 0 who n ≡ 0
  unfolding units_by
  none_before n = refl

  -- Jobs released at zero that have their cost in units that count have it by the theory's count too.
  meets : (js : List Job) → All (λ j. j.release ≡ 0) js → Serves taken who js → Meets taken who js
  unfolding units_in
  meets [] zero_all had_all = tt
  meets (j ∷ js) zero_all had_all = (
    rw zero_all.0 (omega (arith, had_all.0, same_units j.name j.due, same_units j.name 0, none_before j.name)),
    meets js zero_all.1 had_all.1,
  )

-- ---- the witness

-- A smallest failing length of a table is at most 2^40.
witness_in_time : (t : Table) (period : ℕ) → Known t period → (L : ℕ) → SmallestFailing (table_demand t) L → L ≤ max_time
witness_in_time t period known L smallest = ⊎_elim
    (λ fits. absurd (none_where_every_length_fits (table_demand t) L fits smallest))
    (λ found. omega (
      arith,
      one_smallest_failing (table_demand t) L found.0 smallest found.1,
      found.2,
      last_at_most known.in_range period known.most_period,
    ))
    (decided (table_demand t) (largest_d t) period (table_growth t period) known.curve known.some_period)

-- The jobs that a failing length names can't be served on the ticks that the timer leaves free.
not_served : (t : Table) (period : ℕ) → Known t period → (L : ℕ) → SmallestFailing (table_demand t) L → (who : ℕ → Option ℕ)
    → ¬ Serves (taken_on t) who (named_jobs t L)
not_served t period known L smallest who served =
    let all = sources_of t in
    let good_all = sources_good t known.in_range in
    let same = same_named t L known.in_range (witness_in_time t period known L smallest) in
    let good = known.in_range.good_timer in
    let left = timer_takes_from_zero t.s t.p good.some_p (omega (arith, good.s_below_p)) L in
    overload_of_sources (taken_on t) L (in_turn (theirs L) 0 0 all) (all_distinct L all) (all_due L all good_all)
    (omega (arith, left, all_cost L 0 0 all, demand_over_sources t L, smallest.fails)) who
    (meets (taken_on t) who (flatten (in_turn (theirs L) 0 0 all)) (All-flatten (λ j. j.release ≡ 0) _ (all_are_at_zero L all good_all)) (rw same at served))

-- A verdict that says 21 with the length L is the overloaded verdict with that length.
pub says_overloaded : (v : Verdict) (L demand : ℕ) → verdict_says v ≡ record { number = 21; first = L; second = demand }
    → v ≡ verdict.Overloaded (record { length = L; demand = demand })
says_overloaded v L demand said = verdicts_said_apart v (verdict.Overloaded (record { length = L; demand = demand })) said

-- An overloaded verdict is right only for an accepted table, where its length is the smallest that fails.
overloaded_is_right : (t : Table) (a : Result ℕ RefusedAt) (w : Witness) → RightOfRead t a (verdict.Overloaded w)
    → (period : ℕ) × (a ≡ Ok period) × SmallestFailing (table_demand t) w.length
overloaded_is_right t (Ok period) w right = (period, refl, right.0)
overloaded_is_right t (Err r) w right = impossible cc

module _ (bytes : List ℕ) (fine : Bytes bytes) (v : Verdict) (judged : Judged bytes v) (L demand : ℕ)
    (said : verdict_says v ≡ record { number = 21; first = L; second = demand }) where
  -- The bytes that were judged are an accepted table, and L is the smallest length that fails.
  witness : (period : ℕ) × ((table_read bytes).answer ≡ Ok period) × SmallestFailing (table_demand (table_read bytes).table) L
  witness =
      overloaded_is_right (table_read bytes).table (table_read bytes).answer (record { length = L; demand = demand })
      (rw (says_overloaded v L demand said) at judged)

  known : Known (table_read bytes).table witness.0
  known = accepted_is_known bytes witness.0 fine witness.1

-- The length of a witness is at most 2^40.
pub witness_is_in_time : WitnessIsInTime
witness_is_in_time bytes fine v judged L demand said =
    witness_in_time (table_read bytes).table (witness bytes fine v judged L demand said).0 (known bytes fine v judged L demand said) L
    (witness bytes fine v judged L demand said).2

-- Nobody serves the jobs that the witness names.
pub no_order : NoOrder
no_order bytes fine v judged L demand said =
    not_served (table_read bytes).table (witness bytes fine v judged L demand said).0 (known bytes fine v judged L demand said) L
    (witness bytes fine v judged L demand said).2
