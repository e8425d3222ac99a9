-- How far the lengths have to be scanned to settle the verdict, which depends on whether the growth is above the period. Also, a verdict that is right for the
-- table that was read is right for its bytes. (docs/RULES.md, 5.7 to 5.9.)
use Rattle.std.specs.Prelude.{Ok, Err}
use Prim.Native.Nat.{ℕ, ◌+◌, ◌*◌, ◌≤◌, ◌<◌}
use mathlib.Core.Path.{◌≡◌, refl}
use mathlib.Core.List.{List}
use native.Mathlib.Omega.{arith}
use Rattle.kinds.specs.declared.RefusedAt.{RefusedAt}
use Rattle.numbers.specs.SpelledNumbers.{Bytes}
use Rattle.theory.specs.Curves.{EveryLengthFits, FitsUpTo}
use Rattle.theory.proofs.Curves.{settled_within_a_period, smallest_within_a_period, fails_when_growth_is_above, has_smallest_failing}
use Rattle.table.specs.declared.Table.{Table}
use Rattle.table.specs.declared.TableRead.{TableRead}
use Rattle.table.specs.Tables.{table_read}
use Rattle.verdict.specs.declared.Verdict.{Verdict}
use Rattle.verdict.specs.declared.Verdict.TheVariants as verdict
use Rattle.verdict.specs.Demand.{table_demand, table_growth, largest_d}
use Rattle.verdict.specs.Verdict.{RightOf, Judged}
use Rattle.verdict.specs.ScanLaws.{LengthsThatSettle, OverloadedAboveOne, SmallestIsAmongThem}
use Rattle.verdict.proofs.Accepted.{Known, accepted_is_known}

-- If the demand fits in every length up to `last`, it fits in every length.
abbrev pub Settles : Table → (last : ℕ) → Type 0
Settles t last = FitsUpTo (table_demand t) last → EveryLengthFits (table_demand t)

module _ (t : Table) (period : ℕ) (known : Known t period) {d growth : ℕ} (largest : d ≡ largest_d t) (grows : growth ≡ table_growth t period) where
  -- Where the growth is at most the period, the lengths up to period + d settle every length.
  pub settled_by_one_period : growth ≤ period → Settles t (period + d)
  settled_by_one_period slow =
      rw largest
      (settled_within_a_period (table_demand t) (largest_d t) period (table_growth t period) known.curve known.some_period (rw grows at slow))

  -- Where the growth is above the period, the length (d + 1) · period + d fails.
  last_fails : period < growth → (d + 1) * period + d < table_demand t ((d + 1) * period + d)
  last_fails above =
      rw largest (fails_when_growth_is_above (table_demand t) (largest_d t) period (table_growth t period) known.curve (rw grows at above))

  -- Where the growth is above the period, the lengths up to (d + 1) · period + d settle every length.
  pub settled_by_many_periods : period < growth → Settles t ((d + 1) * period + d)
  settled_by_many_periods above fits =
      let last = (d + 1) * period + d in
      absurd (omega (arith, last_fails above, fits last (omega (arith, known.some_period)) (omega arith)))

-- ---- an accepted table

pub lengths_that_settle : LengthsThatSettle
lengths_that_settle s period bytes accepted slow =
    settled_by_one_period (table_read s).table period (accepted_is_known s period bytes accepted) refl refl slow

pub smallest_is_among_them : SmallestIsAmongThem
smallest_is_among_them s period bytes accepted slow L smallest =
    let t = (table_read s).table in
    let known = accepted_is_known s period bytes accepted in
    smallest_within_a_period (table_demand t) (largest_d t) period (table_growth t period) known.curve known.some_period slow L smallest

pub overloaded_above_one : OverloadedAboveOne
overloaded_above_one s period bytes accepted above =
    let t = (table_read s).table in
    let known = accepted_is_known s period bytes accepted in
    let last = (largest_d t + 1) * period + largest_d t in
    has_smallest_failing (table_demand t) last (omega (arith, known.some_period)) (last_fails t period known refl refl above)

-- ---- the bytes that were read

module _ (s : List ℕ) (read : TableRead) (reads_as : read ≡ table_read s) where
  module _ (period : ℕ) (accepted : read.answer ≡ Ok period) where
    -- All that a verdict needs is known about the accepted table.
    pub read_is_known : Bytes s → Known read.table period
    read_is_known bytes = rw reads_as (accepted_is_known s period bytes (rw reads_as at accepted))

    -- A verdict that is right for the accepted table is right for the bytes.
    pub judged_as_accepted : (v : Verdict) → RightOf read.table v → Judged s v
    judged_as_accepted v right = rw (← reads_as, accepted) right

  -- Where the table was refused, that refusal is the right verdict for the bytes.
  pub judged_as_refused : (r : RefusedAt) → read.answer ≡ Err r → Judged s (verdict.Refused r)
  judged_as_refused r refused = rw (← reads_as, refused) refl
