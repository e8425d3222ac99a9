-- The rows of a table in range, one after another. Each is within its limits, and what holds for the first i + 1 rows follows from what holds for the first i
-- and for row i.
use Prim.Native.Nat.{ℕ, ◌+◌, ◌≤◌, ◌<◌, max}
use mathlib.Core.Path.{◌≡◌}
use mathlib.Core.List.{List, [], ◌∷◌, ◌++◌}
use native.Mathlib.Omega.{arith}
use lib.ListN.{length, take, get_or}
use Rattle.theory.specs.Lists.{All}
use Rattle.theory.specs.Demand.{row_growth}
use Rattle.table.specs.declared.Row.{Row}
use Rattle.table.specs.declared.Table.{Table}
use Rattle.table.specs.SpelledTables.{WithinLimits}
use Rattle.table.specs.Tables.{no_row, InRange}
use Rattle.table.proofs.SpelledTables.{in_range_means}
use Rattle.verdict.specs.Demand.{row_demand_of, largest_of}
use Rattle.verdict.proofs.Sums.{one_more, first_all}

-- `row_at` is the row at a row number.
abbrev pub row_at : Table → (i : ℕ) → Row
row_at t i = get_or t.rows i no_row

-- `first_rows` are the rows before a row number.
abbrev pub first_rows : Table → (i : ℕ) → List Row
first_rows t i = take i t.rows

-- One weight of a row is its demand in a length. Such weights are summed over the rows.
abbrev pub demand_in : (L : ℕ) → Row → ℕ
demand_in L r = row_demand_of r L

-- Another weight of a row is the growth of its demand in a period.
abbrev pub growth_in : (period : ℕ) → Row → ℕ
growth_in period r = row_growth r.x r.y r.c period

-- The largest d of two lists of rows together is the larger of their two.
largest_of-append : (l m : List Row) → largest_of (l ++ m) ≡ max (largest_of l) (largest_of m)
unfolding largest_of
largest_of-append [] m = omega arith
largest_of-append (r ∷ l) m = omega (arith, largest_of-append l m)

module _ {t : Table} (in_range : InRange t) where
  -- A table has a place for each row in use.
  pub row_places : t.count ≤ length t.rows
  row_places = omega (arith, in_range.few_rows, in_range.all_places)

  -- A row in use is within its limits.
  pub row_within : (i : ℕ) → i < t.count → WithinLimits (row_at t i)
  row_within i h = (in_range_means (row_at t i)).0 (in_range.rows_in_range i h)

  -- All rows before i are within their limits.
  pub rows_within : (i : ℕ) → i ≤ t.count → All WithinLimits (first_rows t i)
  rows_within i h = first_all no_row t.rows WithinLimits i (omega (arith, row_places)) (λ k b. row_within k (omega arith))

  -- The largest d of the rows before i + 1 is the larger of that of the rows before i, and the d of row i.
  pub largest_more : (i : ℕ) → i < t.count → largest_of (first_rows t (i + 1)) ≡ max (largest_of (first_rows t i)) (row_at t i).d
  unfolding largest_of
  largest_more i h = rw (one_more no_row t.rows i (omega (arith, row_places)), largest_of-append) (omega arith)
