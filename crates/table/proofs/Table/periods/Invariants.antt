-- `Table::periods` meets its contract. The first loop's invariant is `YsWritten`: p and, behind it, the y of each row passed are written. The second loop's is
-- `BsWritten`: behind the y of every row in use, the b of each server passed is written.
use Prim.Native.Nat.{ℕ, ◌+◌, ◌≤◌}
use mathlib.Core.Path.{◌≡◌}
use mathlib.Core.List.{List, ◌∷◌, ◌++◌}
use lib.ListN.{length, take}
use Rattle.table.specs.declared.Table.{Table}
use Rattle.table.specs.Limits.{max_sources}
use Rattle.table.specs.Period.{ys_of, bs_of}
use Rattle.table.specs.Tables.{rows_of}
use Rattle.table.proofs.Table.periods.Given as goal

-- The timer's p and the y of each of the first i rows are written.
pub record YsWritten (t : Table) (periods : List ℕ) (i : ℕ) : Type 0 where
  pub not_past : i ≤ t.count
  pub all_places : length periods ≡ max_sources + 1
  pub so_far : take (i + 1) periods ≡ t.p ∷ ys_of (take i t.rows)

-- The timer's p, the y of each row in use and the b of each of the first k servers are written.
pub record BsWritten (t : Table) (periods : List ℕ) (k : ℕ) : Type 0 where
  pub not_past : k ≤ t.serving
  pub all_places : length periods ≡ max_sources + 1
  pub so_far : take (t.count + 1 + k) periods ≡ t.p ∷ (ys_of (rows_of t) ++ bs_of (take k t.servers))

abbrev pub invariant-loop-i : goal.invariant-loop-i
invariant-loop-i l = YsWritten l.self l.periods l.i

abbrev pub invariant-loop-k : goal.invariant-loop-k
invariant-loop-k l = BsWritten l.self l.periods l.k
