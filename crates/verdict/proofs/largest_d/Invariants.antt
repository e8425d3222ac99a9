-- `verdict::largest_d` meets its contract. The loop's invariant: `largest` is the largest d of the rows passed.
use Prim.Native.Nat.{◌≤◌}
use mathlib.Core.Path.{◌≡◌}
use Rattle.verdict.specs.Demand.{largest_of}
use Rattle.verdict.proofs.Rows.{first_rows}
use Rattle.verdict.proofs.largest_d.Given as goal

abbrev pub invariant-loop-i : goal.invariant-loop-i
invariant-loop-i l = (l.i ≤ l.table.count) × (l.largest ≡ largest_of (first_rows l.table l.i))
