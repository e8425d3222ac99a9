-- `Terms::of_table` meets its contract: the first loop fills in the servers after the timer, and the second the rows after the servers.
use Prim.Native.Nat.{◌+◌, ◌≤◌}
use mathlib.Core.Path.{◌≡◌}
use Rattle.verdict.proofs.FilledTerms.{Filled, Placed}
use Rattle.verdict.proofs.TableTerms.{servers_to, rows_to, OfTable}
use Rattle.verdict.proofs.terms.Terms.of_table.Given as goal

abbrev pub invariant-loop-k : goal.invariant-loop-k
invariant-loop-k l =
    (l.k ≤ l.table.serving) × (l.terms.count ≡ l.k) × Filled l.terms.entries l.k (servers_to l.table l.k)
    × Placed l.table.p (OfTable l.table) l.terms.entries l.k

abbrev pub invariant-loop-i : goal.invariant-loop-i
invariant-loop-i l =
    (l.i ≤ l.table.count) × (l.terms.count ≡ l.table.serving + l.i) × Filled l.terms.entries (l.table.serving + l.i) (rows_to l.table l.i)
    × Placed l.table.p (OfTable l.table) l.terms.entries (l.table.serving + l.i)
