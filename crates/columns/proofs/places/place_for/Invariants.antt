-- `columns::places::place_for` meets its contract. The loop has looked at the jobs from the entry `last` on, and the job goes before each of them.
use Prim.Native.Nat.{◌≤◌}
use Rattle.columns.proofs.Finding.{Looked}
use Rattle.columns.proofs.places.place_for.Given as goal

abbrev pub invariant-loop-last : goal.invariant-loop-last
invariant-loop-last l = (l.first ≤ l.last) × Looked l.due l.serial l.dues l.serials l.first l.count l.last
