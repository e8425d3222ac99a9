-- `jobs::distinct::all_distinct` meets its contract. The loop's invariant: all serials are distinct exactly if those from `i` on are.
use mathlib.Core.Path.{◌≡◌}
use lib.ListN.{drop}
use Rattle.jobs.specs.Serials.{distinct_serials}
use Rattle.jobs.proofs.distinct.all_distinct.Given as goal

abbrev pub invariant-loop-i : goal.invariant-loop-i
invariant-loop-i l = distinct_serials (drop l.i l.jobs) ≡ distinct_serials l.jobs
