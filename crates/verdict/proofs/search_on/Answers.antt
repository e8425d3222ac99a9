-- `verdict::search_on` meets its contract: the terms of the table hold its demand, so that the quick search settles the table's own.
use native.Mathlib.Omega.{arith}
use Rattle.verdict.proofs.Bounds.{d_at_most}
use Rattle.verdict.proofs.QuickVerdict.{same_curve, same_fits}
use Rattle.verdict.proofs.search_on.Goals as goal

pub invariant_of-cycle : goal.invariant_of-cycle
invariant_of-cycle c =
    let q = c.requires in
    let held = c.of_table.ensures in
    record {
      most_d = omega (arith, q.1, d_at_most q.0);
      some_period = q.2;
      most_period = q.3;
      repeats = rw q.1 (held.1 _ q.4);
      curve = same_curve _ _ held.0 q.5;
    }

pub search-requires : goal.search-requires
search-requires c = (c.requires.6, same_fits _ _ c.of_table.ensures.0 c.requires.7)
