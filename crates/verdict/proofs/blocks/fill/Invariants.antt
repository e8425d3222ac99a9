-- `verdict::blocks::fill` meets its contract: the entries are set to 0, and the loop adds the steps of one term after another.
use Prim.Native.Nat.{◌≤◌}
use Rattle.verdict.specs.Blocks.{terms_demand, RisesOf}
use Rattle.verdict.proofs.blocks.fill.Given as goal

abbrev pub invariant-loop-i : goal.invariant-loop-i
invariant-loop-i l = (l.i ≤ l.terms.count) × RisesOf (terms_demand l.terms.entries l.i) l.block.base l.block.size l.rises
