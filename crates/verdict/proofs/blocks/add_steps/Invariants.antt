-- `verdict::blocks::add_steps` meets its contract. The steps of the term before the length at k are counted, and the next step is there.
use Prim.Native.Nat.{◌+◌, ◌-◌}
use Rattle.verdict.specs.HeldTerms.{held_term}
use Rattle.verdict.specs.Blocks.{terms_demand}
use Rattle.verdict.proofs.BlockRises.{Counting}
use Rattle.verdict.proofs.BlockRises.{StepAt}
use Rattle.verdict.proofs.blocks.add_steps.Given as goal

abbrev pub invariant-loop-k : goal.invariant-loop-k
invariant-loop-k l =
    Counting (terms_demand l.terms.entries l.i) (held_term l.terms.entries l.i) l.block.base l.block.size (l.block.base + l.k) l.rises × StepAt l.b l.a l.up l.down (l.block.base + l.k) l.remainder

abbrev pub decreases-loop-k : goal.decreases-loop-k
decreases-loop-k l = l.block.size - l.k
