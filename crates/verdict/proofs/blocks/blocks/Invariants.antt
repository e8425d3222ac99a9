-- `verdict::blocks::blocks` meets its contract. The lengths below `base` fit, and each block that is looked at ends at or below `hi`.
use Prim.Native.Nat.{◌+◌, ◌-◌, ◌≤◌}
use mathlib.Core.Path.{◌≡◌}
use lib.ListN.{length}
use Rattle.verdict.specs.Blocks.{block_size}
use Rattle.verdict.specs.Searched.{held_by}
use Rattle.verdict.proofs.Searches.{FitsBelow}
use Rattle.verdict.proofs.blocks.blocks.Given as goal

abbrev pub invariant-loop-base : goal.invariant-loop-base
invariant-loop-base l = (l.stretch.lo ≤ l.base) × (length l.rises ≡ block_size) × FitsBelow (held_by l.terms) l.stretch.lo l.base

abbrev pub decreases-loop-base : goal.decreases-loop-base
decreases-loop-base l = l.stretch.hi + 1 - l.base
