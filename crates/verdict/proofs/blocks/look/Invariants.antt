-- `verdict::blocks::look` meets its contract. The lengths of the block before the one that is looked at fit, and the sum is the demand in the last of them.
use Prim.Native.Nat.{◌+◌, ◌-◌, ◌%◌, ◌≤◌}
use mathlib.Core.Path.{◌≡◌}
use Rattle.verdict.specs.HeldTerms.{held_p}
use Rattle.verdict.specs.Searched.{held_by}
use Rattle.verdict.proofs.Searches.{FitsBelow}
use Rattle.verdict.proofs.blocks.look.Given as goal

abbrev pub invariant-loop-k : goal.invariant-loop-k
invariant-loop-k l =
    (l.k ≤ l.block.size) × (l.sum ≡ held_by l.terms (l.block.base + l.k - 1)) × (l.rest ≡ (l.block.base + l.k - 1) % held_p l.terms.entries) × FitsBelow (held_by l.terms) l.block.base (l.block.base + l.k)
