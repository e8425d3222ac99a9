-- `verdict::blocks::fill` meets its contract: after the zeros are filled in no term is counted.
use mathlib.Core.Path.{refl, ◌∙◌}
use native.Mathlib.Omega.{arith}
use lib.ListN.{length-take, get_or-append}
use lib.Seq.{length_front}
use Rattle.verdict.proofs.BlockRises.{no_terms_yet}
use Rattle.verdict.proofs.blocks.fill.Goals as goal

pub loop-i-init : goal.loop-i-init
loop-i-init c =
    let a = c.args in
    let filled = c.fill.ensures in
    let taken = length-take a.block.size a.rises.now in (
      omega arith,
      no_terms_yet _ _ (omega (arith, length_front a.rises.now c.fill.new.self a.block.size filled.len))
          (λ j h. get_or-append c.fill.new.self _ 0 j (omega (arith, taken, filled.len)) ∙ filled.clones j 0 (omega (arith, taken)) refl),
    )
