use mathlib.Core.Path.{refl}
use native.Mathlib.Omega.{arith}
use Rattle.verdict.specs.Demand.{largest_of}
use Rattle.verdict.proofs.Rows.{largest_more}
use Rattle.verdict.proofs.largest_d.Goals as goal

pub loop-i-init : goal.loop-i-init
unfolding largest_of
loop-i-init c = (omega arith, refl)

pub loop-i-preserved : goal.loop-i-preserved
loop-i-preserved c =
    let more = largest_more c.requires _ c.loop-i-test.true in
    omega (arith, c.max-largest.ensures)
