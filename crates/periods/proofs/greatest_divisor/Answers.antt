use mathlib.Core.Path.{◌≡◌}
use native.Mathlib.Omega.{arith}
use Rattle.periods.proofs.Divisors.{of_zero, euclid}
use Rattle.periods.proofs.greatest_divisor.Goals as goal

pub loop-m-preserved : goal.loop-m-preserved
loop-m-preserved c = λ g d. c.loop-m.invariant g (euclid d)

pub returns : goal.returns
returns c =
    let z : c.loop-m.m ≡ 0 = omega arith in
    c.loop-m.invariant _ (rw z (of_zero _))
