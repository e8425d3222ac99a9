use native.Mathlib.Omega.{arith}
use mathlib.Core.Path.{◌≡◌}
use Rattle.theory.proofs.Cases.{by_lt}
use Rattle.verdict.proofs.lifts.repeats_every.Goals as goal

pub loop-i-preserved : goal.loop-i-preserved
loop-i-preserved c =
    let k = c.loop-i in
    let here = c.divides_one-in-loop-i.ensures c.if-not-divides_one-2.false in (
      omega arith,
      record {
        p_divides = k.invariant.1.p_divides;
        b_divides = λ i h. by_lt i k.i (λ before. k.invariant.1.b_divides i before) (λ after. let e : i ≡ k.i = omega arith in rw e here);
      },
    )
