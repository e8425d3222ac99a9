use mathlib.Core.Path.{ap}
use native.Mathlib.Omega.{arith}
use lib.ListN.{length}
use Rattle.numbers.proofs.Spellings.{spelling_last, spelling_more, spelling_length}
use Rattle.numbers.proofs.spelled_length.Goals as goal

pub overflow_add-n : goal.overflow_add-n
overflow_add-n c = omega (arith, spelling_length c.args.value)

pub loop-rest-preserved : goal.loop-rest-preserved
loop-rest-preserved c =
    let l = c.loop-rest in
    omega (arith, ap length (spelling_more l.rest l.invariant.0 c.loop-rest-test.true))

pub returns : goal.returns
returns c =
    let l = c.loop-rest in
    omega (arith, ap length (spelling_last l.rest c.loop-rest-test.false))
