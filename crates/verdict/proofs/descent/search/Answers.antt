-- `verdict::descent::search` meets its contract: the first length that fails is the witness, or the lengths up to d + period fit, and the growth tells whether
-- they settle the verdict.
use Prim.Native.Nat.{◌+◌}
use native.Mathlib.Omega.{arith}
use Rattle.theory.specs.Curves.{FitsUpTo}
use Rattle.theory.proofs.Curves.{settled_within_a_period}
use Rattle.verdict.specs.Searched.{held_by}
use Rattle.verdict.proofs.Searches.{all_fit}
use Rattle.verdict.proofs.descent.search.Goals as goal

pub returns-then-cycle : goal.returns-then-cycle
returns-then-cycle c =
    let k = c.args.cycle.now in
    let all : FitsUpTo (held_by k.terms) (k.d + k.period) = all_fit c.requires.1 (rw c.in_default.is at c.period_search.ensures) in
    settled_within_a_period _ _ k.period k.growth k.curve k.some_period (omega arith) (λ L one high. all L one (omega arith))
