-- `periods::greatest_divisor` meets its contract. The loop's invariant is that the greatest common divisor of m and n is also that of a and b.
use Prim.Native.Nat.{ℕ}
use Rattle.periods.specs.Multiples.{IsGreatestDivisor}
use Rattle.periods.proofs.greatest_divisor.Given as goal

abbrev pub invariant-loop-m : goal.invariant-loop-m
invariant-loop-m l = (g : ℕ) → IsGreatestDivisor l.m l.n g → IsGreatestDivisor l.a l.b g

abbrev pub decreases-loop-m : goal.decreases-loop-m
decreases-loop-m l = l.m
