-- `numbers::spelled_length` meets its contract. The loop's invariant is that what is left of the number is spelled in what is left of the length.
use Prim.Native.Nat.{◌+◌, ◌≤◌}
use mathlib.Core.Path.{◌≡◌}
use lib.ListN.{length}
use Rattle.numbers.specs.Spelling.{max_number, spelling}
use Rattle.numbers.proofs.spelled_length.Given as goal

abbrev pub invariant-loop-rest : goal.invariant-loop-rest
invariant-loop-rest l = (l.rest ≤ max_number) × (l.n + length (spelling l.rest) ≡ 1 + length (spelling l.value))

abbrev pub decreases-loop-rest : goal.decreases-loop-rest
decreases-loop-rest l = l.rest
