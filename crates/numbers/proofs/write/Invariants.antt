-- `numbers::write` meets its contract. The loop's invariant is that the spelling of what is left of the number, written from `i` on, completes the spelling
-- of the number.
use Prim.Native.Nat.{◌+◌, ◌≤◌}
use mathlib.Core.Path.{◌≡◌}
use lib.ListN.{length}
use lib.Seq.{sets}
use Rattle.numbers.specs.Spelling.{max_number, spelling}
use Rattle.numbers.proofs.write.Given as goal

abbrev pub invariant-loop-rest : goal.invariant-loop-rest
invariant-loop-rest l =
    (l.rest ≤ max_number) × (l.i + length (spelling l.rest) ≡ length (spelling l.value)) × (length l.buffer ≡ length l.initial.buffer)
    × (sets l.buffer l.i (spelling l.rest) ≡ sets l.initial.buffer 0 (spelling l.value)) × (length (spelling l.value) ≤ length l.initial.buffer)

abbrev pub decreases-loop-rest : goal.decreases-loop-rest
decreases-loop-rest l = l.rest
