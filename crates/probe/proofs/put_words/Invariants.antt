-- `probe::put_words` meets its contract. The loop's invariant is that storing the other words behind those that are written completes the buffer.
use Prim.Native.Nat.{◌*◌}
use mathlib.Core.Path.{◌≡◌}
use lib.ListN.{length, drop}
use lib.Seq.{sets}
use Rattle.words.specs.Words.{word_length}
use Rattle.probe.specs.Words.{words_bytes}
use Rattle.probe.proofs.put_words.Given as goal

abbrev pub invariant-loop-k : goal.invariant-loop-k
invariant-loop-k l =
    (length l.buffer ≡ length l.initial.buffer)
    × (sets l.buffer (l.k * word_length) (words_bytes (drop l.k l.words)) ≡ sets l.initial.buffer 0 (words_bytes l.words))
