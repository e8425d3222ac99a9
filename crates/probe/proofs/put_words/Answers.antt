use Prim.Native.Nat.{◌+◌, ◌*◌}
use mathlib.Core.Path.{◌≡◌}
use mathlib.Core.List.{flatten}
use native.Mathlib.Omega.{arith}
use lib.ListN.{get_or, drop_of_length-le}
use lib.Seq.{length-sets}
use Rattle.words.specs.Words.{word_length}
use Rattle.kinds.proofs.Lists.{sets-append}
use Rattle.words.proofs.Storing.{length-lowest_first, put_stores}
use Rattle.probe.proofs.Words.{words_next}
use Rattle.probe.proofs.put_words.Goals as goal

pub loop-k-preserved : goal.loop-k-preserved
loop-k-preserved c =
    let l = c.loop-k in
    let words = c.args.words.now in
    let stored = put_stores l.buffer (l.k * word_length) (get_or words l.k 0) (omega arith) c.put.ensures in
    let next : (l.k + 1) * word_length ≡ l.k * word_length + word_length = omega arith in
    let more = words_next words l.k (omega arith) in
    (rw stored (simp length-sets l.invariant.0), rw (stored, next) (rw (more, sets-append, length-lowest_first) at l.invariant.1))

pub returns : goal.returns
unfolding flatten
returns c =
    let l = c.loop-k in
    rw (drop_of_length-le c.args.words.now {i = l.k} (omega arith)) at l.invariant.1
