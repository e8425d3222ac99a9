-- `words::get` meets its contract. The rest of the bytes has a first eight exactly where a word stands at the place.
use Prim.Native.Nat.{◌-◌, ◌≤◌}
use mathlib.Core.Path.{◌≡◌}
use native.Mathlib.Omega.{arith}
use lib.ListN.{length, take, drop, length-drop}
use lib.Seq.{take-length}
use Rattle.words.specs.Words.{word_length}
use Rattle.words.proofs.Storing.{word_found}
use Rattle.words.proofs.get.Goals as goal

pub returns : goal.returns
returns c =
    let s = c.args.bytes.now in
    let first = c.in-Some.ensures.cases in
    let whole : take (length s - c.min.result) (drop c.min.result s) ≡ drop c.min.result s = rw (← length-drop, take-length) in
    let enough : word_length ≤ length s - c.min.result = rw (whole, length-drop) at first.enough in
    let here : c.min.result ≡ c.args.at = omega (arith, enough, c.min.ensures) in
    word_found s c.args.at c.from_le_bytes.result (λ i. (c.type_inv.bytes i).fits) (omega (arith, enough, here)) (rw (whole, here) at first.same)
    c.from_le_bytes.type_inv c.from_le_bytes.ensures
