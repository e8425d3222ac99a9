use Rattle.std.specs.Prelude.{Ok}
use Prim.Native.Nat.{◌+◌}
use mathlib.Core.Path.{◌≡◌, ap, ◌∙◌}
use native.Mathlib.Nat.{zero-add}
use native.Mathlib.Numerals.{add-one}
use native.Mathlib.Omega.{arith}
use borrow.Author.Tests.{le-leb}
use lib.ListN.{length, length-set}
use lib.Seq.{sets-eq}
use Rattle.numbers.specs.Spelling.{spelling}
use Rattle.numbers.proofs.Spellings.{spelling_last, spelling_more, spelling_length}
use Rattle.numbers.proofs.write.Goals as goal

pub bounds-buffer-i : goal.bounds-buffer-i
bounds-buffer-i c = omega (arith, spelling_length c.loop-rest.rest)

pub loop-rest-preserved : goal.loop-rest-preserved
loop-rest-preserved c =
    let l = c.loop-rest in
    let more = spelling_more l.rest l.invariant.0 c.loop-rest-test.true in
    (omega arith, omega (arith, ap length more), simp length-set l.invariant.2, rw add-one (rw more at l.invariant.3), l.invariant.4)

pub bounds-buffer-i-2 : goal.bounds-buffer-i-2
bounds-buffer-i-2 c = omega (arith, spelling_length c.loop-rest.rest)

pub returns : goal.returns
returns c =
    let l = c.loop-rest in
    let a = c.args in
    let last = spelling_last l.rest c.loop-rest-test.false in
    let took : l.i + 1 ≡ length (spelling a.value) = omega (arith, ap length last) in (
      simp (le-leb _ _ c.if-value-gt-MAX.false, le-leb _ _ l.invariant.4) (ap Ok took),
      rw last at l.invariant.3 ∙ sets-eq (spelling a.value) a.buffer.now 0 (omega arith) ∙ rw (zero-add, took),
    )
