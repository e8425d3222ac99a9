-- `numbers::has_room` meets its contract. A spelling has at most six bytes.
use Prim.Native.Nat.{◌≤◌}
use mathlib.Core.Path.{sym}
use native.Mathlib.Omega.{arith}
use lib.ListN.{length}
use borrow.Author.Tests.{le-leb}
use Rattle.numbers.specs.Spelling.{spelling}
use Rattle.numbers.proofs.Spellings.{spelling_length}
use Rattle.numbers.proofs.has_room.Goals as goal

pub returns-then-room-ge-MAX_GROUPS : goal.returns-then-room-ge-MAX_GROUPS
returns-then-room-ge-MAX_GROUPS c =
    let a = c.args in
    let fits : length (spelling a.value) ≤ a.room = omega (arith, spelling_length a.value) in
    sym (le-leb _ _ fits)
