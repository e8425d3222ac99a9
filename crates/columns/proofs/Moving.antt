-- The entries of a list move to the front, or up by one place. (docs/RULES.md, 6.7.)
use Prim.Native.Nat.{ℕ, ◌+◌, ◌-◌, ◌≤◌, ◌<◌}
use mathlib.Core.Path.{◌≡◌}
use mathlib.Core.List.{List, ◌++◌}
use native.Mathlib.Numerals.{add-one}
use native.Mathlib.Omega.{arith}
use lib.ListN.{length, take, drop, get_or, set, length-drop}
use lib.Seq.{append_snoc, length-take-le, set_at, take-suc}
use Rattle.std.specs.List.{copy_within}
use Rattle.std.proofs.lemmas.List.{append_assoc}
use Rattle.columns.specs.Columns.{entries, opened_up}

-- ---- to the front

-- As many entries as asked for stand in a part that lies within the list.
pub entries_many : (l : List ℕ) (first count : ℕ) → first + count ≤ length l → length (entries first count l) ≡ count
entries_many l first count h = length-take-le count (drop first l) (omega (arith, length-drop first l))

-- ---- up by one place

-- Where entries are copied up by one place, and a value is stored over the first of them, the value is put in there.
pub opened_over : (l : List ℕ) (at end value : ℕ) → at ≤ end → end < length l
    → set (copy_within l at end (at + 1)) at value ≡ opened_up at end value l
opened_over l at end value h k =
    let past : at + 1 + (end - at) ≡ end + 1 = omega arith in
    let rest = entries at (end - at) l ++ drop (end + 1) l in
    rw (append_assoc, past, add-one, take-suc l at 0 (omega arith), append_snoc)
    (set_at (take at l) (get_or l at 0) rest value at (length-take-le at l (omega arith)))
