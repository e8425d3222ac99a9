use Rattle.std.specs.Prelude.{Ok}
use Prim.Native.Nat.{◌+◌, ◌-◌}
use native.Mathlib.Omega.{arith}
use mathlib.Core.Path.{refl, sym, ap, ◌∙◌}
use lib.ListN.{length}
use Rattle.logs.proofs.Records.{length-spelled_numbers, answers_length}
use Rattle.logs.proofs.Records.{Counted, one_counted, all_counted}
use Rattle.logs.proofs.Records.{none_standing, rest_has_room, never_refused, one_standing, all_standing}
use Rattle.logs.proofs.write_measured.Goals as goal

-- One turn of the first loop counts one more number.
counted : (c : goal.In_ok-room) → (
    let l = c.loop-value in
    Counted c.values_of-values.result (l.room + c.in_ok-room.field-0) (l.value-index + 1))
counted c = one_counted c.loop-value.invariant (omega arith) (sym c.in_ok-room.ensures)

pub overflow_add-room : goal.overflow_add-room
overflow_add-room c = omega (arith, counted c, length-spelled_numbers c.values_of-values.result)

pub loop-value-preserved : goal.loop-value-preserved
loop-value-preserved c = counted c

pub loop-v-init : goal.loop-v-init
loop-v-init c =
    let all = all_counted c.loop-value.invariant (omega arith) in
    none_standing _ _ all.0 (omega (arith, all))

-- No number is refused in the second loop, because each was counted.
pub returns-in_err-at : goal.returns-in_err-at
returns-in_err-at c =
    let l = c.loop-v in
    absurd (never_refused l.invariant (omega arith) (length l.rest - l.at) (rest_has_room l.invariant (omega arith)) c.in_err-at.ensures.0 refl)

-- One turn of the second loop puts one more number behind the others.
pub loop-v-preserved : goal.loop-v-preserved
loop-v-preserved c =
    let e = c.in_ok-at.ensures in
    let l = c.loop-v in
    one_standing l.invariant (omega arith) (length l.rest - l.at) (rest_has_room l.invariant (omega arith)) e.0 e.1 refl

pub returns : goal.returns
returns c =
    let p = rw c.values_of-values.ensures at c.loop-v.invariant in
    let s = all_standing p (omega arith) in
    let all = rw c.values_of-values.ensures at (all_counted c.loop-value.invariant (omega arith)).0 in
    (ap Ok s.0 ∙ sym (answers_length c.args.job _ all p.has_room), s.1)
