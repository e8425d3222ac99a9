use Rattle.std.specs.Prelude.{Ok}
use Prim.Native.Nat.{◌+◌, ◌-◌}
use native.Mathlib.Omega.{arith}
use mathlib.Core.Path.{refl, sym, ap, ◌∙◌}
use lib.ListN.{get_or}
use Rattle.numbers.specs.Spelling.{max_groups}
use Rattle.numbers.proofs.Spellings.{spelling_length, length_answered}
use Rattle.logs.proofs.Records.{length-spelled_numbers, answers_length, six_bytes_have_room}
use Rattle.logs.proofs.Records.{none_standing, never_refused, one_standing, all_standing}
use Rattle.logs.proofs.write_record.Goals as goal

pub loop-v-init : goal.loop-v-init
loop-v-init c =
    let all = sym c.all_in_range.ensures ∙ c.if-not-all_in_range.false in
    (none_standing _ _ all (omega (arith, length-spelled_numbers c.values_of-values.result)), omega arith)

-- No number is refused, because each has a spelling, and six bytes have room for it.
pub returns-in_err-at : goal.returns-in_err-at
returns-in_err-at c =
    let l = c.loop-v in
    let room = six_bytes_have_room l.rest l.at (get_or c.values_of-values.result l.v-index 0) (omega (arith, l.invariant.0.same_length)) in
    absurd (never_refused l.invariant.0 (omega arith) (l.at + max_groups - l.at) room c.in_err-at.ensures.0 refl)

-- One turn of the loop puts one more number behind the others, in at most six bytes.
pub loop-v-preserved : goal.loop-v-preserved
loop-v-preserved c =
    let e = c.in_ok-at.ensures in
    let l = c.loop-v in
    let value = get_or c.values_of-values.result l.v-index 0 in
    let room = six_bytes_have_room l.rest l.at value (omega (arith, l.invariant.0.same_length)) in
    let took = (length_answered value _ c.in_ok-at.field-0 (sym e.0)).spelled in (
      one_standing l.invariant.0 (omega arith) (l.at + max_groups - l.at) room e.0 e.1 refl,
      omega (arith, took, spelling_length value),
    )

pub returns : goal.returns
returns c =
    let p = rw c.values_of-values.ensures at c.loop-v.invariant.0 in
    let s = all_standing p (omega arith) in
    let all = rw c.values_of-values.ensures at (sym c.all_in_range.ensures ∙ c.if-not-all_in_range.false) in
    (ap Ok s.0 ∙ sym (answers_length c.args.job _ all p.has_room), s.1)
