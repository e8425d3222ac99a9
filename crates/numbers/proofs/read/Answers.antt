use Rattle.std.specs.Prelude.{Err}
use Prim.Native.Nat.{◌+◌}
use mathlib.Core.Path.{sym, ap, ◌∙◌}
use native.Mathlib.Omega.{arith}
use Rattle.numbers.proofs.Reading.{first_passed, next_passed, weight_fits, group_fits, more_fits, read_one, read_too_long, read_cut, read_zero, read_last}
use Rattle.numbers.proofs.Spellings.{nothing_past_the_end}
use Rattle.numbers.proofs.read.Goals as goal

pub returns-then-at-bytes : goal.returns-then-at-bytes
returns-then-at-bytes c = ap Err c.at.ensures ∙ sym (nothing_past_the_end _ _ c.if-at-bytes.true)

pub returns-then-first-lt128 : goal.returns-then-first-lt128
returns-then-first-lt128 c = sym (read_one _ _ c.if-at-bytes.false c.if-first-lt128.true)

pub loop-groups-init : goal.loop-groups-init
loop-groups-init c = first_passed _ _ c.if-at-bytes.false c.if-first-lt128.false (c.type_inv.bytes c.args.at).fits

pub returns-then-i-bytes : goal.returns-then-i-bytes
returns-then-i-bytes c = ap Err c.at-then-i-bytes.ensures ∙ sym (read_cut c.loop-groups.invariant c.loop-groups-test.true c.if-i-bytes.true)

pub returns-then-group-eq0 : goal.returns-then-group-eq0
returns-then-group-eq0 c =
    ap Err c.at-then-group-eq0.ensures ∙ sym (read_zero c.loop-groups.invariant c.loop-groups-test.true c.if-i-bytes.false c.if-group-eq0.true)

-- ---- the last group

pub overflow_mul-result : goal.overflow_mul-result
overflow_mul-result c = omega (arith, group_fits c.loop-groups.invariant c.loop-groups-test.true _ c.if-group-lt128.true)

pub overflow_add-result-then-group-lt128 : goal.overflow_add-result-then-group-lt128
overflow_add-result-then-group-lt128 c = omega (arith, group_fits c.loop-groups.invariant c.loop-groups-test.true _ c.if-group-lt128.true)

pub returns-then-group-lt128 : goal.returns-then-group-lt128
returns-then-group-lt128 c =
    sym (read_last c.loop-groups.invariant c.loop-groups-test.true c.if-i-bytes.false c.if-group-eq0.false c.if-group-lt128.true)

-- ---- a group that another follows

pub overflow_mul-value : goal.overflow_mul-value
overflow_mul-value c = omega (arith, more_fits c.loop-groups.invariant c.loop-groups-test.true (c.type_inv.bytes (c.args.at + c.loop-groups.groups)).fits)

pub overflow_add-value : goal.overflow_add-value
overflow_add-value c = omega (arith, more_fits c.loop-groups.invariant c.loop-groups-test.true (c.type_inv.bytes (c.args.at + c.loop-groups.groups)).fits)

pub overflow_mul-weight : goal.overflow_mul-weight
overflow_mul-weight c = omega (arith, weight_fits c.loop-groups.invariant c.loop-groups-test.true)

pub loop-groups-preserved : goal.loop-groups-preserved
loop-groups-preserved c =
    let b = c.type_inv.bytes (c.args.at + c.loop-groups.groups) in
    next_passed c.loop-groups.invariant c.loop-groups-test.true c.if-i-bytes.false c.if-group-lt128.false b.fits

pub returns : goal.returns
returns c = ap Err c.at-2.ensures ∙ sym (read_too_long c.loop-groups.invariant c.loop-groups-test.false)
