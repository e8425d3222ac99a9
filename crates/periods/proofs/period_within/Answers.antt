use mathlib.Core.Path.{sym, ◌∙◌}
use Rattle.periods.proofs.Periods.{positive_means, no_limit, grown_none, grown_all, some_number, some_divisor, grown_next, grown_too_long}
use Rattle.periods.proofs.period_within.Goals as goal

pub returns-then-limit-lt1 : goal.returns-then-limit-lt1
returns-then-limit-lt1 c = no_limit (positive_means c.args.numbers.now (sym c.all_positive.ensures ∙ c.if-not-all_positive.false)) _ c.if-limit-lt1.true

pub loop-y-init : goal.loop-y-init
loop-y-init c =
    let positive = positive_means c.args.numbers.now (sym c.all_positive.ensures ∙ c.if-not-all_positive.false) in
    (positive, grown_none positive c.if-limit-lt1.false)

pub nonzero_div-part : goal.nonzero_div-part
nonzero_div-part c = some_divisor c.loop-y.invariant.0 c.loop-y.invariant.1 c.loop-y-test.true c.greatest_divisor.ensures

pub nonzero_div-limit : goal.nonzero_div-limit
nonzero_div-limit c = some_number c.loop-y.invariant.0 c.loop-y.y-index c.loop-y-test.true

pub returns-then-limit-y : goal.returns-then-limit-y
returns-then-limit-y c = grown_too_long c.loop-y.invariant.0 c.loop-y.invariant.1 c.loop-y-test.true c.greatest_divisor.ensures c.if-limit-y.true

pub loop-y-preserved : goal.loop-y-preserved
loop-y-preserved c =
    (c.loop-y.invariant.0, grown_next c.loop-y.invariant.0 c.loop-y.invariant.1 c.loop-y-test.true c.greatest_divisor.ensures c.if-limit-y.false)

pub returns : goal.returns
returns c = grown_all c.loop-y.invariant.0 c.loop-y.invariant.1 c.loop-y-test.false
