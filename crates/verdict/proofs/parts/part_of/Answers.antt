use mathlib.Core.Path.{◌≡◌, sym, ◌∙◌}
use native.Mathlib.Omega.{arith}
use Rattle.theory.specs.TermCurves.{term_growth}
use Rattle.verdict.proofs.FilledTerms.{filled_as}
use Rattle.verdict.proofs.HeldParts.{part_as_it_was, slope_of_none, slope_as_it_was, slope_with_it, lift_of_none, lift_as_it_was, lift_with_it}
use Rattle.verdict.proofs.HeldParts.{growth_of_term_at_most, lift_of_term_at_most, line_is_good, good_anew}
use Rattle.verdict.proofs.HeldParts.{slope_at_most, lift_within, timer_of_part_filled, term_of_part_filled}
use Rattle.verdict.proofs.parts.part_of.Goals as goal
use Rattle.verdict.proofs.parts.part_of.Goals.{then-step-b-eq0, else-step-b-eq0}

pub loop-i-init : goal.loop-i-init
loop-i-init c =
    let l = c.args.cycle.now.terms.entries in
    let a = c.args in
    let it = c.restart.ensures in (
      omega arith,
      omega (arith, it.1),
      rw it.1 (timer_of_part_filled l a.step it.0 (rw it.1 at c.restart.new.self.held) (rw c.taken_in.ensures at it.3)),
      c.left_out-slope.ensures ∙ sym (slope_of_none l a.step a.cycle.now.period),
      c.left_out-lift.ensures ∙ sym (lift_of_none l a.step a.cycle.now.period),
    )

pub put-requires : goal.put-requires
put-requires c =
    let held = c.args.cycle.now.terms.held in
    (omega (arith, held.few), good_anew held c.args.step c.loop-i.i c.loop-i-test.true c.if-step-b-eq0.true)

pub loop-i-preserved : goal.loop-i-preserved
unfolding term_growth
loop-i-preserved c =
    let k = c.args.cycle.now in
    let l = k.terms.entries in
    let step = c.args.step in
    let i = c.loop-i.i in
    let v = c.loop-i.invariant in
    elim c.if-step-b-eq0.branch [
      | then-step-b-eq0 w ↦
          let even = w.if-step-b-eq0.true in
          rw (w.part-is, w.slope-is, w.lift-is) (
            omega arith,
            omega (arith, w.put.ensures.1),
            rw (w.put.ensures.0, w.put.ensures.1) (term_of_part_filled k.terms.held step i c.loop-i-test.true even (omega (arith, k.terms.held.few)) v.2),
            v.3 ∙ sym (slope_as_it_was l step k.period i even),
            v.4 ∙ sym (lift_as_it_was l step k.period i even),
          )
      | else-step-b-eq0 w ↦
          let odd = w.if-step-b-eq0.false in
          rw (w.part-is, w.slope-is, w.lift-is) (
            omega arith,
            omega arith,
            filled_as v.2 (part_as_it_was l step i odd),
            omega (arith, v.3, slope_with_it l step k.period i odd),
            omega (arith, v.4, lift_with_it l step k.period i odd),
          )
    ]

pub overflow_mul-growth-else-step-b-eq0 : goal.overflow_mul-growth-else-step-b-eq0
unfolding term_growth
overflow_mul-growth-else-step-b-eq0 c =
    let k = c.args.cycle.now in
    omega (arith, growth_of_term_at_most (k.terms.held.good c.loop-i.i c.loop-i-test.true) k.most_period)

pub overflow_add-slope : goal.overflow_add-slope
unfolding term_growth
overflow_add-slope c =
    let k = c.args.cycle.now in
    let held = k.terms.held in
    let v = c.loop-i in
    omega (
      arith,
      held.few,
      v.invariant.3,
      slope_at_most held c.args.step k.period k.most_period v.i v.invariant.0,
      growth_of_term_at_most (held.good v.i c.loop-i-test.true) k.most_period,
    )

pub overflow_mul-lift : goal.overflow_mul-lift
unfolding term_growth
overflow_mul-lift c =
    let k = c.args.cycle.now in
    omega (arith, lift_of_term_at_most (k.terms.held.good c.loop-i.i c.loop-i-test.true) k.most_period)

pub overflow_add-lift : goal.overflow_add-lift
unfolding term_growth
overflow_add-lift c =
    let k = c.args.cycle.now in
    let held = k.terms.held in
    let v = c.loop-i in
    omega (
      arith,
      held.few,
      v.invariant.4,
      lift_within held c.args.step k.period v.i v.invariant.0,
      slope_at_most held c.args.step k.period k.most_period v.i v.invariant.0,
      lift_of_term_at_most (held.good v.i c.loop-i-test.true) k.most_period,
    )

pub invariant_of-part : goal.invariant_of-part
invariant_of-part c =
    let k = c.args.cycle.now in
    let v = c.loop-i.invariant in
    let all : c.loop-i.i ≡ k.terms.count = omega arith in
    record {
      good = rw (v.3, v.4, all) (line_is_good k.terms.held k.repeats c.args.step k.curve k.some_period k.most_period c.requires);
      most_period = k.most_period;
      most_extra = omega (arith, c.saturating_sub.ensures, c.requires);
    }
