use native.Mathlib.Omega.{arith}
use Rattle.verdict.proofs.HeldTerms.{held_at_most, held_never_falls}
use Rattle.verdict.proofs.Searches.{passed_down}
use Rattle.verdict.proofs.descent.descend.Goals as goal

pub overflow_add-demand : goal.overflow_add-demand
overflow_add-demand c =
    let t = c.args.terms.now in
    omega (arith, c.demand.ensures, t.held.few, held_at_most t.held t.count c.loop-at.at (omega arith) (omega (arith, c.args.stretch.searched)))

pub returns-then-demand-stretch : goal.returns-then-demand-stretch
returns-then-demand-stretch c =
    let a = c.args in
    let k = c.loop-at in
    let passed = passed_down _ a.extra a.stretch.hi k.at _ (held_never_falls a.terms.now.held) (omega (arith, c.demand.ensures)) c.if-at-demand.false k.invariant.1 in
    λ L low high. passed L (omega arith) high

pub loop-at-preserved : goal.loop-at-preserved
loop-at-preserved c =
    let a = c.args in
    let k = c.loop-at in
    let passed = passed_down _ a.extra a.stretch.hi k.at _ (held_never_falls a.terms.now.held) (omega (arith, c.demand.ensures)) c.if-at-demand.false k.invariant.1 in
    (omega arith, λ L above high. passed L (omega arith) high)
