use native.Mathlib.Omega.{arith}
use Rattle.verdict.proofs.HeldParts.{part_never_falls}
use Rattle.verdict.proofs.Searches.{passed_down}
use Rattle.verdict.proofs.classes.descend_part.Goals as goal

pub returns-then-demand-stretch : goal.returns-then-demand-stretch
returns-then-demand-stretch c =
    let a = c.args in
    let k = c.loop-at in
    let passed = passed_down _ a.part.now.line.extra a.stretch.hi k.at _ (part_never_falls a.part.now.terms a.part.now.line) c.look_at-demand.ensures c.if-at-demand.false k.invariant.1 in
    λ L low high. passed L (omega arith) high

pub loop-at-preserved : goal.loop-at-preserved
loop-at-preserved c =
    let a = c.args in
    let k = c.loop-at in
    let passed = passed_down _ a.part.now.line.extra a.stretch.hi k.at _ (part_never_falls a.part.now.terms a.part.now.line) c.look_at-demand.ensures c.if-at-demand.false k.invariant.1 in
    (omega arith, λ L above high. passed L (omega arith) high)
