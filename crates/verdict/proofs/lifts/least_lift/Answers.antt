use native.Mathlib.Omega.{arith}
use Prim.Native.Nat.{◌+◌, ◌-◌, ◌*◌}
use mathlib.Core.Path.{◌≡◌}
use Rattle.verdict.specs.Searched.{held_by}
use Rattle.verdict.proofs.HeldParts.{line_product_at_most}
use Rattle.verdict.proofs.LowerLines.{product_of_rest, larger_lift}
use Rattle.verdict.proofs.lifts.least_lift.Goals as goal

pub overflow_mul-part : goal.overflow_mul-part
overflow_mul-part c =
    let a = c.args in
    let line = a.part.now.line in
    let at = c.loop-at.at in
    let f = held_by a.terms.now at in
    let part = held_by a.part.now.terms at in
    let is : c.saturating_sub-rest.result ≡ f - part = omega (arith, c.saturating_sub-rest.ensures, c.demand.ensures, c.demand-in-loop-at.ensures) in
    omega (
      arith,
      line_product_at_most line.good at (omega arith),
      product_of_rest line.period f part c.saturating_sub-rest.result (line.slope * at + line.lift) is (c.requires.1 at),
    )

pub loop-at-preserved : goal.loop-at-preserved
loop-at-preserved c =
    let a = c.args in
    let at = c.loop-at.at in
    let is : c.saturating_sub-rest.result ≡ held_by a.terms.now at - held_by a.part.now.terms at =
    omega (arith, c.saturating_sub-rest.ensures, c.demand.ensures, c.demand-in-loop-at.ensures) in
    (omega arith, larger_lift c.loop-at.invariant.1 c.requires.1 is c.saturating_sub.ensures c.max-most.ensures)
