use Prim.Native.Nat.{◌+◌, ◌≤◌}
use native.Mathlib.Omega.{arith}
use Rattle.verdict.proofs.Searches.{looks_settle, all_classes_done, class_done}
use Rattle.verdict.proofs.classes.classes.Goals as goal

pub loop-top-preserved-in-None : goal.loop-top-preserved-in-None
loop-top-preserved-in-None c =
    let line = c.lowered.new.part.line in
    let is = c.lowered.ensures.0 in
    let grows : c.args.cycle.now.growth ≤ line.period + line.extra = omega (arith, is.is_extra, is.is_period) in (
      omega arith,
      omega arith,
      all_classes_done line.extra is.in_parts line.good.some_period c.args.way.some_step grows c.loop-top.invariant.2
          (rw c.in-None.is at c.descend_part.ensures),
    )

pub walk_class-best-requires : goal.walk_class-best-requires
walk_class-best-requires c =
    let line = c.lowered.new.part.line in
    let is = c.lowered.ensures.0 in
    let grows : c.args.cycle.now.growth ≤ line.period + line.extra = omega (arith, is.is_extra, is.is_period) in
    let some = rw c.in-Some.is at c.descend_part.ensures in (
      omega (arith, some.from_lo),
      c.loop-top.invariant.2.at_most,
      looks_settle line.extra is.in_parts line.good.some_period grows,
    )

pub loop-top-preserved : goal.loop-top-preserved
loop-top-preserved c =
    let line = c.lowered.new.part.line in
    let is = c.lowered.ensures.0 in
    let grows : c.args.cycle.now.growth ≤ line.period + line.extra = omega (arith, is.is_extra, is.is_period) in
    let some = rw c.in-Some.is at c.descend_part.ensures in (
      omega (arith, some.from_lo),
      omega (arith, some.to_hi),
      class_done line.extra is.in_parts line.good.some_period c.args.way.some_step grows c.loop-top.invariant.2 some c.walk_class-best.ensures,
    )
