use native.Mathlib.Omega.{arith}
use Prim.Native.Nat.{◌+◌, ◌/◌}
use Rattle.verdict.proofs.classes.settled_from.Goals as goal

pub loop-at-preserved : goal.loop-at-preserved
loop-at-preserved c = record {
  turn = c.loop-at.invariant.turn + (c.args.part.now.line.period / c.args.class.step / 32 + 1);
  here = omega (arith, c.loop-at.invariant.here);
}
