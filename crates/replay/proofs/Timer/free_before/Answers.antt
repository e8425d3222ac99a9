-- `replay::Timer::free_before` meets its contract: the ticks before a time are the free ones and those that the timer takes.
use native.Mathlib.Omega.{arith}
use Rattle.replay.proofs.FreeTicks.{free_and_taken, all_before_free}
use Rattle.replay.proofs.Timer.free_before.Goals as goal

pub returns-then-self-eq0 : goal.returns-then-self-eq0
returns-then-self-eq0 c = all_before_free c.args.self.s c.args.self.p c.args.time c.args.self.good.s_below_p c.if-self-eq0.true

pub returns : goal.returns
returns c = omega (arith, free_and_taken c.args.self.s c.args.self.p c.args.time c.args.self.good.s_below_p, c.min.ensures)
