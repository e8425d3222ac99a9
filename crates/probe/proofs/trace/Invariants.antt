-- `probe::trace` meets its contract: each turn of the loop writes one more answer into the buffer.
use Rattle.probe.proofs.Traces.{Standing}
use Rattle.probe.proofs.trace.Given as goal

abbrev pub invariant-loop-i : goal.invariant-loop-i
invariant-loop-i l = Standing l.calls l.initial.answers l.shown l.initial.run l.answers l.run l.i
