-- `verdict::descent::least_slack` meets its contract. The lengths above `top` have at least `slack` ticks to spare, and one of them has no more.
use Prim.Native.Nat.{◌≤◌}
use Rattle.verdict.specs.Searched.{held_by}
use Rattle.verdict.proofs.Searches.{SlackAbove}
use Rattle.verdict.proofs.descent.least_slack.Given as goal

abbrev pub invariant-loop-top : goal.invariant-loop-top
invariant-loop-top l = (l.top ≤ l.fn.stretch.hi) × SlackAbove (held_by l.terms) l.lo l.fn.stretch.hi l.top l.slack

abbrev pub decreases-loop-top : goal.decreases-loop-top
decreases-loop-top l = l.top
