-- `verdict::lifts::repeats_every` meets its contract: each term before i was found to be taken in or to repeat itself.
use Prim.Native.Nat.{◌≤◌}
use Rattle.verdict.specs.HeldParts.{LeftOutRepeats}
use Rattle.verdict.proofs.lifts.repeats_every.Given as goal

abbrev pub invariant-loop-i : goal.invariant-loop-i
invariant-loop-i l = (l.i ≤ l.terms.count) × LeftOutRepeats l.terms.entries l.i l.step l.turn
