-- `Terms::demand` meets its contract: the loop adds the demands of the terms to the ticks that the timer takes.
use Prim.Native.Nat.{◌≤◌}
use mathlib.Core.Path.{◌≡◌}
use Rattle.verdict.specs.HeldTerms.{held_demand}
use Rattle.verdict.proofs.terms.Terms.demand.Given as goal

abbrev pub invariant-loop-i : goal.invariant-loop-i
invariant-loop-i l = (l.i ≤ l.self.count) × (l.sum ≡ held_demand l.self.entries l.i l.length)
