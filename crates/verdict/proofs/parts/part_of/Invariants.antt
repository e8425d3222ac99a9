-- `verdict::parts::part_of` meets its contract: each term of the cycle is put into the part, or its growth is added to the line.
use Prim.Native.Nat.{◌≤◌}
use mathlib.Core.Path.{◌≡◌}
use Rattle.verdict.specs.HeldParts.{part_demand, line_slope, line_lift}
use Rattle.verdict.proofs.FilledTerms.{Filled}
use Rattle.verdict.proofs.parts.part_of.Given as goal

abbrev pub invariant-loop-i : goal.invariant-loop-i
invariant-loop-i l =
    let held = l.cycle.terms.entries in
    (l.i ≤ l.cycle.terms.count) × (l.part.terms.count ≤ l.i) × Filled l.part.terms.entries l.part.terms.count (part_demand held l.i l.step)
    × (l.slope ≡ line_slope held l.i l.step l.cycle.period) × (l.lift ≡ line_lift held l.i l.step l.cycle.period)
