-- `verdict::choices::choose` meets its contract: every step that is tried divides the period into parts, and so is at most the period.
use Rattle.std.specs.Prelude.{IfSome}
use Prim.Native.Nat.{◌≤◌}
use Rattle.verdict.proofs.choices.choose.Given as goal

abbrev pub invariant-loop-parts : goal.invariant-loop-parts
invariant-loop-parts l = IfSome l.choice.way (λ way. way.step ≤ l.cycle.period) × (l.room ≤ l.cycle.period)
