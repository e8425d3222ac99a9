-- `verdict::choices::guess` meets its contract: nothing overflows, no number is divided by 0, and the samples come to an end.
use Prim.Native.Nat.{◌-◌, ◌*◌, ◌≤◌, ◌<◌}
use Rattle.verdict.proofs.choices.guess.Given as goal

abbrev pub invariant-loop-n : goal.invariant-loop-n
invariant-loop-n l =
    (1 ≤ l.samples) × (l.samples ≤ 1024) × (l.n ≤ l.samples) × (l.bad ≤ l.n) × (l.sum ≤ 64 * l.n) × (l.x < 2147483648)

abbrev pub decreases-loop-n : goal.decreases-loop-n
decreases-loop-n l = l.samples - l.n
