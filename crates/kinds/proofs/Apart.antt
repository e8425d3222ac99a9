-- Two different cases of a type are never equal.
use Prim.Native.Nat.{ℕ}
use mathlib.Core.Path.{◌≡◌}
use native.Mathlib.Omega.{arith}

-- Anything follows from an equation between two different cases. (From such an equation `cc` derives 0 ≡ 1.)
pub impossible : {A : Type 0} → ◌≡◌ {A = ℕ} 0 1 → A
impossible e = absurd (omega arith)
