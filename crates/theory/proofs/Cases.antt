-- Proofs by two cases: for an order, an equation or a test. Each case hands its hypothesis on with a type that `omega` can read.
use Prim.Native.Nat.{ℕ, ◌≤◌, ◌<◌}
use mathlib.Core.Path.{◌≡◌, refl}
use mathlib.Core.Logic.{◌≢◌}
use mathlib.Core.Bool.{Bool, true, false}
use native.Mathlib.Decide.{dec_lt, ℕ_discrete}
use native.Mathlib.Omega.{arith}

-- What follows both where a is below b and where it is not holds in any case.
pub by_lt {ℓ} : {G : Type ℓ} (a b : ℕ) → (a < b → G) → (b ≤ a → G) → G
by_lt {G = G} a b f g = go (dec_lt a b)
  where
    go : Dec (a < b) → G
    go (yes h) = f h
    go (no h) = g (omega arith)

-- What follows both where a equals b and where it does not holds in any case.
pub by_eq {ℓ} : {G : Type ℓ} (a b : ℕ) → (a ≡ b → G) → (a ≢ b → G) → G
by_eq {G = G} a b f g = go (ℕ_discrete a b)
  where
    go : Dec (a ≡ b) → G
    go (yes h) = f h
    go (no h) = g h

-- What follows both where a test is true and where it is false holds in any case.
pub by_test {ℓ} : {G : Type ℓ} (test : Bool) → (test ≡ true → G) → (test ≡ false → G) → G
by_test true f g = f refl
by_test false f g = g refl
