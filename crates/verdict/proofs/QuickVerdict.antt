-- The quick search answers for the demand that its array holds, which is the table's demand in every length. So its verdict is right for the table, and it is
-- the verdict that the scan of every length finds. (docs/RULES.md, 5.6.)
use Prim.Native.Nat.{ℕ, ◌+◌}
use mathlib.Core.Path.{◌≡◌}
use native.Mathlib.Omega.{arith}
use Rattle.theory.specs.Curves.{Curve, FitsUpTo}
use Rattle.verdict.specs.QuickVerdict.{BothAgree}
use Rattle.verdict.proofs.Verdicts.{one_verdict}

-- Both verdicts are right for the bytes, and at most one is.
pub both_agree : BothAgree
both_agree bytes quick every p q = one_verdict bytes quick every p q

module _ (f g : ℕ → ℕ) (same : (L : ℕ) → f L ≡ g L) where
  -- Where two demands are the same in every length, both are curves or neither is.
  pub same_curve : {start period growth : ℕ} → Curve g start period growth → Curve f start period growth
  same_curve {period = period} curve = record {
    monotone = λ L M h. omega (arith, same L, same M, curve.monotone L M h);
    repeats = λ L h. omega (arith, same L, same (L + period), curve.repeats L h);
  }

  -- Where two demands are the same in every length, the same lengths fit.
  pub same_fits : {n : ℕ} → FitsUpTo g n → FitsUpTo f n
  same_fits fits L one high = omega (arith, same L, fits L one high)
