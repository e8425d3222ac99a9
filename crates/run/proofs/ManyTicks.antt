-- Any number of ticks leaves a sound run sound. (docs/RULES.md, section 6.25.)
use Prim.Native.Nat.{ℕ, zero, suc}
use Rattle.run.specs.ManyTicks.{SoFar, one_more_tick, ticks}
use Rattle.run.proofs.Ticking.{Good, tick_keeps_good}

-- A run that is good, that is sound with all its places, stays good after n ticks.
pub ticks_keep_good : (n : ℕ) (s : SoFar) → Good s.run → Good (ticks n s).run
unfolding ticks
ticks_keep_good zero s good = good
ticks_keep_good (suc n) s good = ticks_keep_good n (one_more_tick s) (tick_keeps_good s.run good)
