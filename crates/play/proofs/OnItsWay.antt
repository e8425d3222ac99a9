-- What holds for a play on its way holds at its start, after ticks and after a release. (docs/RULES.md, sections 8.1 to 8.7.)
use Rattle.std.specs.Prelude.{Ok}
use Prim.Native.Nat.{ℕ, ◌+◌}
use mathlib.Core.Path.{◌≡◌, refl}
use native.Mathlib.Omega.{arith}
use borrow.Author.Tests.{lt-ltb}
use Rattle.kinds.proofs.Apart.{impossible}
use Rattle.table.proofs.Each.{each_none}
use Rattle.jobs.specs.Places.{max_places, put}
use Rattle.run.specs.declared.Run.{Run}
use Rattle.run.specs.declared.Accepted.{Accepted}
use Rattle.run.specs.Release.{released}
use Rattle.run.specs.ManyTicks.{SoFar, before_any_tick}
use Rattle.run.proofs.Release.{each_release, release_keeps_sound}
use Rattle.run.proofs.Ticking.{Good}
use Rattle.play.specs.LogRecords.{OnItsWay}
use Rattle.play.proofs.SingleTicks.{TicksFrom}

-- At its start, with the next serial 0 and no job pending, a play is on its way.
pub on_its_way_first : (run : Run) → Good run → run.next.0 ≡ 0 → run.pending.count ≡ 0 → OnItsWay (before_any_tick run)
on_its_way_first run good e f = record { good = good; in_range = each_none _; all_there = omega arith }

-- A play that is on its way is so after ticks too.
pub on_its_way_ticked : {s t : SoFar} → OnItsWay s → TicksFrom s t → OnItsWay t
on_its_way_ticked {s} {t} w k = record {
  good = k.good;
  in_range = k.in_range w.in_range;
  all_there = rw k.same_next (omega (arith, k.conserved, w.all_there));
}

-- An accepted release adds one pending job and takes one serial.
pub release_adds_one : (run : Run) (row cost : ℕ) (a : Accepted) → (released run row cost).answer ≡ Ok a
    → ((released run row cost).run.pending.count ≡ run.pending.count + 1) × ((released run row cost).run.next.0 ≡ run.next.0 + 1)
unfolding put
release_adds_one run row cost a =
    each_release run row cost
    (λ step. step.answer ≡ Ok a → (step.run.pending.count ≡ run.pending.count + 1) × (step.run.next.0 ≡ run.next.0 + 1))
    (λ r e. impossible cc)
    (λ t p given e. (rw (lt-ltb run.pending.count max_places p.room), refl))

-- What has happened so far, with one accepted release more.
abbrev pub released_on : SoFar → (row cost : ℕ) → SoFar
released_on s row cost = record { run = (released s.run row cost).run; late = s.late; finishes = s.finishes }

pub on_its_way_released : (s : SoFar) (row cost : ℕ) (a : Accepted) → (released s.run row cost).answer ≡ Ok a → OnItsWay s
    → OnItsWay (released_on s row cost)
on_its_way_released s row cost a e w = record {
  good = release_keeps_sound s.run row cost w.good.1 w.good.0;
  in_range = w.in_range;
  all_there = omega (arith, release_adds_one s.run row cost a e, w.all_there);
}
