-- An assignment serves jobs exactly when it gives each its ticks: every free tick before the due time that goes to a job counts as one unit for it, and no
-- other does. (1.8, 6.5)
use Prim.Native.Nat.{ℕ, zero, suc, ◌≤◌}
use mathlib.Core.Path.{◌≡◌, refl}
use mathlib.Core.Bool.{Bool, true, false, cond}
use mathlib.Core.Option.{Option, none, some}
use mathlib.Core.List.{List, [], ◌∷◌}
use native.Mathlib.Omega.{arith}
use lib.ListN.{length}
use borrow.Author.Tests.{eq-eqb, ne_eqb}
use Rattle.theory.specs.Lists.{All}
use Rattle.theory.specs.Ticks.{had}
use Rattle.theory.proofs.Cases.{by_eq}
use Rattle.theory.proofs.Lists.{all_imply}
use Rattle.promise.specs.NoOrder.{units_by, LatestFirst, ServedMeansGivenTicks}

module _ (taken : ℕ → Bool) (who : ℕ → Option ℕ) (n : ℕ) where
  -- A free tick that goes to a job is one unit for it.
  one_unit : (t : ℕ) → taken t ≡ false → who t ≡ some n → cond (taken t) 0 (had n (who t)) ≡ 1
  one_unit t left e = rw (left, e, eq-eqb n n refl)

  -- The units that count for a job are at least as many as the free ticks before its due time that go to it.
  ticks_count : (due : ℕ) (ticks : List ℕ) → LatestFirst due ticks → All (λ t. taken t ≡ false) ticks → All (λ t. who t ≡ some n) ticks
      → length ticks ≤ units_by taken due who n
  unfolding units_by
  ticks_count zero [] before left given = omega arith
  ticks_count zero (t ∷ ticks) before left given = absurd (omega (arith, before.0))
  ticks_count (suc due) [] before left given = omega arith
  ticks_count (suc due) (t ∷ ticks) before left given = by_eq t due
      (λ e.
      omega (arith, one_unit due (rw e at left.0) (rw e at given.0), ticks_count due ticks (rw e at before.1) left.1 given.1))
      (λ e. omega (arith, ticks_count due (t ∷ ticks) (omega (arith, before.0), before.1) left given))

  -- These are the free ticks before a time that go to the job, one for each unit that counts.
  record TicksOf (due : ℕ) : Type 0 where
    ticks : List ℕ
    before : LatestFirst due ticks
    left : All (λ t. taken t ≡ false) ticks
    given : All (λ t. who t ≡ some n) ticks
    each_counts : length ticks ≡ units_by taken due who n

  -- Ticks that come before a time come before a later one.
  one_later : (due : ℕ) (ticks : List ℕ) → LatestFirst due ticks → LatestFirst (suc due) ticks
  one_later due [] before = tt
  one_later due (t ∷ ticks) before = (omega (arith, before.0), before.1)

  -- Where one more tick does not count, the ticks of the job stay as they are.
  without_it : (t : ℕ) → TicksOf t → cond (taken t) 0 (had n (who t)) ≡ 0 → TicksOf (suc t)
  unfolding units_by
  without_it t f none_more = record {
    ticks = f.ticks;
    before = one_later t f.ticks f.before;
    left = f.left;
    given = f.given;
    each_counts = omega (arith, f.each_counts, none_more);
  }

  -- One more tick goes to the job and is free, or it does not count.
  with_tick : (t : ℕ) → TicksOf t → (b : Bool) (o : Option ℕ) → taken t ≡ b → who t ≡ o → TicksOf (suc t)
  unfolding units_by
  with_tick t f true o lost e = without_it t f (rw lost)
  with_tick t f false none left e = without_it t f (rw (left, e))
  with_tick t f false (some m) left e = by_eq m n
      (λ q. record {
        ticks = t ∷ f.ticks;
        before = (omega arith, f.before);
        left = (left, f.left);
        given = (rw q at e, f.given);
        each_counts = omega (arith, f.each_counts, one_unit t left (rw q at e));
      })
      (λ q. without_it t f (rw (left, e, ne_eqb m n q)))

  -- For each due time there is a list of the free ticks before it that go to the job.
  ticks_of : (due : ℕ) → TicksOf due
  unfolding units_by
  ticks_of zero = record { ticks = []; before = tt; left = tt; given = tt; each_counts = refl }
  ticks_of (suc t) = with_tick t (ticks_of t) (taken t) (who t) refl refl

-- A job that is served is given its ticks, and a job that is given its ticks has its cost.
pub served_means_given_ticks : ServedMeansGivenTicks
served_means_given_ticks taken who js = (
  all_imply (λ j had_it.
      let f = ticks_of taken who j.name j.due in
      record { ticks = f.ticks; in_time = f.before; all_free = f.left; given = f.given; enough = omega (arith, f.each_counts) }) js,
  all_imply (λ j g. omega (arith, ticks_count taken who j.name j.due g.ticks g.in_time g.all_free g.given, g.enough)) js,
)
