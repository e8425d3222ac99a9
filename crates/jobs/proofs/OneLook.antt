-- One look at the pending jobs: what it has found when it has seen them all, and that it counts the late jobs as well as a second look after the unit would.
use Rattle.std.specs.Prelude.{Option, Some, None}
use Prim.Native.Nat.{ℕ, zero, suc, ◌+◌, ◌≤◌, ◌<◌}
use mathlib.Core.Path.{◌≡◌, refl, ap}
use mathlib.Core.List.{List, [], ◌∷◌}
use mathlib.Core.Bool.{Bool, cond}
use native.Mathlib.Nat.{not-suc-le-zero, le_of_suc-le-suc}
use native.Mathlib.Decide.{dec_le}
use native.Mathlib.Omega.{arith}
use lib.ListN.{length, drop, set, get_or}
use borrow.Author.Tests.{lt-ltb, le-leb, lt-leb}
use Rattle.jobs.specs.declared.Job.{Job}
use Rattle.jobs.specs.declared.FirstJob.{FirstJob}
use Rattle.jobs.specs.declared.Pending.{Pending}
use Rattle.jobs.specs.Places.{no_job, jobs_of, used, without}
use Rattle.jobs.specs.Choice.{first_from, first_place}
use Rattle.jobs.specs.Units.{worked, after}
use Rattle.jobs.specs.Late.{is_late, late_count}
use Rattle.jobs.specs.OneLook.{look_of, finishes_when_due}
use Rattle.jobs.specs.LateLaws.{LateByOneLook}
use Rattle.jobs.proofs.First.{first_end, found_first}
use Rattle.jobs.proofs.Late.{late_end}
use Rattle.jobs.proofs.Changes.{place_holds_job, after_a_unit}

-- ---- what the look has found

module _ (t : ℕ) where
  -- Where no job is pending, nobody is chosen and none is late.
  pub look_at_nobody : (js : List Job) → length js ≡ 0 → record { first = None; late = 0 } ≡ look_of t js
  unfolding late_count
  look_at_nobody [] e = refl
  look_at_nobody (j ∷ js) e = absurd (omega arith)

  -- Where the look has seen all jobs, it has found the one that goes first, and has counted all that become late.
  pub look_at_all : (js : List Job) (i at late : ℕ) (best : Job) → 1 ≤ length js → length js ≤ i
      → first_from i at best (drop i js) ≡ first_place js → best ≡ get_or js at no_job → late + late_count t (drop i js) ≡ late_count t js
      → record { first = Some (record { place = at; job = best }); late = late } ≡ look_of t js
  look_at_all js i at late best h k e b f =
      let counted : late ≡ late_count t js = omega (arith, late_end js i t k) in
      rw (b, first_end js i at best k e, counted) (ap (λ (f : Option FirstJob). record { first = f; late = late_count t js }) (found_first js h))

  -- ---- the late count after a unit

  -- The late count is 1 or 0 for the job at a place, and the count of the others.
  late_among_the_rest : (js : List Job) (at : ℕ) → at < length js
      → late_count t js ≡ late_count t (without js at) + cond (is_late t (get_or js at no_job)) 1 0
  unfolding late_count
  late_among_the_rest [] at h = absurd (not-suc-le-zero h)
  late_among_the_rest (j ∷ js) zero h = omega arith
  late_among_the_rest (j ∷ js) (suc at) h = omega (arith, late_among_the_rest js at (le_of_suc-le-suc h))

  -- Replacing a job by one that becomes late exactly if it does leaves the late count as it was.
  late_replaced : (js : List Job) (at : ℕ) (j : Job) → is_late t j ≡ is_late t (get_or js at no_job) → late_count t (set js at j) ≡ late_count t js
  unfolding late_count
  late_replaced [] at j e = refl
  late_replaced (a ∷ js) zero j e = rw e
  late_replaced (a ∷ js) (suc at) j e = omega (arith, late_replaced js at j e)

  -- A job that has a unit left after this one becomes late exactly if it would have without it.
  late_though_worked : (j : Job) → 1 < j.left → is_late t (worked j) ≡ is_late t j
  late_though_worked j h = rw (lt-ltb 0 j.left (omega arith), lt-ltb 0 (worked j).left (omega arith))

pub late_by_one_look : LateByOneLook
late_by_one_look t js at h =
    let j = get_or js at no_job in
    elim (dec_le j.left 1) [
      | yes l ↦ rw (le-leb j.left 1 l) (omega (arith, late_among_the_rest t js at h))
      | no l ↦ rw (lt-leb j.left 1 (omega arith)) (omega (arith, late_replaced t js at (worked j) (late_though_worked t j (omega arith))))
    ]

-- After the unit, the late count is what the look counted, less one if the test found that the job finishes when it is due.
pub late_after : (t : ℕ) (p : Pending) (at : ℕ) → at < used p → (b : Bool) → finishes_when_due t (get_or p.places at no_job) ≡ b
    → late_count t (jobs_of (after p at)) + cond b 1 0 ≡ late_count t (jobs_of p)
late_after t p at h b e = rw (after_a_unit p at h, ← e, place_holds_job p at h) (late_by_one_look t (jobs_of p) at h)
