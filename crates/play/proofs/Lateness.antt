-- A job that finishes after its due time became late in the tick that took the clock to its due time, and in no other. So the jobs that finished late and the
-- pending jobs that are already late make up the sum of the late counts of all ticks. (docs/RULES.md, sections 6.14 and 8.14.)
use Prim.Native.Nat.{ℕ, zero, suc, ◌+◌, ◌≤◌, ◌<◌, suc-le-suc}
use mathlib.Core.Path.{◌≡◌, refl}
use mathlib.Core.Bool.{cond}
use mathlib.Core.List.{List, [], ◌∷◌, ◌++◌}
use native.Mathlib.Nat.{not-suc-le-zero, le_of_suc-le-suc}
use native.Mathlib.Omega.{arith}
use lib.Dec.{ltb}
use lib.ListN.{length, set, get_or}
use borrow.Author.Tests.{lt-ltb, le-ltb, eq-eqb, ne_eqb}
use Rattle.kinds.specs.declared.Finish.{Finish}
use Rattle.theory.proofs.Cases.{by_lt}
use Rattle.jobs.specs.declared.Job.{Job}
use Rattle.jobs.specs.Places.{no_job, without}
use Rattle.jobs.specs.Units.{worked}
use Rattle.jobs.specs.Late.{is_late, late_count}
use Rattle.jobs.specs.Turns.{finish_at}
use Rattle.play.specs.Late.{finished_late, late_finishes}
use Rattle.play.proofs.ThreeChanges.{Seen, Moves}

-- How many jobs of a list are due before a time.
unfoldable pub due_before : (time : ℕ) → List Job → ℕ
due_before time [] = 0
due_before time (j ∷ js) = cond (ltb j.due.0 time) 1 0 + due_before time js

-- An unfinished job that is due before t + 1 is due before t, or it becomes late at t.
one_later : (t : ℕ) (j : Job) → 1 ≤ j.left → cond (ltb j.due.0 (t + 1)) 1 0 ≡ cond (ltb j.due.0 t) 1 0 + cond (is_late t j) 1 0
one_later t j some =
    by_lt j.due.0 t
    (λ h. rw (lt-ltb j.due.0 (t + 1) (omega arith), lt-ltb j.due.0 t h, ne_eqb j.due.0 t (λ e. omega arith)))
    (λ h. by_lt t j.due.0
    (λ l. rw (le-ltb j.due.0 (t + 1) (omega arith), le-ltb j.due.0 t h, ne_eqb j.due.0 t (λ e. omega arith)))
    (λ l. rw (lt-ltb j.due.0 (t + 1) (omega arith), le-ltb j.due.0 t h, eq-eqb j.due.0 t (omega arith), lt-ltb 0 j.left some)))

-- Every job of a list has a unit left.
abbrev Unfinished : List Job → Type 0
Unfinished js = (i : ℕ) → i < length js → 1 ≤ (get_or js i no_job).left

unfinished_rest : (j : Job) (js : List Job) → Unfinished (j ∷ js) → Unfinished js
unfinished_rest j js some i h = some (suc i) (suc-le-suc h)

module _ (t : ℕ) where
  -- Of unfinished jobs, those due before t + 1 are those due before t and those that become late at t.
  all_later : (js : List Job) → Unfinished js → due_before (t + 1) js ≡ due_before t js + late_count t js
  unfolding due_before late_count
  all_later [] some = refl
  all_later (j ∷ js) some = omega (arith, one_later t j (some 0 (omega arith)), all_later js (unfinished_rest j js some))

  -- The jobs due before t + 1 are those due before t and those that become late at t, also where one job got a unit that was not its last.
  later_with_a_unit : (js : List Job) (at : ℕ) → Unfinished js → (at < length js → 1 < (get_or js at no_job).left)
      → let after = set js at (worked (get_or js at no_job)) in due_before (t + 1) after ≡ due_before t js + late_count t after
  unfolding due_before late_count
  later_with_a_unit [] at some more = refl
  later_with_a_unit (j ∷ js) zero some more =
      omega (arith, one_later t (worked j) (omega (arith, more (omega arith))), all_later js (unfinished_rest j js some))
  later_with_a_unit (j ∷ js) (suc at) some more =
      omega (arith, one_later t j (some 0 (omega arith)), later_with_a_unit js at (unfinished_rest j js some) (λ h. more (suc-le-suc h)))

  -- The jobs due before t + 1 are those due before t and those that become late at t, also where one job finished at t: it counts where it was due before t.
  later_without : (js : List Job) (at : ℕ) → Unfinished js → at < length js
      → cond (ltb (get_or js at no_job).due.0 t) 1 0 + due_before (t + 1) (without js at) ≡ due_before t js + late_count t (without js at)
  unfolding due_before late_count
  later_without [] at some h = absurd (not-suc-le-zero h)
  later_without (j ∷ js) zero some h = omega (arith, all_later js (unfinished_rest j js some))
  later_without (j ∷ js) (suc at) some h =
      omega (arith, one_later t j (some 0 (omega arith)), later_without js at (unfinished_rest j js some) (le_of_suc-le-suc h))

  -- One more job adds one to the jobs due before t where it is due before t.
  due_before_more : (js : List Job) (j : Job) → due_before t (js ++ (j ∷ [])) ≡ due_before t js + cond (ltb j.due.0 t) 1 0
  unfolding due_before
  due_before_more [] j = omega arith
  due_before_more (k ∷ js) j = omega (arith, due_before_more js j)

-- One more finished job adds one to the jobs late where it finished late.
pub late_finishes_more : (fs : List Finish) (f : Finish) → late_finishes (fs ++ (f ∷ [])) ≡ late_finishes fs + cond (finished_late f) 1 0
unfolding late_finishes
late_finishes_more [] f = omega arith
late_finishes_more (g ∷ fs) f = omega (arith, late_finishes_more fs f)

-- The jobs that finished late and the pending jobs whose due time the clock has reached make up the sum of the late counts so far.
abbrev pub LateSoFar : Seen → Type 0
LateSoFar s = late_finishes s.finishes + due_before (s.clock + 1) s.pending ≡ s.late

pub late_so_far : Moves LateSoFar
unfolding due_before late_finishes
late_so_far = record {
  start = λ t. refl;
  quiet = λ s at sound more q. omega (arith, later_with_a_unit (s.clock + 1) s.pending at (λ i h. (sound i h).some_left) more);
  finish = λ s at sound h q.
      let f = finish_at (s.clock + 1) (get_or s.pending at no_job) in
      omega (arith, later_without (s.clock + 1) s.pending at (λ i h. (sound i h).some_left) h, late_finishes_more s.finishes f);
  release = λ s j serial later q. rw (due_before_more (s.clock + 1) s.pending j, le-ltb j.due.0 (s.clock + 1) (omega arith)) (omega arith);
}
