-- The first places of a list: how many there are, what they hold from a place on, and how one is taken out by moving the later ones down.
use Rattle.std.specs.List.{copy_within}
use Prim.Native.Nat.{ℕ, zero, suc, ◌+◌, ◌-◌, ◌≤◌, ◌<◌}
use mathlib.Core.Path.{◌≡◌, sym, ap, ◌∙◌}
use mathlib.Core.List.{List, [], ◌∷◌, ◌++◌}
use native.Mathlib.Nat.{not-suc-le-zero, le_of_suc-le-suc}
use native.Mathlib.Numerals.{add-one}
use native.Mathlib.Omega.{arith}
use lib.ListN.{length, take, drop, get_or, set, length-take, length-drop, length-append}
use borrow.Author.Tests.{lt-ltb, le-ltb}
use lib.Seq.{drop-cons, take_at, take-set-lt, set_at, length_paste_head}
use Rattle.kinds.proofs.Lists.{take_as_many}
use Rattle.jobs.specs.declared.Job.{Job}
use Rattle.jobs.specs.declared.Pending.{Pending}
use Rattle.jobs.specs.Places.{no_job, jobs_of, used, without, taken_out}

module _ {A : Type 0} where
  -- The first elements of a list without one of them are those before it and those after it.
  without_first : (l : List A) (at n : ℕ) → at < n → n ≤ length l → without (take n l) at ≡ take at l ++ take (n - suc at) (drop (suc at) l)
  without_first l at zero h k = absurd (not-suc-le-zero h)
  without_first [] at (suc n) h k = absurd (not-suc-le-zero k)
  without_first (a ∷ l) zero (suc n) h k = let rest : suc n - 1 ≡ n = omega arith in rw rest
  without_first (a ∷ l) (suc at) (suc n) h k =
      let rest : suc n - suc (suc at) ≡ n - suc at = omega arith in
      rw rest (ap (◌∷◌ a) (without_first l at n (le_of_suc-le-suc h) (le_of_suc-le-suc k)))

  -- The elements of the first places that stand after one of them move down over it, and the last of these places, which is freed, is set.
  pub moved_over : (l : List A) (at n : ℕ) (e : A) → at < n → n ≤ length l
      → set (copy_within l (at + 1) n at) (n - 1) e ≡ without (take n l) at ++ e ∷ drop n l
  moved_over l at n e h k =
      let kept = take at l ++ take (n - suc at) (drop (suc at) l) in
      let freed : at + (n - suc at) ≡ n - 1 = omega arith in
      let past : suc (n - 1) ≡ n = omega arith in
      let many : length kept ≡ n - 1 =
      length_paste_head l at (drop (suc at) l) (n - suc at) (omega arith) (omega (arith, length-drop (suc at) l)) ∙ freed in
      rw (add-one, freed, drop-cons l (n - 1) e (omega arith), past)
      (set_at kept (get_or l (n - 1) e) (drop n l) e (n - 1) many ∙ ap (λ (x : List A). x ++ e ∷ drop n l) (sym (without_first l at n h k)))

  -- A list without one of its elements is shorter by one.
  pub length-without : (l : List A) (at : ℕ) → at < length l → length (without l at) + 1 ≡ length l
  length-without [] at h = absurd (not-suc-le-zero h)
  length-without (a ∷ l) zero h = omega arith
  length-without (a ∷ l) (suc at) h = omega (arith, length-without l at (le_of_suc-le-suc h))

-- A job is taken out by moving the later ones down and clearing the last place in use.
pub moved_is_taken_out : (p : Pending) (at : ℕ) → at < used p
    → record { places = set (copy_within p.places (at + 1) (used p) at) (used p - 1) no_job; count = used p - 1 } ≡ taken_out p at
unfolding taken_out
moved_is_taken_out p at h =
    let n : used p ≤ length p.places = omega (arith, length-take p.count p.places) in
    simp (moved_over p.places at (used p) no_job h n, take_as_many p.count p.places, lt-ltb at (used p) h)

-- If no job is pending at the place, nothing changes.
pub nothing_taken_out : (p : Pending) (at : ℕ) → used p ≤ at → p ≡ taken_out p at
unfolding taken_out
nothing_taken_out p at h = simp (le-ltb at (used p) h)

module _ (p : Pending) (at : ℕ) (h : at < used p) where
  -- After a job is taken out, the others are pending, in their order.
  pub jobs_taken_out : jobs_of (taken_out p at) ≡ without (jobs_of p) at
  unfolding taken_out
  jobs_taken_out =
      let n : length (without (jobs_of p) at) ≡ used p - 1 = omega (arith, length-without (jobs_of p) at h) in
      simp (lt-ltb at (used p) h) (take_at (without (jobs_of p) at) (no_job ∷ drop (used p) p.places) (used p - 1) n)

  -- After a job is taken out, one less is counted.
  pub count-taken_out : (taken_out p at).count + 1 ≡ used p
  unfolding taken_out
  count-taken_out = simp (lt-ltb at (used p) h) (omega arith)

  -- After a job is taken out there are as many places as before.
  pub places-taken_out : length (taken_out p at).places ≡ length p.places
  unfolding taken_out
  places-taken_out =
      simp (lt-ltb at (used p) h, length-append, length-drop) (omega (arith, length-without (jobs_of p) at h, length-take p.count p.places))

-- If a job is stored in a place in use, the pending jobs change at that place only.
pub jobs_set : (p : Pending) (at : ℕ) (j : Job) → at < used p → take (used p) (set p.places at j) ≡ set (jobs_of p) at j
jobs_set p at j h = take-set-lt (used p) p.places at j h ∙ ap (λ (l : List Job). set l at j) (take_as_many p.count p.places)
