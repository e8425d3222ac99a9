-- The tests of serials and the search for one: what they mean for any two jobs, how the code makes them, which changes of the list keep what they mean, and what
-- the search finds.
use Rattle.std.specs.Prelude.{Some, None}
use Rattle.std.specs.List.{AllAdjacentBelow, IsAllAdjacentAnswer}
use lib.Seq.{drop-cons}
use Prim.Native.Nat.{ℕ, zero, suc, ◌+◌, ◌<◌, suc-le-suc}
use mathlib.Core.Path.{◌≡◌, refl, sym, ap, ◌∙◌}
use mathlib.Core.List.{List, [], ◌∷◌, ◌++◌}
use mathlib.Core.Bool.{Bool, true, false, not, and-eq-true_iff}
use native.Mathlib.Nat.{not-suc-le-zero, le_of_suc-le-suc}
use native.Mathlib.Numerals.{add-one}
use native.Mathlib.Decide.{dec_lt, ℕ_discrete}
use native.Mathlib.Omega.{arith}
use lib.Dec.{ltb, eqb}
use borrow.Author.Tests.{ltb-true, ltb-false, eqb-false, not-true, lt-ltb, eq-eqb, ne_eqb}
use lib.ListN.{length, drop, set, get_or, length-set}
use Rattle.jobs.specs.declared.Job.{Job}
use Rattle.jobs.specs.Places.{no_job, without}
use Rattle.jobs.specs.Serials.{has_not, distinct_serials, rising_above, rising_serials, place_from, place_of}
use Rattle.jobs.specs.JobChanges.{serial_at}

-- ---- what the tests mean

-- Q holds for the serial of each job.
abbrev pub Each : (ℕ → Type 0) → List Job → Type 0
Each Q js = (i : ℕ) → i < length js → Q (serial_at js i)

-- R holds for the serials of any two jobs, the one in the earlier place first.
abbrev pub AnyTwo : (ℕ → ℕ → Type 0) → List Job → Type 0
AnyTwo R js = (i k : ℕ) → i < k → k < length js → R (serial_at js i) (serial_at js k)

-- Two serials are not the same.
abbrev pub Differ : ℕ → ℕ → Type 0
Differ a b = a ≡ b → ⊥

-- How `Each` holds for no job, for one more job in front, and for the jobs after the first.
module _ (Q : ℕ → Type 0) where
  each_of_none : Each Q []
  each_of_none i h = absurd (not-suc-le-zero h)

  each_of_cons : (j : Job) (js : List Job) → Q j.serial.0 → Each Q js → Each Q (j ∷ js)
  each_of_cons j js q e zero h = q
  each_of_cons j js q e (suc i) h = e i (le_of_suc-le-suc h)

  each_of_tail : (j : Job) (js : List Job) → Each Q (j ∷ js) → Each Q js
  each_of_tail j js e i h = e (suc i) (suc-le-suc h)

-- How `AnyTwo` holds for no job and for one more job in front, and what it says about the first job and those after it.
module _ (R : ℕ → ℕ → Type 0) where
  two_of_none : AnyTwo R []
  two_of_none i k h l = absurd (not-suc-le-zero l)

  two_of_cons : (j : Job) (js : List Job) → Each (R j.serial.0) js → AnyTwo R js → AnyTwo R (j ∷ js)
  two_of_cons j js e t i zero h l = absurd (not-suc-le-zero h)
  two_of_cons j js e t zero (suc k) h l = e k (le_of_suc-le-suc l)
  two_of_cons j js e t (suc i) (suc k) h l = t i k (le_of_suc-le-suc h) (le_of_suc-le-suc l)

  two_of_head : (j : Job) (js : List Job) → AnyTwo R (j ∷ js) → Each (R j.serial.0) js
  two_of_head j js t k h = t 0 (suc k) (omega arith) (suc-le-suc h)

  two_of_tail : (j : Job) (js : List Job) → AnyTwo R (j ∷ js) → AnyTwo R js
  two_of_tail j js t i k h l = t (suc i) (suc k) (suc-le-suc h) (suc-le-suc l)

-- If the test finds that no job has the serial s, each serial differs from s.
has_not_to : (s : ℕ) (js : List Job) → has_not s js ≡ true → Each (Differ s) js
has_not_to s [] e = each_of_none (Differ s)
has_not_to s (j ∷ js) e =
    let both = (and-eq-true_iff (not (eqb j.serial.0 s)) (has_not s js)).0 e in
    each_of_cons (Differ s) j js (λ q. eqb-false j.serial.0 s (not-true _ both.0) (sym q)) (has_not_to s js both.1)

has_not_from : (s : ℕ) (js : List Job) → Each (Differ s) js → has_not s js ≡ true
has_not_from s [] f = refl
has_not_from s (j ∷ js) f =
    rw (ne_eqb j.serial.0 s (λ q. f 0 (omega arith) (sym q)), has_not_from s js (each_of_tail (Differ s) j js f))

-- If the test finds that the serials are distinct, any two of them differ.
pub distinct_to : (js : List Job) → distinct_serials js ≡ true → AnyTwo Differ js
distinct_to [] e = two_of_none Differ
distinct_to (j ∷ js) e =
    let both = (and-eq-true_iff (has_not j.serial.0 js) (distinct_serials js)).0 e in
    two_of_cons Differ j js (has_not_to j.serial.0 js both.0) (distinct_to js both.1)

pub distinct_from : (js : List Job) → AnyTwo Differ js → distinct_serials js ≡ true
distinct_from [] t = refl
distinct_from (j ∷ js) t =
    rw (has_not_from j.serial.0 js (two_of_head Differ j js t), distinct_from js (two_of_tail Differ j js t))

-- If the serials rise above s, each is above s, and of any two the later is above the earlier.
above_to : (s : ℕ) (js : List Job) → rising_above s js ≡ true → Each (◌<◌ s) js × AnyTwo ◌<◌ js
above_to s [] e = (each_of_none (◌<◌ s), two_of_none ◌<◌)
above_to s (j ∷ js) e =
    let both = (and-eq-true_iff (ltb s j.serial.0) (rising_above j.serial.0 js)).0 e in
    let up : s < j.serial.0 = ltb-true s j.serial.0 both.0 in
    let later = above_to j.serial.0 js both.1 in
    (each_of_cons (◌<◌ s) j js up (λ i h. omega (arith, later.0 i h)), two_of_cons ◌<◌ j js later.0 later.1)

above_from : (s : ℕ) (js : List Job) → Each (◌<◌ s) js → AnyTwo ◌<◌ js → rising_above s js ≡ true
above_from s [] f t = refl
above_from s (j ∷ js) f t =
    rw (lt-ltb s j.serial.0 (f 0 (omega arith)), above_from j.serial.0 js (two_of_head ◌<◌ j js t) (two_of_tail ◌<◌ j js t))

-- If the serials rise, of any two the later is above the earlier.
pub rising_to : (js : List Job) → rising_serials js ≡ true → AnyTwo ◌<◌ js
rising_to [] e = two_of_none ◌<◌
rising_to (j ∷ js) e = let later = above_to j.serial.0 js e in two_of_cons ◌<◌ j js later.0 later.1

pub rising_from : (js : List Job) → AnyTwo ◌<◌ js → rising_serials js ≡ true
rising_from [] t = refl
rising_from (j ∷ js) t = above_from j.serial.0 js (two_of_head ◌<◌ j js t) (two_of_tail ◌<◌ j js t)

-- Serials that rise are distinct.
pub rising_distinct : (js : List Job) → rising_serials js ≡ true → distinct_serials js ≡ true
rising_distinct js e = distinct_from js (λ i k h l q. omega (arith, rising_to js e i k h l))

-- ---- what the code finds

-- If each serial is below that of the next job, the serials rise.
neighbours_rise : (js : List Job) → AllAdjacentBelow (λ i j. true ≡ ltb i.serial.0 j.serial.0) js (length js) → rising_serials js ≡ true
neighbours_rise [] f = refl
neighbours_rise (j ∷ []) f = refl
neighbours_rise (i ∷ j ∷ js) f = rw (← f 0 no_job (omega arith), neighbours_rise (j ∷ js) (λ k d h. rw add-one (rw add-one at (f (suc k) d (omega arith)))))

-- A test that passes only where it can't has failed.
not_passed : (b : Bool) → (b ≡ true → ⊥) → false ≡ b
not_passed true h = absurd (h refl)
not_passed false h = refl

-- Whether each serial is below that of the next job is whether the serials rise.
pub rising_is : (js : List Job) (b : Bool) → IsAllAdjacentAnswer (λ i j found. found ≡ ltb i.serial.0 j.serial.0) js b → b ≡ rising_serials js
rising_is js true f = sym (neighbours_rise js f)
rising_is js false f = not_passed (rising_serials js) (λ e.
    let up = rising_to js e f.0 (f.0 + 1) (omega arith) f.1 in
    let down = ltb-false (serial_at js f.0) (serial_at js (f.0 + 1)) (sym (f.2 no_job)) in
    omega arith)

-- If no later job has the serial of the job at a place, the jobs after it decide whether the serials are distinct.
pub distinct_next : (js : List Job) (i : ℕ) → i < length js → true ≡ has_not (serial_at js i) (drop (i + 1) js)
    → distinct_serials (drop i js) ≡ distinct_serials (drop (i + 1) js)
distinct_next js i h e =
    let none = rw add-one at e in
    rw (drop-cons js i no_job h, ← none, add-one)

-- ---- what keeps serials rising and distinct

-- What holds for each job and for one more holds for each job of the list with that one at its end.
pub one_more : (P : Job → Type 0) (js : List Job) (j : Job) → ((i : ℕ) → i < length js → P (get_or js i no_job)) → P j
    → (i : ℕ) → i < length (js ++ (j ∷ [])) → P (get_or (js ++ (j ∷ [])) i no_job)
one_more P [] j f p zero h = p
one_more P [] j f p (suc i) h = absurd (not-suc-le-zero (le_of_suc-le-suc h))
one_more P (a ∷ js) j f p zero h = f 0 (omega arith)
one_more P (a ∷ js) j f p (suc i) h = one_more P js j (λ k l. f (suc k) (suc-le-suc l)) p i (le_of_suc-le-suc h)

-- What holds for each serial still does if one job is left out.
each_without : (Q : ℕ → Type 0) (js : List Job) (at : ℕ) → Each Q js → Each Q (without js at)
each_without Q [] at e = e
each_without Q (j ∷ js) zero e = each_of_tail Q j js e
each_without Q (j ∷ js) (suc at) e =
    each_of_cons Q j (without js at) (e 0 (omega arith)) (each_without Q js at (each_of_tail Q j js e))

-- Replacing a job by one with the same serial changes no serial.
same_serials : (js : List Job) (at : ℕ) (j : Job) → j.serial.0 ≡ serial_at js at → (i : ℕ) → serial_at (set js at j) i ≡ serial_at js i
same_serials [] at j e i = refl
same_serials (a ∷ js) zero j e zero = e
same_serials (a ∷ js) zero j e (suc i) = refl
same_serials (a ∷ js) (suc at) j e zero = refl
same_serials (a ∷ js) (suc at) j e (suc i) = same_serials js at j e i

-- What holds for any two serials still does if a job is left out, if one is added at the end, and if one is replaced by another with the same serial.
module _ (R : ℕ → ℕ → Type 0) where
  pub AnyTwo-without : (js : List Job) (at : ℕ) → AnyTwo R js → AnyTwo R (without js at)
  AnyTwo-without [] at t = t
  AnyTwo-without (j ∷ js) zero t = two_of_tail R j js t
  AnyTwo-without (j ∷ js) (suc at) t =
      two_of_cons R j (without js at) (each_without (R j.serial.0) js at (two_of_head R j js t)) (AnyTwo-without js at (two_of_tail R j js t))

  pub two_more : (js : List Job) (j : Job) → AnyTwo R js → Each (λ s. R s j.serial.0) js → AnyTwo R (js ++ (j ∷ []))
  two_more [] j t e = two_of_cons R j [] (each_of_none (R j.serial.0)) t
  two_more (a ∷ js) j t e =
      two_of_cons R a (js ++ (j ∷ [])) (one_more (λ b. R a.serial.0 b.serial.0) js j (two_of_head R a js t) (e 0 (omega arith)))
      (two_more js j (two_of_tail R a js t) (each_of_tail (λ s. R s j.serial.0) a js e))

  pub AnyTwo-set : (js : List Job) (at : ℕ) (j : Job) → j.serial.0 ≡ serial_at js at → AnyTwo R js → AnyTwo R (set js at j)
  AnyTwo-set js at j e t i k h l = rw (same_serials js at j e i, same_serials js at j e k) (t i k h (rw length-set at l))

-- ---- what the search for a serial finds

-- The job at the place `at` has the serial s, and no job in an earlier place does.
abbrev pub FirstWith : (s : ℕ) → List Job → (at : ℕ) → Type 0
FirstWith s js at = (at < length js) × (serial_at js at ≡ s) × ((i : ℕ) → i < at → serial_at js i ≡ s → ⊥)

-- With one more job in front, which has another serial, the job found stands one place further on.
FirstWith-cons : (s : ℕ) (j : Job) (js : List Job) (at : ℕ) → (j.serial.0 ≡ s → ⊥) → FirstWith s js at → FirstWith s (j ∷ js) (suc at)
FirstWith-cons s j js at ne f = (suc-le-suc f.0, f.1, earlier)
  where
    earlier : (i : ℕ) → i < suc at → serial_at (j ∷ js) i ≡ s → ⊥
    earlier zero h = ne
    earlier (suc i) h = f.2 i (le_of_suc-le-suc h)

-- The search finds the first job that has the serial s, or no job has it and the search finds nobody. What follows in both cases holds.
by_search : {G : Type 0} (k s : ℕ) (js : List Job) → ((at : ℕ) → FirstWith s js at → place_from k s js ≡ Some (k + at) → G)
    → (Each (λ t. t ≡ s → ⊥) js → place_from k s js ≡ None → G) → G
by_search k s [] f g = g (each_of_none (λ t. t ≡ s → ⊥)) refl
by_search k s (j ∷ js) f g = elim (ℕ_discrete j.serial.0 s) [
  | yes e ↦ f 0 (omega arith, e, λ i h. absurd (not-suc-le-zero h)) (rw (eq-eqb j.serial.0 s e) (ap Some (omega arith)))
  | no ne ↦
      let later = ne_eqb j.serial.0 s ne in
      by_search (k + 1) s js (λ at w e. f (suc at) (FirstWith-cons s j js at ne w) (rw later (e ∙ ap Some (omega arith))))
      (λ w e. g (each_of_cons (λ t. t ≡ s → ⊥) j js ne w) (rw later e))
]

-- The same cases, for the search that begins at the first place.
pub by_place : {G : Type 0} (s : ℕ) (js : List Job) → ((at : ℕ) → FirstWith s js at → place_of s js ≡ Some at → G)
    → (Each (λ t. t ≡ s → ⊥) js → place_of s js ≡ None → G) → G
by_place s js f g = by_search 0 s js (λ at w e. f at w (e ∙ ap Some (omega arith))) g

-- There is only one first job that has the serial s.
pub one_first : (s : ℕ) (js : List Job) (a b : ℕ) → FirstWith s js a → FirstWith s js b → a ≡ b
one_first s js a b v w = elim (ℕ_discrete a b) [
  | yes e ↦ e
  | no ne ↦ elim (dec_lt a b) [
    | yes h ↦ absurd (w.2 a h v.1)
    | no h ↦ absurd (v.2 b (omega arith) w.1)
  ]
]
