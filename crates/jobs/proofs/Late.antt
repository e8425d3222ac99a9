-- Late jobs, counted one at a time.
use Prim.Native.Nat.{ℕ, suc, ◌+◌, ◌≤◌, ◌<◌}
use mathlib.Core.Path.{◌≡◌, refl, ap}
use mathlib.Core.List.{List}
use mathlib.Core.Bool.{Bool, true, false, cond}
use native.Mathlib.Decide.{dec_le, ℕ_discrete}
use native.Mathlib.Omega.{arith}
use lib.ListN.{length, drop, get_or, drop_of_length-le}
use lib.Seq.{drop-cons}
use native.Mathlib.Numerals.{add-one}
use borrow.Author.Tests.{lt-ltb, le-ltb, eq-eqb, ne_eqb}
use Rattle.kinds.proofs.Apart.{impossible}
use Rattle.jobs.specs.declared.Job.{Job}
use Rattle.jobs.specs.Late.{is_late, late_count}
use Rattle.jobs.specs.JobChanges.{BecomesLate}
use Rattle.jobs.specs.LateLaws.{LateCountMeans, NoneLate, LateAddsOne, OthersAddNone}

-- ---- what the count says

-- Either a job becomes late and the test passes, or it does not and the test fails.
by_late : {G : Type 0} (t : ℕ) (j : Job) → (BecomesLate t j → is_late t j ≡ true → G) → ((BecomesLate t j → ⊥) → is_late t j ≡ false → G) → G
by_late t j late other = elim (ℕ_discrete j.due.0 t) [
  | yes e ↦ elim (dec_le 1 j.left) [
    | yes l ↦ late (record { due_now = e; unfinished = l }) (simp (eq-eqb j.due.0 t e, lt-ltb 0 j.left l))
    | no l ↦ other (λ p. l p.unfinished) (simp (eq-eqb j.due.0 t e, le-ltb 0 j.left (omega arith)))
  ]
  | no n ↦ other (λ p. n p.due_now) (simp (ne_eqb j.due.0 t n))
]

pub late_count_means : LateCountMeans
late_count_means t j = by_late t j
    (λ p e. (λ _. p, λ _. e))
    (λ other e. (λ f. impossible cc, λ p. absurd (other p)))

pub none_late : NoneLate
unfolding late_count
none_late t = refl

pub late_adds_one : LateAddsOne
unfolding late_count
late_adds_one t j js p = rw ((late_count_means t j).1 p)

pub others_add_none : OthersAddNone
unfolding late_count
others_add_none t j js other = by_late t j (λ p e. absurd (other p)) (λ _ e. rw e (omega arith))

-- ---- the count along the places

-- The late count from a place on is 1 or 0 for the job there, and the count of the rest.
pub late_next : (js : List Job) (i t : ℕ) (d : Job) → i < length js → (b : Bool) → is_late t (get_or js i d) ≡ b
    → late_count t (drop i js) ≡ cond b 1 0 + late_count t (drop (i + 1) js)
unfolding late_count
late_next js i t d h b e = rw (drop-cons js i d h, add-one) (ap (λ (x : Bool). cond x 1 0 + late_count t (drop (suc i) js)) e)

-- Past the last job the late count is 0.
pub late_end : (l : List Job) (i t : ℕ) → length l ≤ i → late_count t (drop i l) ≡ 0
unfolding late_count
late_end l i t h = rw (drop_of_length-le l h)
