-- Jobs in the order in which they are chosen, and the same jobs in another order. Where a job is put in follows by going along the jobs from the front, and
-- the first of jobs in order is the chosen one, since a job at another place would go after it. (docs/RULES.md, 6.10 to 6.13.)
use Prim.Native.Nat.{ℕ, zero, suc, ◌-◌, ◌≤◌, ◌<◌}
use mathlib.Core.Path.{◌≡◌, refl, sym, ap, ◌∙◌}
use mathlib.Core.Logic.{◌≢◌, ◌⊎◌, inl, inr, ⊎_elim}
use mathlib.Core.Bool.{Bool, true, false, cond, ◌&&◌, and-false}
use mathlib.Core.List.Memᴰ
use mathlib.Core.List.{List, [], ◌∷◌, ◌++◌, Memᴰ}
use native.Mathlib.Decide.{dec_lt, ℕ_discrete}
use native.Mathlib.Omega.{arith}
use lib.Dec.{eqb}
use lib.ListN.{length, take, drop, get_or, length-append, length-set, get_or-append, length-map}
use lib.Seq.{get_or-set_same, get_or-append_seam}
use borrow.Author.Tests.{lt-ltb, le-ltb, ltb-true, eq-eqb, ne_eqb}
use Rattle.kinds.proofs.Apart.{impossible}
use Rattle.jobs.specs.declared.Job.{Job}
use Rattle.jobs.specs.Places.{no_job, without}
use Rattle.jobs.specs.Choice.{goes_before, first_place}
use Rattle.jobs.proofs.Changes.{choice_is_first, without_is_one_less}
use Rattle.columns.specs.Columns.{serials_of, dues_of, due_before, behind}
use Rattle.columns.specs.Ticks.{first_of, worked_for, units_to_go, worked_by}
use Rattle.columns.specs.Ordered.{SameJobs, in_place, PutKeepsOrder, PutKeepsJobs, SameAreAmong, SameAreAsMany, FirstIsWorkedOn}
use Rattle.columns.proofs.Strides.{without-set, nothing_to_work_on, first_goes_on, first_finishes}

-- ---- which of two jobs goes before the other

-- The job a is due earlier than b, or at the same time and with a lower serial.
record Before (a b : Job) : Type 0 where
  due : a.due.0 ≤ b.due.0
  serial : a.due.0 ≡ b.due.0 → a.serial.0 < b.serial.0

module _ (a b : Job) where
  -- A job that goes before another is due earlier, or at the same time with a lower serial.
  before_to : goes_before a b ≡ true → Before a b
  unfolding goes_before
  before_to e = elim (dec_lt a.due.0 b.due.0) [
    | yes h ↦ record { due = omega arith; serial = λ s. omega arith }
    | no h ↦ elim (dec_lt b.due.0 a.due.0) [
      | yes k ↦ let z = rw (le-ltb a.due.0 b.due.0 (omega arith), lt-ltb b.due.0 a.due.0 k) at e in impossible cc
      | no k ↦
          let z = rw (le-ltb a.due.0 b.due.0 (omega arith), le-ltb b.due.0 a.due.0 (omega arith)) at e in
          record { due = omega arith; serial = λ s. ltb-true a.serial.0 b.serial.0 z }
    ]
  ]

  -- A job that is due earlier, or at the same time with a lower serial, goes before the other.
  before_from : Before a b → goes_before a b ≡ true
  unfolding goes_before
  before_from p = elim (dec_lt a.due.0 b.due.0) [
    | yes h ↦ rw (lt-ltb a.due.0 b.due.0 h)
    | no h ↦
        let l : a.serial.0 < b.serial.0 = p.serial (omega arith) in
        rw (le-ltb a.due.0 b.due.0 (omega arith), le-ltb b.due.0 a.due.0 (omega arith)) (lt-ltb a.serial.0 b.serial.0 l)
  ]

  -- Of two jobs with different serials, the second goes before the first where the first does not go before it.
  other_before : goes_before a b ≡ false → b.serial.0 ≢ a.serial.0 → Before b a
  other_before e n =
      let refuted : Before a b → ⊥ = λ p. impossible (cc (before_from p)) in
      elim (dec_lt a.due.0 b.due.0) [
        | yes h ↦ absurd (refuted (record { due = omega arith; serial = λ s. omega arith }))
        | no h ↦ elim (dec_lt a.serial.0 b.serial.0) [
          | yes k ↦ record { due = omega arith; serial = λ s. absurd (refuted (record { due = omega arith; serial = λ t. k })) }
          | no k ↦ record { due = omega arith; serial = λ s. omega arith }
        ]
      ]

-- A job that goes before a second, which goes before a third, goes before the third.
before_third : (a b c : Job) → goes_before a b ≡ true → goes_before b c ≡ true → goes_before a c ≡ true
before_third a b c p q =
    let f = before_to a b p in
    let s = before_to b c q in
    before_from a c (record { due = omega arith; serial = λ e. omega (arith, f.serial (omega arith), s.serial (omega arith)) })

-- ---- jobs of a list

-- The job at a place is one of the jobs.
stands_in : (js : List Job) (at : ℕ) → at < length js → Memᴰ (get_or js at no_job) js
stands_in [] at h = absurd (omega arith)
stands_in (j ∷ js) zero h = Memᴰ.head refl
stands_in (j ∷ js) (suc at) h = Memᴰ.tail (stands_in js at (omega arith))

-- A job of those without one place is one of all jobs.
among_all : {i : Job} (js : List Job) (at : ℕ) → Memᴰ i (without js at) → Memᴰ i js
among_all [] at m = m
among_all (j ∷ js) zero m = Memᴰ.tail m
among_all (j ∷ js) (suc at) m = ⊎_elim (λ e. Memᴰ.head e) (λ n. Memᴰ.tail (among_all js at n)) (Memᴰ.cases_cons m)

-- The job at another place is still there without this one.
other_stays : (js : List Job) (at k : ℕ) → k < length js → k ≢ at → Memᴰ (get_or js k no_job) (without js at)
other_stays [] at k h n = absurd (omega arith)
other_stays (j ∷ js) zero zero h n = absurd (n refl)
other_stays (j ∷ js) zero (suc k) h n = stands_in js k (omega arith)
other_stays (j ∷ js) (suc at) zero h n = Memᴰ.head refl
other_stays (j ∷ js) (suc at) (suc k) h n = Memᴰ.tail (other_stays js at k (omega arith) (λ e. n (ap suc e)))

-- A job of a list is the one at a place, or one of those without that place.
here_or_other : {i : Job} (js : List Job) (at : ℕ) → Memᴰ i js → (i ≡ get_or js at no_job) ⊎ Memᴰ i (without js at)
here_or_other [] at m = inr m
here_or_other (j ∷ js) zero m = Memᴰ.cases_cons m
here_or_other (j ∷ js) (suc at) m =
    ⊎_elim (λ e. inr (Memᴰ.head e)) (λ n. ⊎_elim (λ e. inl e) (λ o. inr (Memᴰ.tail o)) (here_or_other js at n)) (Memᴰ.cases_cons m)

-- ---- the same jobs

pub same_are_among : SameAreAmong
same_are_among [] js s i m = absurd (Memᴰ.not-nil m)
same_are_among (j ∷ q) js s i m =
    ⊎_elim (λ e. Memᴰ.cast (e ∙ sym s.2) (stands_in js s.0 s.1))
    (λ n. among_all js s.0 (same_are_among q (without js s.0) s.3 i n))
    (Memᴰ.cases_cons m)

-- Each of some jobs is one of the same jobs in another order.
among_same : (q js : List Job) → SameJobs q js → (i : Job) → Memᴰ i js → Memᴰ i q
among_same [] js s i m = rw s at m
among_same (j ∷ q) js s i m =
    ⊎_elim (λ e. Memᴰ.head (e ∙ s.2)) (λ n. Memᴰ.tail (among_same q (without js s.0) s.3 i n)) (here_or_other js s.0 m)

pub same_are_as_many : SameAreAsMany
same_are_as_many [] js s = ap length (sym s)
same_are_as_many (j ∷ q) js s =
    omega (arith, same_are_as_many q (without js s.0) s.3, without_is_one_less js s.0 s.1)

-- ---- a job put in

-- Without the last one, jobs with one more at their end are as before.
without_last : (js : List Job) (j : Job) → without (js ++ (j ∷ [])) (length js) ≡ js
without_last [] j = refl
without_last (i ∷ js) j = ap (◌∷◌ i) (without_last js j)

-- Taking out a job from the front part of a joined list is the same as taking it out before the parts are joined.
without_earlier : (js ks : List Job) (at : ℕ) → at < length js → without (js ++ ks) at ≡ without js at ++ ks
without_earlier [] ks at h = absurd (omega arith)
without_earlier (i ∷ js) ks zero h = refl
without_earlier (i ∷ js) ks (suc at) h = ap (◌∷◌ i) (without_earlier js ks at (omega arith))

-- Jobs with one put in front are the same jobs as those with it at their end.
put_in_front : (j : Job) (q js : List Job) → SameJobs q js → SameJobs (j ∷ q) (js ++ (j ∷ []))
put_in_front j q js s = (length js, omega (arith, length-append js (j ∷ [])), get_or-append_seam js j [] no_job, rw without_last s)

-- Jobs with one put in at any place are the same jobs as those with it at their end.
put_anywhere : (k : ℕ) (j : Job) (q js : List Job) → SameJobs q js → SameJobs (take k q ++ (j ∷ drop k q)) (js ++ (j ∷ []))
put_anywhere zero j q js s = put_in_front j q js s
put_anywhere (suc k) j [] js s = put_in_front j [] js s
put_anywhere (suc k) j (x ∷ q) js s = (
  s.0,
  omega (arith, length-append js (j ∷ []), s.1),
  get_or-append js (j ∷ []) no_job s.0 s.1 ∙ s.2,
  rw (without_earlier js (j ∷ []) s.0 s.1) (put_anywhere k j q (without js s.0) s.3),
)

-- The number of the last jobs that are all chosen after j.
abbrev behind_of : Job → List Job → ℕ
behind_of j q = behind j.due.0 j.serial.0 (dues_of q) (serials_of q)

pub put_keeps_jobs : PutKeepsJobs
put_keeps_jobs j q js s = put_anywhere (length q - behind_of j q) j q js s

-- What is at most n, with one more or not, is at most n + 1.
one_more_at_most : (b : Bool) (m n : ℕ) → m ≤ n → cond b (suc m) m ≤ suc n
one_more_at_most true m n h = omega arith
one_more_at_most false m n h = omega arith

-- At most all jobs are chosen after j.
behind_at_most : (j : Job) (q : List Job) → behind_of j q ≤ length q
unfolding behind
behind_at_most j [] = omega arith
behind_at_most j (x ∷ q) =
    one_more_at_most (eqb (behind_of j q) (length (dues_of q)) && due_before j.due.0 j.serial.0 x.due.0 x.serial.0)
    (behind_of j q) (length q) (behind_at_most j q)

-- Where every job goes after j, all of them are behind it.
all_behind : (j : Job) (q : List Job) → ((i : Job) → Memᴰ i q → goes_before j i ≡ true) → behind_of j q ≡ length q
unfolding behind goes_before
all_behind j [] h = refl
all_behind j (x ∷ q) h =
    rw (all_behind j q (λ i m. h i (Memᴰ.tail m)), eq-eqb (length q) (length (dues_of q)) (sym (length-map q _)), h x (Memᴰ.head refl))

-- Where the first job does not go after j, only later ones are behind it.
later_behind : (j x : Job) (q : List Job) → goes_before j x ≡ false → behind_of j (x ∷ q) ≡ behind_of j q
unfolding behind goes_before
later_behind j x q e = rw (e, and-false)

-- Where every job goes after j, it is put in front.
put_first : (j : Job) (q : List Job) → ((i : Job) → Memᴰ i q → goes_before j i ≡ true) → in_place j q ≡ j ∷ q
put_first j q h =
    let none : length q - behind_of j q ≡ 0 = omega (arith, all_behind j q h) in rw none

-- Where the first job does not go after j, then j is put in among the later ones.
put_later : (j x : Job) (q : List Job) → goes_before j x ≡ false → in_place j (x ∷ q) ≡ x ∷ in_place j q
put_later j x q e =
    let later : suc (length q) - behind_of j (x ∷ q) ≡ suc (length q - behind_of j q) = omega (arith, later_behind j x q e, behind_at_most j q) in rw later

-- A job of those with j put in at a place is j, or it was there before.
among_put : {i : Job} (k : ℕ) (j : Job) (q : List Job) → Memᴰ i (take k q ++ (j ∷ drop k q)) → (i ≡ j) ⊎ Memᴰ i q
among_put zero j q m = Memᴰ.cases_cons m
among_put (suc k) j [] m = Memᴰ.cases_cons m
among_put (suc k) j (x ∷ q) m =
    ⊎_elim (λ e. inr (Memᴰ.head e)) (λ n. ⊎_elim (λ e. inl e) (λ o. inr (Memᴰ.tail o)) (among_put k j q n)) (Memᴰ.cases_cons m)

-- A test passes or fails.
by_test : {G : Type 0} (b : Bool) → (b ≡ true → G) → (b ≡ false → G) → G
by_test true f g = f refl
by_test false f g = g refl

pub put_keeps_order : PutKeepsOrder
put_keeps_order j [] o n = rw (put_first j [] (λ i m. absurd (Memᴰ.not-nil m))) (λ i m. absurd (Memᴰ.not-nil m), tt)
put_keeps_order j (x ∷ q) o n =
    by_test (goes_before j x)
    (λ t.
    let all : (i : Job) → Memᴰ i (x ∷ q) → goes_before j i ≡ true =
    λ i m. ⊎_elim (λ e. rw e t) (λ l. before_third j x i t (o.0 i l)) (Memᴰ.cases_cons m) in
    rw (put_first j (x ∷ q) all) (all, o))
    (λ f.
    let first : goes_before x j ≡ true = before_from x j (other_before j x f (n x (Memᴰ.head refl))) in
    rw (put_later j x q f)
    (λ i m. ⊎_elim (λ e. rw e first) (o.0 i) (among_put (length q - behind_of j q) j q m), put_keeps_order j q o.1 (λ i m. n i (Memᴰ.tail m))))

-- ---- ticks on jobs in order

-- The first of jobs in order is the chosen one of the same jobs in any order.
first_is_at : (j : Job) (q js : List Job) → ((i : Job) → Memᴰ i q → goes_before j i ≡ true) → (s : SameJobs (j ∷ q) js) → first_place js ≡ s.0
first_is_at j q js o s = elim (ℕ_discrete (first_place js) s.0) [
  | yes e ↦ e
  | no n ↦
      let f = choice_is_first js (omega (arith, s.1)) in
      let not_after = rw s.2 at (f.first s.0 s.1) in
      let other = other_stays js s.0 (first_place js) f.inside n in
      let before = before_to j (first_of js) (o (first_of js) (among_same q (without js s.0) s.3 (first_of js) other)) in
      absurd (omega (arith, not_after.serial (omega arith), before.serial (omega arith)))
]

-- Work on a job changes neither its due time nor its serial, so it goes before the same jobs.
still_before : (n : ℕ) (j i : Job) → goes_before j i ≡ true → goes_before (worked_by n j) i ≡ true
unfolding goes_before
still_before n j i e = e

pub first_is_worked_on : FirstIsWorkedOn
unfolding worked_for
first_is_worked_on n clock [] js o s =
    rw (nothing_to_work_on n clock js (ap length s)) (record { clock = refl; answer = refl; jobs = s; in_order = tt })
first_is_worked_on zero clock (j ∷ q) js o s = record { clock = refl; answer = refl; jobs = s; in_order = o }
first_is_worked_on (suc n) clock (j ∷ q) js o s =
    let some : 1 ≤ length js = omega (arith, s.1) in
    let at : first_place js ≡ s.0 = first_is_at j q js o.0 s in
    let its : first_of js ≡ j = rw at s.2 in
    let worked = worked_by (suc n) j in
    elim (dec_lt (suc n) (units_to_go j.left)) [
      | yes l ↦
          rw (first_goes_on (suc n) clock js some (rw its l), its, at, ne_eqb (suc n) 0 (λ z. omega arith), lt-ltb (suc n) (units_to_go j.left) l) (record {
            clock = refl;
            answer = refl;
            jobs = (s.0, rw length-set s.1, get_or-set_same js s.0 worked no_job s.1, rw without-set s.3);
            in_order = (λ i m. still_before (suc n) j i (o.0 i m), o.1);
          })
      | no l ↦
          let enough : units_to_go j.left ≤ suc n = omega arith in
          rw (first_finishes (suc n) clock js some (rw its enough), its, at, ne_eqb (suc n) 0 (λ z. omega arith), le-ltb (suc n) (units_to_go j.left) enough)
          (record { clock = refl; answer = refl; jobs = s.3; in_order = o.1 })
    ]
