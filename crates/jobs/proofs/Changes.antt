-- The laws of pending jobs. That the choice goes first is proved along the jobs, with the best so far. What each change does to the jobs follows from the laws
-- of places, and what it does to their serials from what holds for any two of them. (docs/RULES.md, section 6.)
use Rattle.std.specs.Prelude.{Some}
use Prim.Native.Nat.{ℕ, zero, suc, ◌≤◌, ◌<◌}
use mathlib.Core.Path.{◌≡◌, refl, sym, ap, ◌∙◌}
use mathlib.Core.List.{List, [], ◌∷◌, ◌++◌, append-nil}
use mathlib.Core.Bool.{Bool, true, false, cond}
use native.Mathlib.Nat.{not-suc-le-zero, le_of_suc-le-suc}
use native.Mathlib.Numerals.{add-one}
use native.Mathlib.Decide.{dec_lt}
use native.Mathlib.Omega.{arith}
use lib.Dec.{ltb}
use borrow.Author.Tests.{lt-ltb, le-ltb}
use lib.ListN.{length, set, get_or, length-append, length-take, length-set, length-replicate, get_or-append}
use lib.Seq.{append_snoc, split_at, get_or-append_seam, get_or-take, take-suc-set}
use Rattle.kinds.proofs.Apart.{impossible}
use Rattle.jobs.specs.declared.Job.{Job}
use Rattle.jobs.specs.declared.Pending.{Pending}
use Rattle.jobs.specs.Places.{max_places, no_job, jobs_of, used, without, put, taken_out}
use Rattle.jobs.specs.Choice.{goes_before, first_from}
use Rattle.jobs.specs.Units.{last_unit, worked, after}
use Rattle.jobs.specs.PlaceLaws.{AfterAUnit, AfterKeepsForm, ChoiceIsFirst, EmptyIsWellFormed, FirstIsThere, JobAmongTheRest, ManyPlaces, NothingPending, PlaceHoldsJob, PutAddsOne, PutKeepsForm, TakenOutIsWithout, TakenOutKeepsForm, WithoutIsOneLess}
use Rattle.jobs.specs.SerialLaws.{AfterKeepsSerials, DistinctMeans, FoundMeans, NobodyFoundMeans, PutKeepsSerials, RisingIsDistinct, TakenOutKeepsSerials}
use Rattle.jobs.specs.JobChanges.{NotAfter, IsFirst, WellFormed, KeepsSerials}
use Rattle.jobs.proofs.Places.{length-without, nothing_taken_out, jobs_taken_out, count-taken_out, places-taken_out, jobs_set}
use Rattle.jobs.proofs.Serials.{AnyTwo, Differ, distinct_to, distinct_from, rising_to, rising_from, rising_distinct, one_more, AnyTwo-without, two_more, AnyTwo-set}
use Rattle.jobs.proofs.Serials.{by_place, one_first}

-- ---- the choice

-- No job comes after itself.
not_after_itself : (a : Job) → NotAfter a a
not_after_itself a = record { due = omega arith; serial = λ e. omega arith }

-- If a does not come after b, and b does not come after c, then a does not come after c.
not_after_third : (a b c : Job) → NotAfter a b → NotAfter b c → NotAfter a c
not_after_third a b c p q =
    record { due = omega arith; serial = λ e. omega (arith, p.serial (omega arith), q.serial (omega arith)) }

-- A job with an earlier due time goes before another, one with a later due time does not, and among equal due times the serials decide.
module _ (a b : Job) where
  earlier_first : a.due.0 < b.due.0 → goes_before a b ≡ true
  unfolding goes_before
  earlier_first h = simp (lt-ltb a.due.0 b.due.0 h)

  later_last : b.due.0 < a.due.0 → goes_before a b ≡ false
  unfolding goes_before
  later_last h = simp (le-ltb a.due.0 b.due.0 (omega arith), lt-ltb b.due.0 a.due.0 h)

  serials_decide : a.due.0 ≡ b.due.0 → goes_before a b ≡ ltb a.serial.0 b.serial.0
  unfolding goes_before
  serials_decide e = simp (le-ltb a.due.0 b.due.0 (omega arith), le-ltb b.due.0 a.due.0 (omega arith))

  -- The one of two jobs that goes before does not come after the other.
  by_order : (P : Bool → Type 0) → (NotAfter a b → P true) → (NotAfter b a → P false) → P (goes_before a b)
  by_order P f g = elim (dec_lt a.due.0 b.due.0) [
    | yes h ↦ rw (earlier_first h) (f (record { due = omega arith; serial = λ e. omega arith }))
    | no h ↦ elim (dec_lt b.due.0 a.due.0) [
      | yes k ↦ rw (later_last k) (g (record { due = omega arith; serial = λ e. omega arith }))
      | no k ↦ rw (serials_decide (omega arith)) (elim (dec_lt a.serial.0 b.serial.0) [
        | yes l ↦ rw (lt-ltb a.serial.0 b.serial.0 l) (f (record { due = omega arith; serial = λ e. omega arith }))
        | no l ↦ rw (le-ltb a.serial.0 b.serial.0 (omega arith)) (g (record { due = omega arith; serial = λ e. omega arith }))
      ])
    ]
  ]

-- `best` stands at the place `at`, and it comes after none of the jobs.
record Best (js : List Job) (at : ℕ) (best : Job) : Type 0 where
  inside : at < length js
  here : get_or js at no_job ≡ best
  first : (i : ℕ) → i < length js → NotAfter best (get_or js i no_job)

-- With one more job, that one is the best, or the best so far still is.
module _ (front : List Job) (at : ℕ) (best j : Job) (b : Best front at best) where
  new_best : NotAfter j best → Best (front ++ (j ∷ [])) (length front) j
  new_best n = record {
    inside = simp length-append (omega arith);
    here = get_or-append_seam front j [] no_job;
    first = one_more (NotAfter j) front j (λ i h. not_after_third j best (get_or front i no_job) n (b.first i h)) (not_after_itself j);
  }

  same_best : NotAfter best j → Best (front ++ (j ∷ [])) at best
  same_best n = record {
    inside = simp length-append (omega (arith, b.inside));
    here = get_or-append front (j ∷ []) no_job at b.inside ∙ b.here;
    first = one_more (NotAfter best) front j b.first n;
  }

-- Given the best of the jobs in front, the search finds the job that goes first among all.
search_finds : (front js : List Job) (at : ℕ) (best : Job) → Best front at best → IsFirst (front ++ js) (first_from (length front) at best js)
search_finds front [] at best b = rw append-nil (record { inside = b.inside; first = rw b.here b.first })
search_finds front (j ∷ js) at best b =
    let further = search_finds (front ++ (j ∷ [])) js in
    let i = length front in
    by_order j best (λ t. IsFirst (front ++ (j ∷ js)) (cond t (first_from (suc i) i j js) (first_from (suc i) at best js)))
    (λ n. simp (length-append, append_snoc, add-one) at (further i j (new_best front at best j b n)))
    (λ n. simp (length-append, append_snoc, add-one) at (further at best (same_best front at best j b n)))

pub choice_is_first : ChoiceIsFirst
choice_is_first [] h = absurd (not-suc-le-zero h)
choice_is_first (j ∷ js) h =
    let alone = one_more (NotAfter j) [] j (λ i l. absurd (not-suc-le-zero l)) (not_after_itself j) in
    search_finds (j ∷ []) js 0 j (record { inside = omega arith; here = refl; first = alone })

-- ---- jobs and their places

pub job_among_the_rest : JobAmongTheRest
job_among_the_rest js i h = rw add-one (split_at js i no_job h)

pub without_is_one_less : WithoutIsOneLess
without_is_one_less = length-without

-- Leaving out a place past the end changes nothing.
without_nothing : (js : List Job) (i : ℕ) → length js ≤ i → without js i ≡ js
without_nothing [] i h = refl
without_nothing (j ∷ js) zero h = absurd (not-suc-le-zero h)
without_nothing (j ∷ js) (suc i) h = ap (◌∷◌ j) (without_nothing js i (le_of_suc-le-suc h))

pub place_holds_job : PlaceHoldsJob
place_holds_job p i h = sym (get_or-take p.count p.places i no_job (omega (arith, length-take p.count p.places)))

pub first_is_there : FirstIsThere
first_is_there p h = (choice_is_first (jobs_of p) h).inside

-- ---- what each change does to the jobs

pub put_adds_one : PutAddsOne
unfolding put
put_adds_one p j w h = rw (lt-ltb p.count max_places h, add-one) (take-suc-set p.places p.count j (omega (arith, w.all_places)))

pub taken_out_is_without : TakenOutIsWithout
taken_out_is_without p at = elim (dec_lt at (used p)) [
  | yes h ↦ jobs_taken_out p at h
  | no h ↦ rw (← nothing_taken_out p at (omega arith)) (sym (without_nothing (jobs_of p) at (omega arith)))
]

-- If the unit was the last, the job is left out, and otherwise it is replaced.
after_either : (p : Pending) (at : ℕ) (j : Job) → at < used p → (last : Bool)
    → jobs_of (cond last (taken_out p at) (record { places = set p.places at j; count = used p }))
    ≡ cond last (without (jobs_of p) at) (set (jobs_of p) at j)
after_either p at j h true = taken_out_is_without p at
after_either p at j h false = jobs_set p at j h

pub after_a_unit : AfterAUnit
unfolding after
after_a_unit p at h =
    let j = get_or (jobs_of p) at no_job in
    rw (place_holds_job p at h) (after_either p at (worked j) h (last_unit j))

-- What holds for both of two values holds for the one that a test picks.
pub either : {A : Type 0} (P : A → Type 0) (b : Bool) (x y : A) → P x → P y → P (cond b x y)
either P true x y f g = f
either P false x y f g = g

pub empty_is_well_formed : EmptyIsWellFormed
empty_is_well_formed = record { all_places = length-replicate max_places no_job; in_places = omega arith }

pub many_places : ManyPlaces
many_places = length-replicate max_places no_job

pub nothing_pending : NothingPending
nothing_pending = refl

pub put_keeps_form : PutKeepsForm
unfolding put
put_keeps_form p j w = elim (dec_lt p.count max_places) [
  | yes h ↦ rw (lt-ltb p.count max_places h) (record { all_places = simp length-set w.all_places; in_places = omega arith })
  | no h ↦ rw (le-ltb p.count max_places (omega arith)) w
]

pub taken_out_keeps_form : TakenOutKeepsForm
taken_out_keeps_form p at w = elim (dec_lt at (used p)) [
  | yes h ↦ record {
    all_places = places-taken_out p at h ∙ w.all_places;
    in_places = omega (arith, count-taken_out p at h, length-take p.count p.places, w.in_places);
  }
  | no h ↦ rw (← nothing_taken_out p at (omega arith)) w
]

pub after_keeps_form : AfterKeepsForm
unfolding after
after_keeps_form p at w =
    either WellFormed (last_unit (get_or p.places at no_job)) _ _ (taken_out_keeps_form p at w)
    (record { all_places = simp length-set w.all_places; in_places = omega (arith, length-take p.count p.places, w.in_places) })

-- ---- what the test of serials and the search for one mean

pub distinct_means : DistinctMeans
distinct_means js = (distinct_to js, distinct_from js)

pub rising_is_distinct : RisingIsDistinct
rising_is_distinct = rising_distinct

pub found_means : FoundMeans
found_means s at js = (
  λ e. by_place s js (λ p w f. let same : p ≡ at = cc in rw same at w) (λ w f. impossible cc),
  λ v. by_place s js (λ p w f. f ∙ ap Some (one_first s js p at w v)) (λ w f. absurd (w at v.0 v.1)),
)

pub nobody_found_means : NobodyFoundMeans
nobody_found_means s js =
    (λ e. by_place s js (λ p w f. impossible cc) (λ w f. w), λ v. by_place s js (λ p w f. absurd (v p w.0 w.1)) (λ w f. f))

-- ---- what each change does to the serials

pub put_keeps_serials : PutKeepsSerials
unfolding put
put_keeps_serials p j w above = elim (dec_lt p.count max_places) [
  | yes h ↦
      let js = jobs_of p in
      rw (put_adds_one p j w h) (record {
        rising = λ e. rising_from (js ++ (j ∷ [])) (two_more ◌<◌ js j (rising_to js e) above);
        distinct = λ e. distinct_from (js ++ (j ∷ [])) (two_more Differ js j (distinct_to js e) (λ i l q. omega (arith, above i l)));
      })
  | no h ↦ rw (le-ltb p.count max_places (omega arith)) (record { rising = λ e. e; distinct = λ e. e })
]

-- A change that keeps every relation between any two serials keeps them rising and distinct.
keeps : (js next : List Job) → ((R : ℕ → ℕ → Type 0) → AnyTwo R js → AnyTwo R next) → KeepsSerials js next
keeps js next f =
    record { rising = λ e. rising_from next (f ◌<◌ (rising_to js e)); distinct = λ e. distinct_from next (f Differ (distinct_to js e)) }

-- Leaving out a job keeps the serials rising and distinct.
without_keeps : (js : List Job) (at : ℕ) → KeepsSerials js (without js at)
without_keeps js at = keeps js (without js at) (λ R. AnyTwo-without R js at)

pub taken_out_keeps_serials : TakenOutKeepsSerials
taken_out_keeps_serials p at = rw taken_out_is_without (without_keeps (jobs_of p) at)

pub after_keeps_serials : AfterKeepsSerials
after_keeps_serials p at h =
    let js = jobs_of p in
    let j = worked (get_or js at no_job) in
    rw (after_a_unit p at h)
    (either (KeepsSerials js) (last_unit (get_or js at no_job)) (without js at) (set js at j) (without_keeps js at)
    (keeps js (set js at j) (λ R. AnyTwo-set R js at j refl)))
