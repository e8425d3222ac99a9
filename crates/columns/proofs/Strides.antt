-- Ticks on pending jobs: the chosen job gets all of them until it finishes. (docs/RULES.md, 6.10 to 6.13.)
use Prim.Native.Nat.{ℕ, zero, suc, ◌+◌, ◌-◌, ◌≤◌, ◌<◌}
use mathlib.Core.Path.{◌≡◌, refl, sym, ap, ◌∙◌}
use mathlib.Core.Bool.{true, false}
use mathlib.Core.List.{List, [], ◌∷◌}
use native.Mathlib.Decide.{dec_le}
use native.Mathlib.Omega.{arith}
use lib.ListN.{length, get_or, set, length-set}
use lib.Seq.{set-get_or, set-set, get_or-set_same, map-set_same}
use borrow.Author.Tests.{le-leb, lt-leb, eq-eqb, ne_eqb}
use Rattle.kinds.proofs.Apart.{impossible}
use Rattle.kinds.specs.declared.Finish.{Finish}
use Rattle.jobs.specs.declared.Job.{Job}
use Rattle.jobs.specs.Places.{no_job, without}
use Rattle.jobs.specs.Choice.{first_place}
use Rattle.jobs.specs.Units.{last_unit, worked}
use Rattle.jobs.specs.Turns.{finish_at}
use Rattle.jobs.proofs.Changes.{choice_is_first, without_is_one_less}
use Rattle.columns.specs.Ticks.{nobody_at, finished_at, first_of, after_tick, worked_for, units_to_go, worked_by}
use Rattle.columns.specs.ColumnLaws.{FinishedMeans, FinishedStays, FirstFinishes, FirstGoesOn, InTwoParts, NoMoreThanItsUnits, NobodyMeans, NothingToWorkOn, TickFinishes, TickGoesOn}
use Rattle.columns.proofs.Order.{first_alike}

-- ---- one tick

pub nothing_to_work_on : NothingToWorkOn
unfolding worked_for
nothing_to_work_on zero clock js h = refl
nothing_to_work_on (suc n) clock js h = rw (eq-eqb (length js) 0 h)

pub tick_finishes : TickFinishes
unfolding worked_for
tick_finishes n clock js h e = rw (ne_eqb (length js) 0 (λ z. omega arith), e)

pub tick_goes_on : TickGoesOn
unfolding worked_for
tick_goes_on n clock js h e = rw (ne_eqb (length js) 0 (λ z. omega arith), e)

-- ---- the chosen job gets all ticks

-- After a job has had a unit, the same job is chosen as before.
still_first : (js : List Job) (at : ℕ) → first_place (set js at (worked (get_or js at no_job))) ≡ first_place js
still_first js at =
    let j = worked (get_or js at no_job) in
    first_alike (set js at j) js (map-set_same (λ (i : Job). i.due.0) js at j no_job refl) (map-set_same (λ (i : Job). i.serial.0) js at j no_job refl)

-- Taking out the entry at a place gives the same list, whatever that entry was set to before.
pub without-set : {A : Type 0} (l : List A) (at : ℕ) (a : A) → without (set l at a) at ≡ without l at
without-set [] at a = refl
without-set (b ∷ l) zero a = refl
without-set (b ∷ l) (suc at) a = ap (◌∷◌ b) (without-set l at a)

-- A job with at least one unit left gets as many units as it has left.
pub to_go_all : (left : ℕ) → 1 ≤ left → units_to_go left ≡ left
to_go_all left h = elim (dec_le left 1) [
  | yes k ↦ rw (le-leb left 1 k) (omega arith)
  | no k ↦ rw (lt-leb left 1 (omega arith))
]

-- A job with at most one unit left gets one unit before it finishes.
to_go_one : (left : ℕ) → left ≤ 1 → units_to_go left ≡ 1
to_go_one left h = rw (le-leb left 1 h)

-- A job gets at least one unit before it finishes. A job that gets more than one has more than one left.
pub to_go_some : (left : ℕ) → (1 ≤ units_to_go left) × (1 < units_to_go left → 1 < left)
to_go_some left = elim (dec_le left 1) [
  | yes k ↦ (omega (arith, to_go_one left k), λ l. absurd (omega (arith, to_go_one left k)))
  | no k ↦ (omega (arith, to_go_all left (omega arith)), λ l. omega arith)
]

-- The job j stands at a place, and is the chosen one of these jobs.
record First (js : List Job) (at : ℕ) (j : Job) : Type 0 where
  here : get_or js at no_job ≡ j
  first : first_place js ≡ at
  inside : at < length js

first_is_there : (js : List Job) → 1 ≤ length js → First js (first_place js) (first_of js)
first_is_there js h = record { here = refl; first = refl; inside = (choice_is_first js h).inside }

module _ (js : List Job) (at : ℕ) (j : Job) (f : First js at j) where
  some : 1 ≤ length js
  some = omega (arith, f.inside)

  its_job : first_of js ≡ j
  its_job = rw f.first f.here

  module _ (more : 1 < j.left) where
    -- A chosen job is chosen again after a unit that is not its last.
    first_after : First (set js at (worked j)) at (worked j)
    first_after = record {
      here = get_or-set_same js at (worked j) no_job f.inside;
      first = rw f.here at (still_first js at) ∙ f.first;
      inside = rw length-set f.inside;
    }

    one_tick : (n clock : ℕ) → worked_for (suc n) clock js ≡ worked_for n (clock + 1) (set js at (worked j))
    one_tick n clock = tick_goes_on n clock js some (rw its_job (lt-leb j.left 1 more)) ∙ rw (f.first, f.here, lt-leb j.left 1 more)

  last_tick : j.left ≤ 1 → (n clock : ℕ) → worked_for (suc n) clock js ≡ finished_at (clock + 1) j (without js at)
  last_tick h n clock = tick_finishes n clock js some (rw its_job (le-leb j.left 1 h)) ∙ rw (f.first, f.here, le-leb j.left 1 h)

-- The chosen job gets all n ticks where they are too few for it to finish.
goes_on : (n clock : ℕ) (js : List Job) (at : ℕ) (j : Job) → First js at j → n < units_to_go j.left
    → worked_for n clock js ≡ nobody_at (clock + n) (set js at (worked_by n j))
unfolding worked_for
goes_on zero clock js at j f h =
    let same : set js at j ≡ js = rw f.here at (set-get_or js at no_job) in
    let now : clock + 0 ≡ clock = omega arith in
    let none : j.left - 0 ≡ j.left = omega arith in
    rw (now, none, same)
goes_on (suc n) clock js at j f h =
    let more : 1 < j.left = (to_go_some j.left).1 (omega arith) in
    let fewer : n < units_to_go (j.left - 1) = omega (arith, to_go_all j.left (omega arith), to_go_all (j.left - 1) (omega arith)) in
    let later : (clock + 1) + n ≡ clock + suc n = omega arith in
    let less : (j.left - 1) - n ≡ j.left - suc n = omega arith in
    one_tick js at j f more n clock ∙ goes_on n (clock + 1) (set js at (worked j)) at (worked j) (first_after js at j f more) fewer
    ∙ rw (set-set, later, less)

-- The chosen job finishes where there are as many ticks as it needs.
finishes : (n clock : ℕ) (js : List Job) (at : ℕ) (j : Job) → First js at j → units_to_go j.left ≤ n
    → worked_for n clock js ≡ finished_at (clock + units_to_go j.left) j (without js at)
finishes zero clock js at j f h = absurd (omega (arith, (to_go_some j.left).0))
finishes (suc n) clock js at j f h = elim (dec_le j.left 1) [
  | yes k ↦ last_tick js at j f k n clock ∙ rw (to_go_one j.left k)
  | no k ↦
      let more : 1 < j.left = omega arith in
      let all : units_to_go j.left ≡ j.left = to_go_all j.left (omega arith) in
      let others : units_to_go (j.left - 1) ≡ j.left - 1 = to_go_all (j.left - 1) (omega arith) in
      let end : (clock + 1) + units_to_go (j.left - 1) ≡ clock + units_to_go j.left = omega arith in
      one_tick js at j f more n clock ∙ finishes n (clock + 1) (set js at (worked j)) at (worked j) (first_after js at j f more) (omega arith)
      ∙ rw (without-set, end)
]

pub first_goes_on : FirstGoesOn
first_goes_on n clock js h l = goes_on n clock js (first_place js) (first_of js) (first_is_there js h) l

pub first_finishes : FirstFinishes
first_finishes n clock js h l = finishes n clock js (first_place js) (first_of js) (first_is_there js h) l

-- ---- many ticks

-- There are three cases: nothing is pending, there are too few ticks for the chosen job to finish, or there are enough.
by_ticks : {G : Type 0} (n : ℕ) (js : List Job) → (length js ≡ 0 → G) → (1 ≤ length js → n < units_to_go (first_of js).left → G)
    → (1 ≤ length js → units_to_go (first_of js).left ≤ n → G) → G
by_ticks n js nothing few enough = elim (dec_le 1 (length js)) [
  | no k ↦ nothing (omega arith)
  | yes k ↦ elim (dec_le (units_to_go (first_of js).left) n) [
    | yes l ↦ enough k l
    | no l ↦ few k (omega arith)
  ]
]

-- The next unit of a job is its last or it is not.
by_unit : {G : Type 0} (j : Job) → (last_unit j ≡ true → G) → (last_unit j ≡ false → G) → G
by_unit j last more = elim (dec_le j.left 1) [
  | yes k ↦ last (le-leb j.left 1 k)
  | no k ↦ more (lt-leb j.left 1 (omega arith))
]

pub no_more_than_its_units : NoMoreThanItsUnits
no_more_than_its_units n clock js =
    by_ticks n js
    (λ none. rw (nothing_to_work_on n clock js none) (omega arith))
    (λ some few. rw (first_goes_on n clock js some few, length-set) (omega arith))
    (λ some enough.
    rw (first_finishes n clock js some enough) (omega (arith, without_is_one_less js (first_place js) (choice_is_first js some).inside)))

pub in_two_parts : InTwoParts
unfolding worked_for
in_two_parts zero m clock js e = let same : 0 + m ≡ m = omega arith in rw same
in_two_parts (suc n) m clock js e =
    let next : suc n + m ≡ suc (n + m) = omega arith in
    elim (dec_le 1 (length js)) [
      | no k ↦
          let none : length js ≡ 0 = omega arith in
          rw (nothing_to_work_on (suc n) clock js none, nothing_to_work_on (suc n + m) clock js none, nothing_to_work_on m clock js none)
      | yes k ↦
          by_unit (first_of js)
          (λ last. let z = rw (tick_finishes n clock js k last) at e in impossible cc)
          (λ more.
          rw (next, tick_goes_on (n + m) clock js k more, tick_goes_on n clock js k more)
          (in_two_parts n m (clock + 1) (after_tick js) (rw (tick_goes_on n clock js k more) at e)))
    ]

pub finished_stays : FinishedStays
finished_stays n m clock js f e =
    by_ticks n js
    (λ none. let z = rw (nothing_to_work_on n clock js none) at e in impossible cc)
    (λ some few. let z = rw (first_goes_on n clock js some few) at e in impossible cc)
    (λ some enough. first_finishes (n + m) clock js some (omega arith) ∙ sym (first_finishes n clock js some enough))

pub nobody_means : NobodyMeans
nobody_means n clock js e =
    by_ticks n js
    (λ none. rw (nothing_to_work_on n clock js none) (record { as_many = refl; by_n = λ some. absurd (omega arith) }))
    (λ some few. rw (first_goes_on n clock js some few) (record { as_many = length-set js _ _; by_n = λ h. refl }))
    (λ some enough. let z = rw (first_finishes n clock js some enough) at e in impossible cc)

pub finished_means : FinishedMeans
finished_means n clock js f e =
    by_ticks n js
    (λ none. let z = rw (nothing_to_work_on n clock js none) at e in impossible cc)
    (λ some few. let z = rw (first_goes_on n clock js some few) at e in impossible cc)
    (λ some enough.
    let z = rw (first_finishes n clock js some enough) at e in
    let units = units_to_go (first_of js).left in
    let its : finish_at (clock + units) (first_of js) ≡ f = cc in
    rw (first_finishes n clock js some enough) (record {
      one_less = without_is_one_less js (first_place js) (choice_is_first js some).inside;
      now = ap (λ (g : Finish). g.finish.0) (sym its);
      later = omega (arith, (to_go_some (first_of js).left).0);
      in_time = omega arith;
    }))
