-- Each answer is given exactly when its rule says. The first test that fails settles a refusal, and past all tests the answer is the row's due time.
use Prim.Native.Nat.{ℕ, ◌+◌, ◌*◌, ◌≤◌, ◌<◌}
use mathlib.Core.Path.{◌≡◌, sym, ap, ◌∙◌}
use mathlib.Core.Logic.{◌↔◌}
use mathlib.Core.Bool.{true, false}
use lib.Dec.{leb}
use lib.ListN.{get_or}
use borrow.Author.Tests.{lt-ltb, le-ltb}
use Rattle.std.specs.Prelude.{Ok, Err}
use Rattle.std.specs.Bool.{then_some}
use Rattle.kinds.specs.Numbering.{max_time}
use Rattle.kinds.specs.declared.Tick.{Tick}
use Rattle.kinds.specs.declared.Refusal.TheVariants.{ValueOutOfRange, NoSuchRow, RunNotSound, DueTooLate}
use Rattle.kinds.proofs.Apart.{impossible}
use Rattle.theory.proofs.Cases.{by_lt, by_test}
use Rattle.table.specs.declared.Row.{Row}
use Rattle.table.specs.Limits.{max_rows}
use Rattle.table.specs.Rows.{row_in_range}
use Rattle.due.specs.Kept.{max_kept, not_too_late, due_of}
use Rattle.due.specs.Answers.{due_says}
use Rattle.due.specs.KeptTimes.{GivenDue}
use Rattle.due.proofs.Keeping.{rule_due}
use Rattle.due.proofs.NewestKept.{by_answer, due_given, due_too_late, due_out_of_range}
use Rattle.due.proofs.Answers.{dues_said_apart}
use Rattle.due.proofs.DueAnswers.{by_what_it_says}
use Rattle.rings.specs.declared.Rings.{Rings}
use Rattle.rings.specs.Rings.{many_of, oldest_of, kept_in, ring_fits, due_in}
use Rattle.rings.specs.OneRing.{place_in, due_after}
use Rattle.rings.specs.RingShapes.{Ready}
use Rattle.rings.specs.RingLaws.{DueByTheRing, NoSuchRowMeans, RowOutOfRangeMeans, NotTheRowsMeans, RingTooLateMeans, RingGivenMeans}
use Rattle.rings.proofs.Keeping.{due_by_ring}

pub due_by_the_ring : DueByTheRing
unfolding due_in
due_by_the_ring g number r t cost ready = rw (lt-ltb number max_rows ready.in_use, ready.in_range, ready.fits)

module _ (g : Rings) (number : ℕ) (r : Row) (t cost : ℕ) where
  -- A row number that no table can have is refusal 6.
  pub no_such_row : max_rows ≤ number → due_in g number r t cost ≡ Err NoSuchRow
  unfolding due_in
  no_such_row h = rw (le-ltb number max_rows h)

  module _ (in_use : number < max_rows) where
    -- A row out of range is refusal 3.
    pub row_out_of_range : row_in_range r ≡ false → due_in g number r t cost ≡ Err ValueOutOfRange
    unfolding due_in
    row_out_of_range out = rw (lt-ltb number max_rows in_use, out)

    -- Where the row is ready, the answer goes by the due time that stands at the place for the next one, once x are kept.
    pub answer_by_place : row_in_range r ≡ true → ring_fits g number r ≡ true → (p : ℕ) → p ≡ place_in (many_of g number) (oldest_of g number) r.x
        → not_too_late (due_after t r.d r.y (then_some (leb r.x (many_of g number)) (get_or g.times (number * max_kept + p) 0)))
        ≡ due_in g number r t cost
    unfolding due_of
    answer_by_place fine fits p place =
        let ready : Ready g number r = record { in_use = in_use; in_range = fine; fits = fits } in
        rw place (sym (due_by_the_ring g number r t cost ready ∙ rw fine (ap not_too_late (due_by_ring ready t))))

    -- A ring that can't be the row's is refusal 11.
    pub not_the_rows : row_in_range r ≡ true → ring_fits g number r ≡ false → due_in g number r t cost ≡ Err RunNotSound
    unfolding due_in
    not_the_rows fine other = rw (lt-ltb number max_rows in_use, fine, other)

  -- Every answer falls under one of four cases: refusal 6, 3 or 11, or a row that is ready.
  by_case : {G : Type 0}
      → (max_rows ≤ number → due_in g number r t cost ≡ Err NoSuchRow → G)
      → (number < max_rows → row_in_range r ≡ false → due_in g number r t cost ≡ Err ValueOutOfRange → G)
      → (number < max_rows → row_in_range r ≡ true → ring_fits g number r ≡ false → due_in g number r t cost ≡ Err RunNotSound → G)
      → (Ready g number r → due_in g number r t cost ≡ due_of (kept_in g number) r t cost → G) → G
  by_case none out other ready = by_lt number max_rows
      (λ in_use. by_test (row_in_range r)
      (λ fine. by_test (ring_fits g number r)
      (λ fits. let all : Ready g number r = record { in_use = in_use; in_range = fine; fits = fits } in ready all (due_by_the_ring g number r t cost all))
      (λ no. other in_use fine no (not_the_rows in_use fine no)))
      (λ no. out in_use no (row_out_of_range in_use no)))
      (λ above. none above (no_such_row above))

  -- The answer is refusal 6 exactly when the row number is the limit of rows or more.
  due_no_row : (due_in g number r t cost ≡ Err NoSuchRow) ↔ (max_rows ≤ number)
  due_no_row = (
    λ e. by_case
        (λ h a. h)
        (λ h out a. impossible cc)
        (λ h fine no a. impossible cc)
        (λ ready a. by_answer (kept_in g number) r t cost (λ fine h b. impossible cc) (λ fine h b. impossible cc) (λ out b. impossible cc)),
    no_such_row,
  )

  -- The answer is refusal 3 exactly when the row is out of range.
  due_out : (due_in g number r t cost ≡ Err ValueOutOfRange) ↔ ((number < max_rows) × (row_in_range r ≡ false))
  due_out = (
    λ e. by_case
        (λ h a. impossible cc)
        (λ h out a. (h, out))
        (λ h fine no a. impossible cc)
        (λ ready a. (ready.in_use, (due_out_of_range (kept_in g number) r t cost).0 (sym a ∙ e))),
    λ p. row_out_of_range p.0 p.1,
  )

  -- The answer is refusal 11 exactly when the ring can't be the row's.
  due_not_the_rows : (due_in g number r t cost ≡ Err RunNotSound)
      ↔ ((number < max_rows) × (row_in_range r ≡ true) × (ring_fits g number r ≡ false))
  due_not_the_rows = (
    λ e. by_case
        (λ h a. impossible cc)
        (λ h out a. impossible cc)
        (λ h fine no a. (h, fine, no))
        (λ ready a. by_answer (kept_in g number) r t cost (λ fine h b. impossible cc) (λ fine h b. impossible cc) (λ out b. impossible cc)),
    λ p. not_the_rows p.0 p.1 p.2,
  )

  -- The answer is refusal 9 exactly when the due time by the due times in the ring is above 2^40.
  pub due_late : (due_in g number r t cost ≡ Err DueTooLate) ↔ (Ready g number r × (max_time < rule_due (kept_in g number) r t))
  due_late = (
    λ e. by_case
        (λ h a. impossible cc)
        (λ h out a. impossible cc)
        (λ h fine no a. impossible cc)
        (λ ready a. (ready, ((due_too_late (kept_in g number) r t cost).0 (sym a ∙ e)).1)),
    λ p. due_by_the_ring g number r t cost p.0 ∙ (due_too_late (kept_in g number) r t cost).1 (p.0.in_range, p.1),
  )

  -- The answer is a due time exactly when it is the one by the due times in the ring.
  pub due_at : (v : Tick) → (due_in g number r t cost ≡ Ok v) ↔ (Ready g number r × GivenDue (kept_in g number) r t v.0)
  due_at v = (
    λ e. by_case
        (λ h a. impossible cc)
        (λ h out a. impossible cc)
        (λ h fine no a. impossible cc)
        (λ ready a. (ready, (due_given (kept_in g number) r t cost v).0 (sym a ∙ e))),
    λ p. due_by_the_ring g number r t cost p.0 ∙ (due_given (kept_in g number) r t cost v).1 p.1,
  )

pub no_such_row_means : NoSuchRowMeans
no_such_row_means g number r t cost =
    by_what_it_says due_says dues_said_apart.0 (due_in g number r t cost) (Err NoSuchRow) (due_no_row g number r t cost)

pub row_out_of_range_means : RowOutOfRangeMeans
row_out_of_range_means g number r t cost =
    by_what_it_says due_says dues_said_apart.0 (due_in g number r t cost) (Err ValueOutOfRange) (due_out g number r t cost)

pub not_the_rows_means : NotTheRowsMeans
not_the_rows_means g number r t cost =
    by_what_it_says due_says dues_said_apart.0 (due_in g number r t cost) (Err RunNotSound) (due_not_the_rows g number r t cost)

pub ring_too_late_means : RingTooLateMeans
ring_too_late_means g number r t cost =
    by_what_it_says due_says dues_said_apart.0 (due_in g number r t cost) (Err DueTooLate) (due_late g number r t cost)

pub ring_given_means : RingGivenMeans
ring_given_means g number r t cost v =
    by_what_it_says due_says dues_said_apart.0 (due_in g number r t cost) (Ok (record { 0 = v })) (due_at g number r t cost (record { 0 = v }))
