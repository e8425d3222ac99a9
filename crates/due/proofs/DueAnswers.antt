-- Each answer about due times says what it says exactly when its rule holds. (docs/RULES.md, section 4.)
use mathlib.Core.Path.{◌≡◌, refl, ap}
use mathlib.Core.Bool.{Bool, true, false}
use mathlib.Core.Logic.{◌↔◌}
use Rattle.std.specs.Prelude.{Ok, Err}
use Rattle.kinds.specs.Numbering.{Says, SaysApart}
use Rattle.kinds.specs.declared.Refusal.TheVariants.{ValueOutOfRange, DueTooLate}
use Rattle.kinds.proofs.Apart.{impossible}
use Rattle.table.specs.declared.Row.{Row}
use Rattle.table.specs.Rows.{row_in_range}
use Rattle.due.specs.Kept.{due_of, keep_answer}
use Rattle.due.specs.Answers.{due_says, keep_says}
use Rattle.due.specs.DueLaws.{GivenMeans, TooLateMeans, OutOfRangeMeans, KeptMeans, NotKeptMeans, NotKeptStays}
use Rattle.due.proofs.Keeping.{keeps_all}
use Rattle.due.proofs.NewestKept.{due_given, due_too_late, due_out_of_range}
use Rattle.due.proofs.Answers.{dues_said_apart}

-- If different answers say different things, then whatever means that an answer is b also means that it says what b says.
module _ {A : Type 0} (says : A → Says) (apart : SaysApart says) where
  pub by_what_it_says : (a b : A) {P : Type 0} → ((a ≡ b) ↔ P) → ((says a ≡ says b) ↔ P)
  by_what_it_says a b means = (λ e. means.0 (apart a b e), λ p. ap says (means.1 p))

pub given_means : GivenMeans
given_means k r t cost v =
    by_what_it_says due_says dues_said_apart.0 (due_of k r t cost) (Ok (record { 0 = v })) (due_given k r t cost (record { 0 = v }))

pub too_late_means : TooLateMeans
too_late_means k r t cost =
    by_what_it_says due_says dues_said_apart.0 (due_of k r t cost) (Err DueTooLate) (due_too_late k r t cost)

pub out_of_range_means : OutOfRangeMeans
out_of_range_means k r t cost =
    by_what_it_says due_says dues_said_apart.0 (due_of k r t cost) (Err ValueOutOfRange) (due_out_of_range k r t cost)

-- A due time is kept exactly when the row is in range.
keep_done : (r : Row) → (keep_answer r ≡ Ok tt) ↔ (row_in_range r ≡ true)
keep_done r = (go (row_in_range r) refl, λ fine. rw fine)
  where
    go : (b : Bool) → row_in_range r ≡ b → keep_answer r ≡ Ok tt → row_in_range r ≡ true
    go true fine e = fine
    go false out e = let refused : keep_answer r ≡ Err ValueOutOfRange = rw out in impossible cc

-- Keeping a due time is refused with 3 exactly when the row is out of range.
keep_refused : (r : Row) → (keep_answer r ≡ Err ValueOutOfRange) ↔ (row_in_range r ≡ false)
keep_refused r = (go (row_in_range r) refl, λ out. rw out)
  where
    go : (b : Bool) → row_in_range r ≡ b → keep_answer r ≡ Err ValueOutOfRange → row_in_range r ≡ false
    go true fine e = let done : keep_answer r ≡ Ok tt = rw fine in impossible cc
    go false out e = out

pub kept_means : KeptMeans
kept_means k r t = by_what_it_says keep_says dues_said_apart.1 (keep_answer r) (Ok tt) (keep_done r)

pub not_kept_means : NotKeptMeans
not_kept_means k r t = by_what_it_says keep_says dues_said_apart.1 (keep_answer r) (Err ValueOutOfRange) (keep_refused r)

pub not_kept_stays : NotKeptStays
not_kept_stays k r t e = keeps_all k r t ((not_kept_means k r t).0 e)
