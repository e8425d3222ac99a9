-- The proofs of what the answers of the number reader and the number writer say. No answer has the number 0, different answers say different things, and what
-- an answer says tells what was read or written.
use Rattle.std.specs.Prelude.{Result, Ok, Err}
use Prim.Native.Nat.{◌≤◌, ◌<◌, ℕ}
use mathlib.Core.Path.{◌≡◌, refl, sym, ap, ap₂, ◌∙◌}
use mathlib.Core.Logic.{◌⊎◌, inl, inr, ⊎_elim}
use lib.ListN.{length}
use Rattle.kinds.specs.declared.Refusal.{Refusal}
use Rattle.kinds.specs.Numbering.{numbered, refusal_number, NeverNumberedZero, SaysApart, refusal_at}
use Rattle.kinds.proofs.Apart.{impossible}
use Rattle.kinds.proofs.Numbering.{never_zero, refusals_apart, plain_refusals_apart, said_in}
use Rattle.numbers.specs.Spelling.{max_number, spelling}
use Rattle.numbers.specs.Writing.{written}
use Rattle.numbers.specs.Answers.{number_says, written_says, NumbersNeverZero, NumbersSaidApart}
use Rattle.numbers.specs.Answers.{NumberReadSays, RefusedReadSays, NumberWrittenSays, RefusedWriteSays}
use Rattle.numbers.specs.NumberLaws.{LengthAnswered, RefusalAnswered, LengthOfASpelling, TooBigHasNoLength, NothingPastTheEnd}
use Rattle.numbers.proofs.Spellings as case

-- ---- what each answer says

pub number_read_says : NumberReadSays
number_read_says n next = refl

pub refused_read_says : RefusedReadSays
refused_read_says r place = refl

pub number_written_says : NumberWrittenSays
number_written_says took = refl

pub refused_write_says : RefusedWriteSays
refused_write_says r = refl

read_never_zero : NeverNumberedZero number_says
read_never_zero (Ok n) = tt
read_never_zero (Err r) = never_zero r.refusal

written_never_zero : NeverNumberedZero written_says
written_never_zero (Ok k) = tt
written_never_zero (Err r) = never_zero r

pub numbers_never_zero : NumbersNeverZero
numbers_never_zero = (read_never_zero, written_never_zero)

read_apart : SaysApart number_says
read_apart (Ok n) (Ok m) e =
    let value : n.value ≡ m.value = cc in
    let next : n.next ≡ m.next = cc in
    ap₂ (λ v k. Ok (record { value = v; next = k })) value next
read_apart (Ok n) (Err r) e = impossible cc
read_apart (Err q) (Ok m) e = impossible cc
read_apart (Err q) (Err r) e = ap Err (refusals_apart q r e)

written_apart : SaysApart written_says
written_apart (Ok j) (Ok k) e = cc
written_apart (Ok j) (Err r) e = impossible cc
written_apart (Err q) (Ok k) e = impossible cc
written_apart (Err q) (Err r) e = ap Err (plain_refusals_apart q r e)

pub numbers_said_apart : NumbersSaidApart
numbers_said_apart = (read_apart, written_apart)

-- ---- what an answer tells about the number

pub length_answered : LengthAnswered
length_answered n room took said = case.length_answered n room took (written_apart (written n room) (Ok took) said)

pub refusal_answered : RefusalAnswered
refusal_answered n room said e = by_answer (written n room) refl e
  where
    by_answer : (v : Result ℕ Refusal) → written n room ≡ v → written_says v ≡ numbered said
        → ((said ≡ refusal_at 25 0) × (max_number < n)) ⊎ ((said ≡ refusal_at 12 0) × (n ≤ max_number) × (room < length (spelling n)))
    by_answer (Ok k) p q = impossible cc
    by_answer (Err r) p q =
        let same : said ≡ refusal_at (refusal_number r) 0 = sym (ap said_in q) in
        ⊎_elim
        (λ h. inl (same ∙ ap (λ k. refusal_at (refusal_number k) 0) h.0, h.1))
        (λ h. inr (same ∙ ap (λ k. refusal_at (refusal_number k) 0) h.0, h.1, h.2))
        (case.refusal_answered n room r p)

pub length_of_a_spelling : LengthOfASpelling
length_of_a_spelling n h = ap written_says (case.length_of_a_spelling n h)

pub too_big_has_no_length : TooBigHasNoLength
too_big_has_no_length n h = ap written_says (case.too_big_has_no_length n h)

pub nothing_past_the_end : NothingPastTheEnd
nothing_past_the_end s at h = ap number_says (case.nothing_past_the_end s at h)
