-- What the number reader and the record reader of a script say, and what the chooser says. No answer is numbered 0, different answers say different things, and
-- what is said tells what stands there. (docs/RULES.md, section 7.)
use Rattle.std.specs.Prelude.{Option, Some, None, Result, Ok, Err}
use Prim.Native.Nat.{ℕ}
use mathlib.Core.Path.{◌≡◌, refl, sym, ap, ap₂, ◌∙◌}
use native.Mathlib.Omega.{arith}
use Rattle.kinds.specs.Numbering.{Said, numbered, refused_says, NeverNumberedZero, SaysApart, refusal_at, refused_with}
use Rattle.kinds.specs.declared.RefusedAt.{RefusedAt}
use Rattle.kinds.proofs.Apart.{impossible}
use Rattle.kinds.proofs.Numbering.{never_zero, numbers_differ, said_in, refusals_apart}
use Rattle.numbers.specs.declared.Number.{Number}
use Rattle.numbers.specs.Reading.{read_at, misspelled_at}
use Rattle.numbers.specs.Answers.{number_says}
use Rattle.numbers.proofs.Spellings.{spelled_read}
use Rattle.numbers.proofs.BadByte.{bad_read, refused_at_the_bad_byte}
use Rattle.numbers.proofs.Answers.{numbers_said_apart}
use Rattle.script.specs.declared.RecordAt.{RecordAt}
use Rattle.script.specs.declared.Which.{Which}
use Rattle.script.specs.declared.Which.TheVariants as which
use Rattle.script.specs.declared.RefusedIn.{RefusedIn}
use Rattle.script.specs.Records.{script_number, record_at}
use Rattle.script.specs.Answers.{record_says, which_number, chosen_says, ScriptsNeverZero, ScriptsSaidApart}
use Rattle.script.specs.Answers.{RecordReadSays, EndSays, RefusedRecordSays, FirstNextSays, SecondNextSays, EndedSays, RefusedInFirstSays, RefusedInSecondSays}
use Rattle.script.specs.SpelledScripts.{no_gap, no_row, no_cost}
use Rattle.script.specs.ScriptLaws.{EndIsTheLength, PastTheEnd, RefusedAtANumber, RefusedIfNoNumber}
use Rattle.script.specs.ScriptLaws.{NumberIsRead, NumberRefused, NumberRefusedAtTheBadByte, NumberPastTheEnd}
use Rattle.script.proofs.Records.{number_past_end, number_stands, number_misspelled, number_refused_there, number_read}
use Rattle.script.proofs.Records.{gap_refused, row_refused, cost_refused, record_past_end, record_end, end_is_length, no_number_of}

-- ---- what each answer says

pub record_read_says : RecordReadSays
record_read_says gap row cost next = refl

pub end_says : EndSays
end_says = refl

pub refused_record_says : RefusedRecordSays
refused_record_says r place = refl

pub first_next_says : FirstNextSays
first_next_says length = refl

pub second_next_says : SecondNextSays
second_next_says length = refl

pub ended_says : EndedSays
ended_says = refl

pub refused_in_first_says : RefusedInFirstSays
refused_in_first_says r place = refl

pub refused_in_second_says : RefusedInSecondSays
refused_in_second_says r place = refl

-- ---- no answer is numbered 0, and different answers say different things

record_never_zero : NeverNumberedZero record_says
record_never_zero (Ok (Some r)) = tt
record_never_zero (Ok None) = tt
record_never_zero (Err r) = never_zero r.refusal

chosen_never_zero : NeverNumberedZero chosen_says
chosen_never_zero (Ok (Some n)) = tt
chosen_never_zero (Ok None) = tt
chosen_never_zero (Err r) = never_zero r.at.refusal

pub scripts_never_zero : ScriptsNeverZero
scripts_never_zero = (record_never_zero, chosen_never_zero)

-- Records are equal where their gaps, row numbers, costs and the places after them are.
same_record : (a b : RecordAt) → a.release.gap ≡ b.release.gap → a.release.row.0 ≡ b.release.row.0 → a.release.cost ≡ b.release.cost
    → a.next ≡ b.next → a ≡ b
same_record a b gap row cost next =
    let release : a.release ≡ b.release =
    ap₂ (λ (g : ℕ × ℕ). λ (c : ℕ). record { gap = g.0; row = record { 0 = g.1 }; cost = c }) (ap₂ (λ g r. (g, r)) gap row) cost in
    ap₂ (λ r n. record { release = r; next = n }) release next

record_apart : SaysApart record_says
record_apart (Ok (Some a)) (Ok (Some b)) e = ap (λ r. Ok (Some r)) (same_record a b (cc) (cc) (cc) (cc))
record_apart (Ok (Some a)) (Ok None) e = impossible cc
record_apart (Ok (Some a)) (Err r) e = impossible cc
record_apart (Ok None) (Ok (Some b)) e = impossible cc
record_apart (Ok None) (Ok None) e = refl
record_apart (Ok None) (Err r) e = impossible cc
record_apart (Err q) (Ok (Some b)) e = impossible cc
record_apart (Err q) (Ok None) e = impossible cc
record_apart (Err q) (Err r) e = ap Err (refusals_apart q r e)

-- Different scripts of the two have different numbers.
which_apart : (a b : Which) → which_number a ≡ which_number b → a ≡ b
which_apart which.First which.First e = refl
which_apart which.First which.Second e = absurd (omega arith)
which_apart which.Second which.First e = absurd (omega arith)
which_apart which.Second which.Second e = refl

-- Refusals in scripts that say the same are equal.
refused_apart : (q r : RefusedIn) → chosen_says (Err q) ≡ chosen_says (Err r) → q ≡ r
refused_apart q r e =
    ap₂ (λ script at. record { script = script; at = at }) (which_apart q.script r.script (ap (λ a. (said_in a).second) e))
    (ap₂ (λ kind place. record { refusal = kind; place = place })
    (numbers_differ q.at.refusal r.at.refusal (ap (λ a. (said_in a).number) e))
    (ap (λ a. (said_in a).first) e))

chosen_apart : SaysApart chosen_says
chosen_apart (Ok (Some n)) (Ok (Some m)) e =
    let script : which_number n.script ≡ which_number m.script = cc in
    let long : n.length ≡ m.length = cc in
    ap₂ (λ s k. Ok (Some (record { script = s; length = k }))) (which_apart n.script m.script script) long
chosen_apart (Ok (Some n)) (Ok None) e = impossible cc
chosen_apart (Ok (Some n)) (Err r) e = impossible cc
chosen_apart (Ok None) (Ok (Some m)) e = impossible cc
chosen_apart (Ok None) (Ok None) e = refl
chosen_apart (Ok None) (Err r) e = impossible cc
chosen_apart (Err q) (Ok (Some m)) e = impossible cc
chosen_apart (Err q) (Ok None) e = impossible cc
chosen_apart (Err q) (Err r) e = ap Err (refused_apart q r e)

pub scripts_said_apart : ScriptsSaidApart
scripts_said_apart = (record_apart, chosen_apart)

-- ---- what is known about a place, by what was said

-- An answer of the record reader that is numbered is a refusal, with that number.
pub refused_record : {G : Type 0} (v : Result (Option RecordAt) RefusedAt) (said : Said) → record_says v ≡ numbered said
    → ((r : RefusedAt) → v ≡ Err r → said ≡ refused_says r → G) → G
refused_record (Ok (Some a)) said e then = impossible cc
refused_record (Ok None) said e then = impossible cc
refused_record (Err r) said e then = then r refl (sym (ap said_in e))

pub end_is_the_length : EndIsTheLength
end_is_the_length s at = (λ e. end_is_length s at (record_apart (record_at s at) (Ok None) e), λ e. ap record_says (record_end s at e))

pub past_the_end : PastTheEnd
past_the_end s at h = ap record_says (record_past_end s at h)

pub refused_at_a_number : RefusedAtANumber
refused_at_a_number s at said b inside e =
    refused_record (record_at s at) said e λ r is says.
    let none = no_number_of s at r b inside is in
    rw says (ap (λ k. refused_says (record { refusal = k; place = r.place })) none.0, none.1)

pub refused_if_no_number : RefusedIfNoNumber
refused_if_no_number s at place b inside (no_gap bad) =
    ap record_says (gap_refused s at (λ z. omega arith) _ (number_misspelled s at (bad_read b bad)))
refused_if_no_number s at place b inside (no_row gap g bad) =
    ap record_says (row_refused s at (λ z. omega arith) gap (number_stands s at (spelled_read g)) _ (number_misspelled s gap.next (bad_read b bad)))
refused_if_no_number s at place b inside (no_cost gap row g n bad) =
    ap record_says
    (cost_refused s at (λ z. omega arith) gap (number_stands s at (spelled_read g)) row (number_stands s gap.next (spelled_read n)) _
    (number_misspelled s row.next (bad_read b bad)))

pub number_is_read : NumberIsRead
number_is_read s at n next =
    let k : Number = record { value = n; next = next } in
    let apart = numbers_said_apart.0 in (
      λ e. ap number_says (number_read s at k (apart (script_number s at) (Ok k) e)),
      λ e. ap number_says (number_stands s at (apart (read_at s at) (Ok k) e)),
    )

pub number_refused : NumberRefused
number_refused s at said = (λ e. by_answer (script_number s at) refl e, λ p. there p.0 p.1)
  where
    by_answer : (v : Result Number RefusedAt) → script_number s at ≡ v → number_says v ≡ numbered said
        → (said ≡ refusal_at 14 said.first) × (number_says (read_at s at) ≡ refused_with 1 said.first)
    by_answer (Ok n) p q = impossible cc
    by_answer (Err r) p q =
        let w = number_refused_there s at p in
        let same : said ≡ refusal_at 14 r.place = sym (ap said_in q) ∙ ap (λ kind. refused_says (record { refusal = kind; place = r.place })) w.0 in
        rw same (refl, ap number_says w.1)

    there : said ≡ refusal_at 14 said.first → number_says (read_at s at) ≡ refused_with 1 said.first → number_says (script_number s at) ≡ numbered said
    there is e = ap number_says (number_misspelled s at (numbers_said_apart.0 (read_at s at) (misspelled_at said.first) e)) ∙ ap numbered (sym is)

pub number_refused_at_the_bad_byte : NumberRefusedAtTheBadByte
number_refused_at_the_bad_byte s at place b h = (
  λ e. (refused_at_the_bad_byte s at place b h).0 ((number_refused s at (refusal_at 14 place)).0 e).1,
  λ p. (number_refused s at (refusal_at 14 place)).1 (refl, (refused_at_the_bad_byte s at place b h).1 p),
)

pub number_past_the_end : NumberPastTheEnd
number_past_the_end s at h = ap number_says (number_past_end s at h)
