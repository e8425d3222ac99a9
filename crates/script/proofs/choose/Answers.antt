-- `script::choose` meets its contract: times above 2^40 are refused first, and then what is read at the start of each script decides.
use Rattle.std.specs.Prelude.{Ok, Err}
use mathlib.Core.Path.{refl, sym, ap, ◌∙◌}
use Rattle.script.proofs.Records.{record_stands}
use Rattle.std.proofs.Common.{rules}
use Rattle.std.proofs.lemmas.Result.{err_from_is_err_and}
use Rattle.script.proofs.Chooser.{read_as_found, refused_as_read, first_too_late, second_too_late, by_records}
use Rattle.script.proofs.choose.Goals as goal

pub returns-then-first_time-gt-MAX : goal.returns-then-first_time-gt-MAX
returns-then-first_time-gt-MAX c = c.too_late.ensures ∙ sym (first_too_late _ _ _ _ c.if-first_time-gt-MAX.true)

pub returns-then-second_time-gt-MAX : goal.returns-then-second_time-gt-MAX
returns-then-second_time-gt-MAX c =
    c.too_late-then-second_time-gt-MAX.ensures ∙ sym (second_too_late _ _ _ _ c.if-first_time-gt-MAX.false c.if-second_time-gt-MAX.true)

-- Where the first script's record can't be read, its refusal is the answer.
pub returns-in_err-one : goal.returns-in_err-one
returns-in_err-one c =
    let refused = refused_as_read _ _ _ c.map_err.ensures.cases (λ r q e. search rules) c.in_err-one.was in
    let answer = err_from_is_err_and c.from_residual.result c.from_residual.ensures.1 in
    let one = sym c.record_at.ensures ∙ refused.1 in
    answer.1 ∙ ap Err (answer.2 ∙ refused.2) ∙ sym (by_records _ _ _ _ c.if-first_time-gt-MAX.false c.if-second_time-gt-MAX.false one refl)

-- Where only the second script's record can't be read, its refusal is the answer.
pub returns-in_err-other : goal.returns-in_err-other
returns-in_err-other c =
    let refused = refused_as_read _ _ _ c.map_err-2.ensures.cases (λ r q e. search rules) c.in_err-other.was in
    let answer = err_from_is_err_and c.from_residual-in_err-other.result c.from_residual-in_err-other.ensures.1 in
    let one = sym c.record_at.ensures ∙ read_as_found _ _ _ c.map_err.ensures.cases c.in_ok-one.was in
    let other = sym c.record_at-2.ensures ∙ refused.1 in
    answer.1 ∙ ap Err (answer.2 ∙ refused.2) ∙ sym (by_records _ _ _ _ c.if-first_time-gt-MAX.false c.if-second_time-gt-MAX.false one other)

-- A record that was read has a gap of at most 2^42 − 1, so that its time can be made.
pub earlier-requires : goal.earlier-requires
earlier-requires c =
    let one = sym c.record_at.ensures ∙ read_as_found _ _ _ c.map_err.ensures.cases c.in_ok-one.was ∙ ap Ok c.in-Some-Some.is-0 in
    let other = sym c.record_at-2.ensures ∙ read_as_found _ _ _ c.map_err-2.ensures.cases c.in_ok-other.was ∙ ap Ok c.in-Some-Some.is-1 in (
      c.if-first_time-gt-MAX.false,
      c.if-second_time-gt-MAX.false,
      (record_stands _ 0 _ (λ i. (c.type_inv.first i).fits) one).in_range.gap,
      (record_stands _ 0 _ (λ i. (c.type_inv.second i).fits) other).in_range.gap,
    )

pub returns-in-Some-Some : goal.returns-in-Some-Some
returns-in-Some-Some c =
    let one = sym c.record_at.ensures ∙ read_as_found _ _ _ c.map_err.ensures.cases c.in_ok-one.was ∙ ap Ok c.in-Some-Some.is-0 in
    let other = sym c.record_at-2.ensures ∙ read_as_found _ _ _ c.map_err-2.ensures.cases c.in_ok-other.was ∙ ap Ok c.in-Some-Some.is-1 in
    c.earlier.ensures ∙ sym (by_records _ _ _ _ c.if-first_time-gt-MAX.false c.if-second_time-gt-MAX.false one other)

pub returns-in-Some-None : goal.returns-in-Some-None
returns-in-Some-None c =
    let one = sym c.record_at.ensures ∙ read_as_found _ _ _ c.map_err.ensures.cases c.in_ok-one.was ∙ ap Ok c.in-Some-None.is-0 in
    let other = sym c.record_at-2.ensures ∙ read_as_found _ _ _ c.map_err-2.ensures.cases c.in_ok-other.was ∙ ap Ok c.in-Some-None.is-1 in
    c.next_of.ensures ∙ sym (by_records _ _ _ _ c.if-first_time-gt-MAX.false c.if-second_time-gt-MAX.false one other)

pub returns-in-None-Some : goal.returns-in-None-Some
returns-in-None-Some c =
    let one = sym c.record_at.ensures ∙ read_as_found _ _ _ c.map_err.ensures.cases c.in_ok-one.was ∙ ap Ok c.in-None-Some.is-0 in
    let other = sym c.record_at-2.ensures ∙ read_as_found _ _ _ c.map_err-2.ensures.cases c.in_ok-other.was ∙ ap Ok c.in-None-Some.is-1 in
    c.next_of-in-None-Some.ensures ∙ sym (by_records _ _ _ _ c.if-first_time-gt-MAX.false c.if-second_time-gt-MAX.false one other)

pub returns-in-None-None : goal.returns-in-None-None
returns-in-None-None c =
    let one = sym c.record_at.ensures ∙ read_as_found _ _ _ c.map_err.ensures.cases c.in_ok-one.was ∙ ap Ok c.in-None-None.is-0 in
    let other = sym c.record_at-2.ensures ∙ read_as_found _ _ _ c.map_err-2.ensures.cases c.in_ok-other.was ∙ ap Ok c.in-None-None.is-1 in
    sym (by_records _ _ _ _ c.if-first_time-gt-MAX.false c.if-second_time-gt-MAX.false one other)
