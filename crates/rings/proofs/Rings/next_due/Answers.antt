-- `Rings::next_due` meets its contract. Past the first three tests the row is ready, and the place for its next due time is one of its ring's. The answer goes
-- by the due time that stands there, and a due time that is given is stored there.
use mathlib.Core.Path.{sym, ◌∙◌}
use Rattle.std.proofs.lemmas.Result.{err_from_is_err_and}
use Rattle.rings.proofs.Storing.{place_unused, place_of_oldest, stored_behind, stored_instead}
use Rattle.rings.proofs.RingAnswers.{answer_by_place, no_such_row, row_out_of_range, not_the_rows}
use Rattle.rings.proofs.Rings.next_due.Goals as goal

pub returns-then-number-clause-answer : goal.returns-then-number-clause-answer
returns-then-number-clause-answer c = sym (no_such_row _ _ _ _ _ c.if-number.true)

pub returns-then-not-in_range-clause-answer : goal.returns-then-not-in_range-clause-answer
returns-then-not-in_range-clause-answer c = sym (row_out_of_range _ _ _ _ _ c.if-number.false (sym c.if-not-in_range.ensures))

pub returns-then-not-can_be-clause-answer : goal.returns-then-not-can_be-clause-answer
returns-then-not-can_be-clause-answer c =
    sym (not_the_rows _ _ _ _ _ c.if-number.false (sym c.if-not-in_range.ensures) (sym c.if-not-can_be.ensures))

pub returns-in_err-due-clause-answer : goal.returns-in_err-due-clause-answer
returns-in_err-due-clause-answer c =
    let p = err_from_is_err_and c.from_residual.result c.from_residual.ensures.1 in
    rw (p.1, p.2)
    (c.in_err-due.ensures
    ∙ rw c.then_some-before.ensures
    (answer_by_place _ _ _ _ _ c.if-number.false (sym c.if-not-in_range.ensures) (sym c.if-not-can_be.ensures) _ c.place_in.ensures))

pub returns-then-held-x-clause-answer : goal.returns-then-held-x-clause-answer
returns-then-held-x-clause-answer c =
    c.in_ok-due.ensures
    ∙ rw c.then_some-before.ensures
    (answer_by_place _ _ _ _ _ c.if-number.false (sym c.if-not-in_range.ensures) (sym c.if-not-can_be.ensures) _ c.place_in.ensures)

pub returns-then-held-x-clause-rings : goal.returns-then-held-x-clause-rings
returns-then-held-x-clause-rings c =
    rw (c.place_in.ensures ∙ place_unused _ _ _ c.if-held-x.true) (sym (stored_behind _ _ _ _ c.if-held-x.true))

pub returns-else-held-x-clause-answer : goal.returns-else-held-x-clause-answer
returns-else-held-x-clause-answer c =
    c.in_ok-due.ensures
    ∙ rw c.then_some-before.ensures
    (answer_by_place _ _ _ _ _ c.if-number.false (sym c.if-not-in_range.ensures) (sym c.if-not-can_be.ensures) _ c.place_in.ensures)

pub returns-else-held-x-clause-rings : goal.returns-else-held-x-clause-rings
returns-else-held-x-clause-rings c =
    rw (c.place_in.ensures ∙ place_of_oldest _ _ _ c.if-held-x.false, c.place_after.ensures) (sym (stored_instead _ _ _ _ c.if-held-x.false))
