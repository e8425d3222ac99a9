-- `due::Kept::due` meets its contract. The values of a row in range are small enough for the sums to fit. A release or a kept due time above 2^40 makes the due
-- time late too, and past these tests the later of the two times is the due time by the rule.
use mathlib.Core.Path.{◌≡◌, sym, ap, ◌∙◌}
use native.Mathlib.Omega.{arith}
use borrow.Author.Rules.{rules}
use Rattle.std.proofs.lemmas.Result.{err_from_is_err_and}
use Rattle.kinds.proofs.Lists.{length_mapped}
use Rattle.table.proofs.SpelledTables.{in_range_means}
use Rattle.due.specs.Kept.{not_too_late}
use Rattle.due.proofs.Keeping.{rule_due, length-kept_times, due_alone, due_spaced, due_after_release}
use Rattle.due.proofs.NewestKept.{stands, by_rule, late_before, due_out_of_range}
use Rattle.due.proofs.Kept.due.Goals as goal

pub returns-then-not-in_range : goal.returns-then-not-in_range
returns-then-not-in_range c = sym ((due_out_of_range _ _ _ _).1 (sym c.if-not-in_range.ensures))

pub returns-in_err-plain : goal.returns-in_err-plain
returns-in_err-plain c =
    let a = c.args in
    let p = err_from_is_err_and c.from_residual.result c.from_residual.ensures.1 in
    let fine = sym c.if-not-in_range.ensures in
    rw (p.1, p.2) (late_before a.self a.row a.release.0 a.cost fine _ _ c.in_err-plain.ensures (due_after_release a.self a.row a.release.0))

pub returns-in_err-spaced : goal.returns-in_err-spaced
returns-in_err-spaced c =
    let a = c.args in
    let fine = sym c.if-not-in_range.ensures in
    let used = length-kept_times a.self _ (search (rules, length_mapped)) c.min-count.ensures in
    let due = due_spaced a.self _ used a.row a.release.0 ((in_range_means a.row).0 fine).some_x c.if-x-count.true in
    let p = err_from_is_err_and c.from_residual-in_err-spaced.result c.from_residual-in_err-spaced.ensures.1 in
    rw (p.1, p.2) (late_before a.self a.row a.release.0 a.cost fine _ _ c.in_err-spaced.ensures (omega (arith, due)))

pub returns-then-x-count : goal.returns-then-x-count
returns-then-x-count c =
    let a = c.args in
    let fine = sym c.if-not-in_range.ensures in
    let used = length-kept_times a.self _ (search (rules, length_mapped)) c.min-count.ensures in
    let due = due_spaced a.self _ used a.row a.release.0 ((in_range_means a.row).0 fine).some_x c.if-x-count.true in
    let later : c.max.result ≡ rule_due a.self a.row a.release.0 =
    omega (arith, due, c.max.ensures, stands _ _ c.in_ok-plain.ensures, stands _ _ c.in_ok-spaced.ensures) in
    c.in_time-then-x-count-2.ensures ∙ ap not_too_late later ∙ sym (by_rule a.self a.row a.release.0 a.cost fine)

pub returns : goal.returns
returns c =
    let a = c.args in
    let used = length-kept_times a.self _ (search (rules, length_mapped)) c.min-count.ensures in
    let due = due_alone a.self _ used a.row a.release.0 c.if-x-count.false in
    c.in_time-2.ensures
    ∙ rw (stands _ _ c.in_ok-plain.ensures, sym due) (sym (by_rule a.self a.row a.release.0 a.cost (sym c.if-not-in_range.ensures)))
