-- `due::odd_due` meets its contract. The values of a server in range are small enough for the sums to fit. A release or a last due time above 2^40 makes the
-- due time late too, and past this test the later of the two and the ticks that the cost takes make the due time by the rule.
use mathlib.Core.Path.{◌≡◌, sym, ◌∙◌}
use mathlib.Core.Bool.{true}
use native.Mathlib.Omega.{arith}
use borrow.Author.Tests.{le-leb, lt-leb}
use Rattle.std.proofs.lemmas.Result.{err_from_is_err_and}
use Rattle.table.specs.Limits.{max_c}
use Rattle.table.specs.Rows.{from_one_to}
use Rattle.due.proofs.NewestKept.{stands}
use Rattle.due.proofs.OddJobs.{later_of, rule_rounded, by_due_alone, late_before, odd_due_cost, odd_due_out_of_range}
use Rattle.due.proofs.servers.odd_due.Goals as goal
use Rattle.due.proofs.servers.odd_due.Goals.{then-cost-lt1-via-then-cost-lt1, then-cost-lt1-via-else-cost-lt1+then-cost-gt-MAX_C}
use Rattle.table.proofs.ReadingServers.{server_in_range_means}

pub returns-then-not-in_range : goal.returns-then-not-in_range
returns-then-not-in_range c = sym ((odd_due_out_of_range _ _ _ _).1 (sym c.if-not-in_range.ensures))

pub returns-then-cost-lt1 : goal.returns-then-cost-lt1
returns-then-cost-lt1 c =
    sym ((odd_due_cost _ _ _ _).1 (
      sym c.if-not-in_range.ensures,
      elim c.then-cost-lt1.branch [
        | then-cost-lt1-via-then-cost-lt1 w ↦ simp (lt-leb _ _ w.if-cost-lt1.true)
        | then-cost-lt1-via-else-cost-lt1+then-cost-gt-MAX_C w ↦ simp (le-leb _ _ w.if-cost-lt1.false, lt-leb _ _ w.if-cost-gt-MAX_C.true)
      ],
    ))

pub returns-in_err-later : goal.returns-in_err-later
returns-in_err-later c =
    let a = c.args in
    let fine = sym c.if-not-in_range.ensures in
    let allowed : from_one_to max_c a.cost ≡ true = simp (le-leb _ _ c.if-cost-lt1.false, le-leb _ _ c.if-cost-gt-MAX_C.false) in
    let p = err_from_is_err_and c.from_residual.result c.from_residual.ensures.1 in
    let rule = rule_rounded a.server.a a.server.b a.last.0 a.release.0 a.cost ((server_in_range_means a.server).0 fine).some_a in
    rw (p.1, p.2)
    (late_before a.server a.last.0 a.release.0 a.cost fine allowed _ _ c.in_err-later.ensures
    (omega (arith, rule, later_of a.release a.last _ c.max.ensures)))

pub returns : goal.returns
returns c =
    let a = c.args in
    let fine = sym c.if-not-in_range.ensures in
    let allowed : from_one_to max_c a.cost ≡ true = simp (le-leb _ _ c.if-cost-lt1.false, le-leb _ _ c.if-cost-gt-MAX_C.false) in
    let rule = rule_rounded a.server.a a.server.b a.last.0 a.release.0 a.cost ((server_in_range_means a.server).0 fine).some_a in
    c.in_time-2.ensures
    ∙ rw (stands _ _ c.in_ok-later.ensures, later_of a.release a.last _ c.max.ensures, c.div_ceil.ensures, sym rule)
    (sym (by_due_alone a.server a.last.0 a.release.0 a.cost fine allowed))
