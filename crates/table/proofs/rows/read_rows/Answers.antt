use Rattle.std.proofs.lemmas.Result.{err_from_is_err_and}
use mathlib.Core.Path.{sym}
use Rattle.table.proofs.Reading.{none_read, row_more, row_refused, all_read}
use Rattle.table.proofs.rows.read_rows.Goals as goal

pub loop-i-init : goal.loop-i-init
loop-i-init c = rw c.empty-held.ensures (none_read _ _ _ (sym c.in_ok-count.ensures) c.if-count.false)

pub returns-in_err-read : goal.returns-in_err-read
returns-in_err-read c =
    let p = err_from_is_err_and c.from_residual-in_err-read.result c.from_residual-in_err-read.ensures.1 in
    rw (p.1, p.2) (row_refused c.loop-i.invariant _ c.loop-i-test.true (sym c.in_err-read.ensures))

pub loop-i-preserved : goal.loop-i-preserved
loop-i-preserved c = row_more c.loop-i.invariant _ c.loop-i-test.true (sym c.in_ok-read.ensures)

pub returns : goal.returns
returns c = all_read c.loop-i.invariant c.loop-i-test.false
