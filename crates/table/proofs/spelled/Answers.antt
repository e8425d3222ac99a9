-- `table::spelled` meets its contract: what it answers is a law of how a table is read from its timer, its rows and its servers. The other answers are found.
use mathlib.Core.Path.{sym, ap, ◌∙◌}
use Rattle.std.specs.Prelude.{Err}
use Rattle.table.specs.Tables.{refused_table}
use Rattle.table.proofs.Timers.{some_p_read}
use Rattle.table.proofs.ReadTables.{accepted, period_too_long}
use Rattle.table.proofs.spelled.Goals as goal

pub returns-in-Ok : goal.returns-in-Ok
returns-in-Ok c =
    accepted c.args.bytes.now _ c.in_ok-timer.ensures _ (sym c.in_ok-read.ensures) _ (sym c.in_ok-served.ensures) c.if-served-bytes.false
    c.periods-periods.ensures _ (sym c.in-Ok.ensures)

pub returns-in-Err : goal.returns-in-Err
returns-in-Err c =
    ap (λ t. record { table = t; answer = Err c.at-in-Err.result }) c.requires
    ∙ ap refused_table c.at-in-Err.ensures
    ∙ period_too_long c.args.bytes.now _ c.in_ok-timer.ensures _ (sym c.in_ok-read.ensures) _ (sym c.in_ok-served.ensures) c.if-served-bytes.false
    c.periods-periods.ensures (some_p_read c.args.bytes.now _ (sym c.in_ok-timer.ensures)) _ (sym c.in-Err.ensures)
