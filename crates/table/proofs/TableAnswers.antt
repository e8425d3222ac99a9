-- The laws of a table, proved for what its answers say: bytes are accepted and refused exactly when the rules say so. (docs/RULES.md, section 3.)
use Prim.Native.Nat.{ℕ}
use mathlib.Core.Path.{◌≡◌, refl, ap}
use mathlib.Core.List.{List}
use Rattle.table.specs.declared.TableRead.{TableRead}
use Rattle.table.specs.Tables.{table_read, content_of}
use Rattle.table.specs.Answers.{table_says}
use Rattle.table.specs.TableLaws.{SpelledIsAccepted, AcceptedIsSpelled, AcceptedExactly, AcceptedIsUsable, RefusedIsEmpty}
use Rattle.table.specs.Refusals.{RefusedSo, bad_rows, hopeless_row, RefusedExactly, RefusedAsATable, RefusedWithSixteen}
use Rattle.table.proofs.Answers.{said_accepted, said_refused}
use Rattle.table.proofs.SpelledTables as cases
use Rattle.table.proofs.Tables as tables
use Rattle.table.proofs.Refusals.{says_refused_if_so, so_if_refused, table_refusal, sixteen_is_hopeless}

pub spelled_is_accepted : SpelledIsAccepted
spelled_is_accepted content a =
    let e = cases.spelled_is_read content a in
    (ap (λ (t : TableRead). table_says t.answer) e, ap (λ (t : TableRead). t.table) e)

pub accepted_is_spelled : AcceptedIsSpelled
accepted_is_spelled s h b e = cases.accepted_as_read s h b (said_accepted (table_read s).answer h e)

pub accepted_exactly : AcceptedExactly
accepted_exactly s h b = (
  λ e. let a = accepted_is_spelled s h b e in (content_of (table_read s).table, a.acceptable, a.spelled, a.period),
  λ w. rw (w.2, w.3) (spelled_is_accepted w.0 w.1).0,
)

pub accepted_is_usable : AcceptedIsUsable
accepted_is_usable s h b e = cases.accepted_is_usable s h b (said_accepted (table_read s).answer h e)

pub refused_is_empty : RefusedIsEmpty
refused_is_empty s number place e = let r = said_refused (table_read s).answer number place e in tables.refused_is_empty s r.0 r.1

-- `RefusedSo` holds for an equal number and an equal place too.
as_said : {s : List ℕ} {m n p q : ℕ} → m ≡ n → p ≡ q → RefusedSo s m p → RefusedSo s n q
as_said same there w = rw (← same, ← there) w

pub refused_exactly : RefusedExactly
refused_exactly s number place b = (
  λ e. let r = said_refused (table_read s).answer number place e in as_said r.2 r.3 (so_if_refused s r.0 b r.1),
  says_refused_if_so b,
)

pub refused_as_a_table : RefusedAsATable
refused_as_a_table s number place b e = table_refusal ((refused_exactly s number place b).0 e)

pub refused_with_sixteen : RefusedWithSixteen
refused_with_sixteen s place b = (
  λ e. sixteen_is_hopeless refl ((refused_exactly s 16 place b).0 e),
  λ p. (refused_exactly s 16 place b).1 (bad_rows p.timer (hopeless_row p.its_row)),
)
