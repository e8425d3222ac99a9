-- No answer about columns is numbered 0, and different answers say different things.
use Rattle.std.specs.Prelude.{Some, None, Ok, Err}
use mathlib.Core.Path.{◌≡◌, refl, ap}
use Rattle.kinds.specs.Numbering.{NeverNumberedZero, SaysApart}
use Rattle.kinds.specs.declared.Finish.{Finish}
use Rattle.kinds.proofs.Apart.{impossible}
use Rattle.kinds.proofs.Numbering.{never_zero, plain_refusals_apart}
use Rattle.columns.specs.Answers.{put_in_says, work_says, ColumnsNeverZero, ColumnsSaidApart}

put_never_zero : NeverNumberedZero put_in_says
put_never_zero (Ok _) = tt
put_never_zero (Err r) = never_zero r

work_never_zero : NeverNumberedZero work_says
work_never_zero (Some f) = tt
work_never_zero None = tt

pub columns_never_zero : ColumnsNeverZero
columns_never_zero = (put_never_zero, work_never_zero)

put_apart : SaysApart put_in_says
put_apart (Ok _) (Ok _) e = refl
put_apart (Ok _) (Err r) e = impossible cc
put_apart (Err q) (Ok _) e = impossible cc
put_apart (Err q) (Err r) e = ap Err (plain_refusals_apart q r e)

-- Two finished jobs are equal where their five numbers are.
same_finish : (f g : Finish) → f.serial.0 ≡ g.serial.0 → f.row.0 ≡ g.row.0 → f.release.0 ≡ g.release.0 → f.due.0 ≡ g.due.0
    → f.finish.0 ≡ g.finish.0 → Some f ≡ Some g
same_finish f g a b c d e = rw (a, b, c, d, e)

work_apart : SaysApart work_says
work_apart (Some f) (Some g) e = same_finish f g (cc) (cc) (cc) (cc) (cc)
work_apart (Some f) None e = impossible cc
work_apart None (Some g) e = impossible cc
work_apart None None e = refl

pub columns_said_apart : ColumnsSaidApart
columns_said_apart = (put_apart, work_apart)
