-- What the two calls on columns answer, in numbers. (docs/RULES.md, sections 6 and 10.)
use Rattle.std.specs.Prelude.{[], ◌∷◌, Option, Some, None, Result, Ok, Err}
use Rattle.kinds.specs.Numbering.{Says, numbered, values, refused_says, without_place, NeverNumberedZero, SaysApart}
use Rattle.kinds.specs.declared.Finish.{Finish}
use Rattle.kinds.specs.declared.Refusal.{Refusal}

-- What the answer to a job put in says: no value, or the refusal, which names no place. (1.17, 6.8, 10.2)
abbrev pub put_in_says : Result (Unit {0}) Refusal → Says
put_in_says (Ok _) = values []
put_in_says (Err r) = numbered (refused_says (without_place r))

-- What the answer of `work` says: serial, row number, release, due time and finish of the job that finished, or no value where none did. (1.17, 6.13)
abbrev pub work_says : Option Finish → Says
work_says (Some f) = values (f.serial.0 ∷ f.row.0 ∷ f.release.0 ∷ f.due.0 ∷ f.finish.0 ∷ [])
work_says None = values []

-- ---- what is proved (proofs/Answers.antt)

-- No answer about columns is numbered 0. (1.16)
abbrev pub ColumnsNeverZero : Type 0
ColumnsNeverZero = NeverNumberedZero put_in_says × NeverNumberedZero work_says

-- Different answers about columns say different things.
abbrev pub ColumnsSaidApart : Type 0
ColumnsSaidApart = SaysApart put_in_says × SaysApart work_says
