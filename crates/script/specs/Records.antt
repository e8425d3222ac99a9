-- How a number and a record of a script are read at a place. (docs/RULES.md, section 7.)
use Rattle.script.specs.declared.RecordAt.{RecordAt}
use Rattle.kinds.specs.declared.RefusedAt.{RefusedAt}
use Rattle.std.specs.Prelude.{ℕ, cond, List, eqb, length, Option, Some, None, Result, Ok, Err}
use Rattle.kinds.specs.declared.Refusal.TheVariants.{ScriptMisspelled}
use Rattle.numbers.specs.declared.Number.{Number}
use Rattle.numbers.specs.Reading.{read_at}

-- The reader's refusal 1 becomes 14 with the same place. (2.10)
abbrev pub as_scripts : Result Number RefusedAt → Result Number RefusedAt
as_scripts (Ok n) = Ok n
as_scripts (Err r) = Err (record { refusal = ScriptMisspelled; place = r.place })

-- The number of a script at a place. A place past the end is refused at the script's length, since the number reader refuses it there. (2.9, 2.10, 7.5)
unfoldable pub script_number : List ℕ → (at : ℕ) → Result Number RefusedAt
script_number s at = as_scripts (read_at s at)

-- Reading goes on after a number that was read. A number that was refused makes the whole record refused, at the same place. (7.6)
abbrev pub after_number : Result Number RefusedAt → (Number → Result (Option RecordAt) RefusedAt) → Result (Option RecordAt) RefusedAt
after_number (Ok n) k = k n
after_number (Err r) k = Err r

-- The record at a place: its gap, its row number and its cost, read from left to right, and the place right after it. The script's length is the end, and at a
-- place past it the gap is refused with 14 at the script's length. Places count from the start of the bytes that were lent. (7.1, 7.4 to 7.6, 7.15)
abbrev pub record_at : List ℕ → (at : ℕ) → Result (Option RecordAt) RefusedAt
record_at s at =
    cond (eqb at (length s)) (Ok None)
    (after_number (script_number s at) λ gap.
    after_number (script_number s gap.next) λ row.
    after_number (script_number s row.next) λ cost.
    Ok (Some (record { release = record { gap = gap.value; row = record { 0 = row.value }; cost = cost.value }; next = cost.next })))
