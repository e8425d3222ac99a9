-- Where a script reader stands, and what it finds there. (docs/RULES.md, section 7.)
use Rattle.std.specs.Prelude.{ℕ, zero, suc, ◌≡◌, List, [], ◌∷◌}
use Rattle.kinds.specs.Numbering.{values}
use Rattle.script.specs.declared.RecordAt.{RecordAt}
use Rattle.script.specs.Answers.{record_says}
use Rattle.reader.specs.declared.ScriptReader.{ScriptReader}
use Rattle.reader.specs.Reader.{found_by, moved}

-- A script reader after n steps. (7.7)
unfoldable pub moved_times : ℕ → ScriptReader → ScriptReader
moved_times zero reader = reader
moved_times (suc n) reader = moved_times n (moved reader)

-- The script reader with another place in the script that it holds.
abbrev pub placed : ScriptReader → (at : ℕ) → ScriptReader
placed reader at = record { script = reader.script; at = at }

-- A script reader is at the start of this script.
pub record AtTheStart (reader : ScriptReader) (s : List ℕ) : Type 0 where
  pub holds : reader.script.now ≡ s
  pub at_start : reader.at ≡ 0

-- A script reader finds this record at its place: it says the gap, the row number, the cost and the place after the record. (7.4)
abbrev pub Finds : ScriptReader → RecordAt → Type 0
Finds reader found =
    record_says (found_by reader) ≡ values (found.release.gap ∷ found.release.row.0 ∷ found.release.cost ∷ found.next ∷ [])

-- A script reader finds the end of the script at its place, and says no value. (7.5)
abbrev pub FindsTheEnd : ScriptReader → Type 0
FindsTheEnd reader = record_says (found_by reader) ≡ values []
