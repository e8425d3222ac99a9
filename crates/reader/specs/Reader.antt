-- What a script reader finds at its place, and its place afterwards. (docs/RULES.md, section 7.)
use Rattle.kinds.specs.declared.RefusedAt.{RefusedAt}
use Rattle.script.specs.declared.RecordAt.{RecordAt}
use Rattle.std.specs.Prelude.{ℕ, List, Option, Some, None, Result, Ok, Err}
use Rattle.script.specs.Records.{record_at}
use Rattle.reader.specs.declared.ScriptReader.{ScriptReader}
use Rattle.reader.specs.declared.Yielded.{Yielded}

-- The place of a script reader after what it found. After a record it is the one right after it; on a refusal and at the end the reader keeps its place. (7.7)
abbrev pub place_after_record : Result (Option RecordAt) RefusedAt → (at : ℕ) → ℕ
place_after_record (Ok (Some r)) at = r.next
place_after_record (Ok None) at = at
place_after_record (Err r) at = at

-- One step of a script reader at a place of a script: what it finds there, and its place afterwards. (7.7)
abbrev pub yielded : List ℕ → (at : ℕ) → Yielded
yielded s at = record { found = record_at s at; at = place_after_record (record_at s at) at }

-- What a script reader finds: the record, the end or the refusal at its place in the script that it holds. (7.4 to 7.7)
abbrev pub found_by : ScriptReader → Result (Option RecordAt) RefusedAt
found_by reader = record_at reader.script.now reader.at

-- The script reader after one step. It holds the same reference to the script, and its place is the one after what it found. (7.7)
abbrev pub moved : ScriptReader → ScriptReader
moved reader = record { script = reader.script; at = place_after_record (found_by reader) reader.at }
