-- The laws of the script reader: one move, and many moves from a script's start. (docs/RULES.md, section 7.)
use Rattle.std.specs.Prelude.{ℕ, ◌+◌, ◌≤◌, ◌≡◌, List, ◌++◌, length}
use Rattle.kinds.specs.Numbering.{Said, numbered}
use Rattle.numbers.specs.SpelledNumbers.{Bytes}
use Rattle.script.specs.declared.Record.{Record}
use Rattle.script.specs.declared.RecordAt.{RecordAt}
use Rattle.script.specs.Answers.{record_says}
use Rattle.script.specs.SpelledScripts.{spelled_record, spelled_script, CanBeSpelled, AllCanBeSpelled}
use Rattle.reader.specs.declared.ScriptReader.{ScriptReader}
use Rattle.reader.specs.Reader.{yielded, found_by, moved}
use Rattle.reader.specs.ReaderPlaces.{moved_times, placed, AtTheStart, Finds, FindsTheEnd}

-- ---- what is proved about one step (proofs/ReaderMoves.antt)

-- After a record the script reader's place is the one right after the record's spelling. (7.7)
abbrev pub MovesPastARecord : Type 0
MovesPastARecord = (reader : ScriptReader) (found : RecordAt) → Bytes reader.script.now → Finds reader found
    → moved reader ≡ placed reader (reader.at + length (spelled_record found.release))

-- At the end of the script the script reader keeps its place. (7.7)
abbrev pub StaysAtTheEnd : Type 0
StaysAtTheEnd = (reader : ScriptReader) → FindsTheEnd reader → moved reader ≡ reader

-- On a refusal the script reader keeps its place. (7.7)
abbrev pub StaysOnARefusal : Type 0
StaysOnARefusal = (reader : ScriptReader) (said : Said) → record_says (found_by reader) ≡ numbered said → moved reader ≡ reader

-- `yielded`, which takes a script and a place, answers what a script reader there finds and its place afterwards. (7.7)
abbrev pub YieldedByAReader : Type 0
YieldedByAReader = (reader : ScriptReader) → yielded reader.script.now reader.at ≡ record { found = found_by reader; at = (moved reader).at }

-- ---- what is proved about many steps from a script's start

-- A script that begins with these records is read from its start. After one step for each of them the script reader holds the same script, and its place is
-- right after them, whatever bytes follow. (7.7)
abbrev pub StandsAfterTheFirst : Type 0
StandsAfterTheFirst = (reader : ScriptReader) (first : List Record) (rest : List ℕ) → AllCanBeSpelled first
    → AtTheStart reader (spelled_script first ++ rest)
    → moved_times (length first) reader ≡ placed reader (length (spelled_script first))

-- A script reader yields a script's records in their order: after one step for each of the first records, it finds the record right after them. (7.7)
abbrev pub FindsTheNext : Type 0
FindsTheNext = (reader : ScriptReader) (first : List Record) (r : Record) (rest : List ℕ) → AllCanBeSpelled first → CanBeSpelled r
    → AtTheStart reader (spelled_script first ++ (spelled_record r ++ rest))
    → Finds (moved_times (length first) reader) (record { release = r; next = length (spelled_script first) + length (spelled_record r) })

-- After one step for each record the script reader is at the end of the script, and more steps leave it there. (7.7)
abbrev pub EndsAfterTheLast : Type 0
EndsAfterTheLast = (reader : ScriptReader) (rs : List Record) (n : ℕ) → AllCanBeSpelled rs → AtTheStart reader (spelled_script rs) → length rs ≤ n
    → (moved_times n reader ≡ placed reader (length (spelled_script rs))) × FindsTheEnd (moved_times n reader)
