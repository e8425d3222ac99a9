-- The laws of records, of a script's numbers and of whole scripts. (docs/RULES.md, section 7.)
use Rattle.std.specs.Prelude.{ℕ, ◌+◌, ◌≤◌, ◌<◌, ◌≡◌, ◌↔◌, List, [], ◌∷◌, ◌++◌, length, Some, Ok}
use Rattle.kinds.specs.Numbering.{Said, numbered, values, refusal_at, refused_with}
use Rattle.numbers.specs.SpelledNumbers.{Bytes}
use Rattle.numbers.specs.BadByte.{BadByteAt}
use Rattle.numbers.specs.Reading.{read_at}
use Rattle.numbers.specs.Answers.{number_says}
use Rattle.script.specs.declared.Record.{Record}
use Rattle.script.specs.declared.RecordAt.{RecordAt}
use Rattle.script.specs.Records.{script_number, record_at}
use Rattle.script.specs.Answers.{record_says}
use Rattle.script.specs.SpelledScripts.{spelled_record, spelled_script, CanBeSpelled, SpelledHere, NoNumberOf, AllCanBeSpelled, SpelledToTheEnd, Reads}

-- ---- what is proved about a record (proofs/Scripts.antt, proofs/Answers.antt)

-- A record reads back as itself from its spelling, whatever bytes stand before and after it. (2.5, 7.4)
abbrev pub RecordReadsBack : Type 0
RecordReadsBack = (front : List ℕ) (r : Record) (rest : List ℕ) → CanBeSpelled r
    → record_at (front ++ (spelled_record r ++ rest)) (length front)
    ≡ Ok (Some (record { release = r; next = length front + length (spelled_record r) }))

-- Where a record is read, its spelling stands. (2.5, 7.4)
abbrev pub RecordIsSpelled : Type 0
RecordIsSpelled = (s : List ℕ) (at : ℕ) (found : RecordAt) → Bytes s → record_at s at ≡ Ok (Some found) → SpelledHere s at found

-- A script ends at its length and nowhere else. (7.5)
abbrev pub EndIsTheLength : Type 0
EndIsTheLength = (s : List ℕ) (at : ℕ) → (record_says (record_at s at) ≡ values []) ↔ (at ≡ length s)

-- A record at a place past the end is refused with 14, at the script's length. (7.5)
abbrev pub PastTheEnd : Type 0
PastTheEnd = (s : List ℕ) (at : ℕ) → length s < at → record_says (record_at s at) ≡ refused_with 14 (length s)

-- Before the script's end, a record is refused with 14, at the bad byte of the first of its three numbers that can't be read. (7.6)
abbrev pub RefusedAtANumber : Type 0
RefusedAtANumber = (s : List ℕ) (at : ℕ) (said : Said) → Bytes s → at < length s → record_says (record_at s at) ≡ numbered said
    → (said ≡ refusal_at 14 said.first) × NoNumberOf s at said.first

-- A record is refused with 14 wherever the first of its three numbers that can't be read has its bad byte. (7.6)
abbrev pub RefusedIfNoNumber : Type 0
RefusedIfNoNumber = (s : List ℕ) (at place : ℕ) → Bytes s → at < length s → NoNumberOf s at place
    → record_says (record_at s at) ≡ refused_with 14 place

-- ---- what is proved about a number of a script (proofs/Answers.antt)

-- A number of a script is read exactly where the number reader reads one, with the same value and the same place after it. (2.10)
abbrev pub NumberIsRead : Type 0
NumberIsRead = (s : List ℕ) (at n next : ℕ)
    → (number_says (script_number s at) ≡ values (n ∷ next ∷ [])) ↔ (number_says (read_at s at) ≡ values (n ∷ next ∷ []))

-- A script's number is refused with 14 exactly where the number reader refuses it with 1, and at the same place. (2.10)
abbrev pub NumberRefused : Type 0
NumberRefused = (s : List ℕ) (at : ℕ) (said : Said) → (number_says (script_number s at) ≡ numbered said)
    ↔ ((said ≡ refusal_at 14 said.first) × (number_says (read_at s at) ≡ refused_with 1 said.first))

-- For a number that starts at the script's end or before it, the place of the 14 is exactly the number's bad byte. (7.6)
abbrev pub NumberRefusedAtTheBadByte : Type 0
NumberRefusedAtTheBadByte = (s : List ℕ) (at place : ℕ) → Bytes s → at ≤ length s
    → (number_says (script_number s at) ≡ refused_with 14 place) ↔ BadByteAt s at place

-- A number at a place past the end is refused with 14, at the script's length. (2.10, 7.5)
abbrev pub NumberPastTheEnd : Type 0
NumberPastTheEnd = (s : List ℕ) (at : ℕ) → length s < at → number_says (script_number s at) ≡ refused_with 14 (length s)

-- ---- what is proved about a script (proofs/Scripts.antt)

-- Bytes are read from a place on as these records exactly when each can be spelled and the spellings stand there, one after the other to the end. (7.1, 7.4)
abbrev pub ScriptIsRead : Type 0
ScriptIsRead = (s : List ℕ) (at : ℕ) (rs : List Record) → Bytes s → Reads s at rs ↔ SpelledToTheEnd s at rs

-- A script reads back as the same records from its spelling, whatever bytes stand before it. (2.5, 7.4)
abbrev pub ScriptReadsBack : Type 0
ScriptReadsBack = (front : List ℕ) (rs : List Record) → AllCanBeSpelled rs → Reads (front ++ spelled_script rs) (length front) rs

-- From one place on a script is read as one list of records at most. (7.4)
abbrev pub ReadInOneWay : Type 0
ReadInOneWay = (s : List ℕ) (at : ℕ) (rs others : List Record) → Reads s at rs → Reads s at others → rs ≡ others

-- Different lists of records have different spellings. (2.5, 7.1)
abbrev pub SpellingsOfScriptsDiffer : Type 0
SpellingsOfScriptsDiffer = (rs others : List Record) → AllCanBeSpelled rs → AllCanBeSpelled others → spelled_script rs ≡ spelled_script others → rs ≡ others
