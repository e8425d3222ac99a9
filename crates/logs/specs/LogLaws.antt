-- The laws of log records and of whole logs. (docs/RULES.md, section 8.)
use Rattle.std.specs.Prelude.{ℕ, ◌+◌, ◌-◌, ◌≤◌, ◌<◌, ◌≡◌, ◌↔◌, true, false, List, [], ◌∷◌, ◌++◌, length, Result, Ok, Err}
use Rattle.std.proofs.Math.Option.{some}
use borrow.Rule.Slice.PartMut.{mid_of, put_mid}
use Rattle.kinds.specs.declared.Finish.{Finish}
use Rattle.kinds.specs.declared.Refusal.{Refusal}
use Rattle.kinds.specs.Numbering.{values, refused_with}
use Rattle.numbers.specs.Answers.{written_says}
use Rattle.numbers.specs.SpelledNumbers.{Bytes}
use Rattle.logs.specs.Log.{values_of, spelled_finish, all_in_range, written_record, rest_after}
use Rattle.logs.specs.SpelledLogs.{spelled_log, EachInRange, FinishAt, finish_read_at, ReadsAs, FinishSpelledHere, WroteRecord, RecordBehind, HoldsRecords}

-- ---- what is proved about records (proofs/Logs.antt, proofs/Answers.antt)

-- The spelling of a record has 5 to 30 bytes: it is five numbers of at most 6 groups. (2.2, 8.8)
abbrev pub RecordLength : Type 0
RecordLength = (f : Finish) → (5 ≤ length (spelled_finish f)) × (length (spelled_finish f) ≤ 30)

-- A record whose numbers have spellings reads back as itself from its own spelling, whatever stands before and after it. (2.5)
abbrev pub FinishReadsBack : Type 0
FinishReadsBack = (front : List ℕ) (f : Finish) (rest : List ℕ) → all_in_range (values_of f) ≡ true
    → finish_read_at (front ++ (spelled_finish f ++ rest)) (length front) ≡ some (record { finish = f; next = length front + length (spelled_finish f) })

-- Where bytes read as a record at a place, exactly that record's spelling stands there. (2.5)
abbrev pub FinishIsSpelled : Type 0
FinishIsSpelled = (s : List ℕ) (at : ℕ) (found : FinishAt) → Bytes s → finish_read_at s at ≡ some found → FinishSpelledHere s at found

-- If two records, whose numbers have spellings, are spelled alike with some bytes after them, the records are the same, and so are the bytes after them. So the
-- bytes of a log settle its records. (2.5)
abbrev pub RecordsDiffer : Type 0
RecordsDiffer = (f g : Finish) (s t : List ℕ) → all_in_range (values_of f) ≡ true → all_in_range (values_of g) ≡ true
    → spelled_finish f ++ s ≡ spelled_finish g ++ t → (f ≡ g) × (s ≡ t)

-- The record writer answers a length exactly where the record's numbers have spellings, its own spelling has that length, and there is room for it. (8.10)
abbrev pub RecordWritten : Type 0
RecordWritten = (f : Finish) (room took : ℕ) → (written_says (written_record f room) ≡ values (took ∷ [])) ↔ WroteRecord f room took

-- A record is refused with 25 exactly where one of its numbers is above 2^42 - 1. It is refused with 12 exactly where none of them is and there is no room for
-- it. (8.10)
abbrev pub RecordRefusals : Type 0
RecordRefusals = (f : Finish) (room : ℕ)
    → ((written_says (written_record f room) ≡ refused_with 25 0) ↔ (all_in_range (values_of f) ≡ false))
    × ((written_says (written_record f room) ≡ refused_with 12 0) ↔ ((all_in_range (values_of f) ≡ true) × (room < length (spelled_finish f))))

-- ---- what is proved about logs

-- A log reads back as its records, where every number of them has a spelling. (2.5, 8.8)
abbrev pub SpelledLogReadsBack : Type 0
SpelledLogReadsBack = (fs : List Finish) → EachInRange fs → ReadsAs (spelled_log fs) 0 fs

-- Bytes that read as some records from their start are exactly the spelling of the log of these records. (2.5)
abbrev pub LogIsSpelled : Type 0
LogIsSpelled = (s : List ℕ) (fs : List Finish) → Bytes s → ReadsAs s 0 fs → EachInRange fs × (s ≡ spelled_log fs)

-- From any place on, bytes read as one list of records at most.
abbrev pub ReadsOneWay : Type 0
ReadsOneWay = (s : List ℕ) (at : ℕ) (fs gs : List Finish) → ReadsAs s at fs → ReadsAs s at gs → fs ≡ gs

-- Two different lists of records have different logs, where every number of them has a spelling. (2.5)
abbrev pub OneLog : Type 0
OneLog = (fs gs : List Finish) → EachInRange fs → EachInRange gs → spelled_log fs ≡ spelled_log gs → fs ≡ gs

-- ---- a log whose rest, from a place on, is lent to the record writer

-- What the writer ensures about the rest of a log that it is lent settles the whole log. `mid_of` is the part that `&mut log[at..]` lends, and `put_mid` is the
-- whole log once the part is back. (8.9)
abbrev pub RestOfLog : Type 0
RestOfLog = (log : List ℕ) (at : ℕ) (f : Finish) (answer : Result ℕ Refusal) (rest : List ℕ)
    → answer ≡ written_record f (length (mid_of at (length log - at) log)) → rest ≡ rest_after answer f (mid_of at (length log - at) log)
    → RecordBehind log at f answer (put_mid at (length log - at) log rest)

-- If the log buffer holds some records up to a place, and one more record is written there, it holds that record too, up to the place after it. (8.9)
abbrev pub LogGrows : Type 0
LogGrows = (fs : List Finish) (log₀ log : List ℕ) (at : ℕ) → HoldsRecords fs log₀ log at → (f : Finish) (took : ℕ) (after : List ℕ)
    → RecordBehind log at f (Ok took) after → HoldsRecords (fs ++ (f ∷ [])) log₀ after (at + took)

-- A record that is refused leaves the whole log as it was. (8.10)
abbrev pub LogKept : Type 0
LogKept = (log : List ℕ) (at : ℕ) (f : Finish) (r : Refusal) (after : List ℕ) → RecordBehind log at f (Err r) after → after ≡ log
