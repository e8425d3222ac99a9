-- How records and scripts are spelled, and what it means that a script reads as records. (docs/RULES.md, section 7.)
use Rattle.std.specs.Prelude.{ℕ, ◌+◌, ◌≤◌, ◌<◌, ◌≡◌, length, drop, Some, None, Ok}
use mathlib.Core.List.{List, [], ◌∷◌, ◌++◌, flatten, map, Memᴰ}
use Rattle.numbers.specs.declared.Number.{Number}
use Rattle.numbers.specs.SpelledNumbers.{Spelled}
use Rattle.numbers.specs.BadByte.{BadByteAt}
use Rattle.numbers.specs.Spelling.{max_number, spelling}
use Rattle.script.specs.declared.Record.{Record}
use Rattle.script.specs.declared.RecordAt.{RecordAt}
use Rattle.script.specs.Records.{record_at}

-- A record is spelled as its three numbers: the gap, the row number and the cost. (7.1)
abbrev pub spelled_record : Record → List ℕ
spelled_record r = spelling r.gap ++ (spelling r.row.0 ++ spelling r.cost)

-- A script is spelled as its records, one after the other. (7.1)
abbrev pub spelled_script : List Record → List ℕ
spelled_script rs = flatten (map spelled_record rs)

-- A record can be spelled when each of its three numbers is at most 2^42 − 1. (2.4)
pub record CanBeSpelled (r : Record) : Type 0 where
  pub gap : r.gap ≤ max_number
  pub row : r.row.0 ≤ max_number
  pub cost : r.cost ≤ max_number

-- What is known about a record that was read at a place. It can be spelled, its spelling stands at that place, and the next place is right after the spelling,
-- inside the script. (7.4)
pub record SpelledHere (s : List ℕ) (at : ℕ) (found : RecordAt) : Type 0 where
  pub in_range : CanBeSpelled found.release
  pub stands_here : drop at s ≡ spelled_record found.release ++ drop found.next s
  pub ends : found.next ≡ at + length (spelled_record found.release)
  pub forward : at < found.next
  pub within : found.next ≤ length s

-- The first of a record's three numbers that can't be read has its bad byte at `place`, for a record that starts at `at`. This is the gap, or the row number
-- after a gap that can be read, or the cost after both. (7.6)
pub data NoNumberOf (s : List ℕ) (at place : ℕ) : Type 0 where
  no_gap : BadByteAt s at place → NoNumberOf s at place
  no_row : (gap : Number) → Spelled s at gap → BadByteAt s gap.next place → NoNumberOf s at place
  no_cost : (gap row : Number) → Spelled s at gap → Spelled s gap.next row → BadByteAt s row.next place → NoNumberOf s at place

-- Each of these records can be spelled.
abbrev pub AllCanBeSpelled : List Record → Type 0
AllCanBeSpelled rs = (r : Record) → Memᴰ r rs → CanBeSpelled r

-- From a place to the end of the script stands the spelling of these records. (7.1)
pub record SpelledToTheEnd (s : List ℕ) (at : ℕ) (rs : List Record) : Type 0 where
  pub in_range : AllCanBeSpelled rs
  pub stands_here : drop at s ≡ spelled_script rs
  pub within : at ≤ length s

-- A script is read from a place on as these records: none at its end, and else the record there and those read from the place after it. (7.4, 7.5)
pub data Reads (s : List ℕ) : (at : ℕ) → List Record → Type 0 where
  ended : {at : ℕ} → record_at s at ≡ Ok None → Reads s at []
  then : {at : ℕ} (found : RecordAt) {rs : List Record} → record_at s at ≡ Ok (Some found) → Reads s found.next rs → Reads s at (found.release ∷ rs)
