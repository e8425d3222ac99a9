-- The laws of a record's tests: each answer is given exactly when its rule says, and the tests with places agree with those without. (docs/RULES.md, section
-- 8.5.)
use Rattle.std.specs.Prelude.{ℕ, ◌+◌, ◌^◌, ◌≤◌, ◌<◌, ◌≡◌, ◌⊎◌, ◌↔◌, List, [], ◌∷◌, length, get_or, Some, Ok}
use Rattle.kinds.specs.Numbering.{values, refused_with}
use Rattle.numbers.specs.declared.Number.{Number}
use Rattle.script.specs.declared.Record.{Record}
use Rattle.script.specs.declared.RecordAt.{RecordAt}
use Rattle.script.specs.Records.{record_at}
use Rattle.records.specs.declared.Numbers.{Numbers}
use Rattle.records.specs.declared.Ready.{Ready}
use Rattle.records.specs.declared.Asked.{Asked}
use Rattle.records.specs.Numbers.{numbers_at, tested_by, record_tested, places_aside}
use Rattle.records.specs.Answers.{tested_says, record_tested_says}
use Rattle.records.specs.PassedTests.{Passed, NumbersRefused, RecordFits}

-- ---- what is proved about the tests (proofs/Tests.antt and Alone.antt)

-- A record is ready exactly where all three of its numbers pass their tests. (8.5, steps 1 to 6)
abbrev pub TestReadyMeans : Type 0
TestReadyMeans = (limits : List ℕ) (time : ℕ) (n : Numbers) (r : Ready)
    → (tested_says (tested_by limits time n) ≡ values (r.time.0 ∷ r.row.0 ∷ r.cost ∷ r.next ∷ [])) ↔ Passed limits time n r

-- A record is refused with a number and a place exactly where the first test that it does not pass says so. (8.5, 10.1)
abbrev pub TestRefusedMeans : Type 0
TestRefusedMeans = (limits : List ℕ) (time : ℕ) (n : Numbers) (number place : ℕ)
    → (tested_says (tested_by limits time n) ≡ refused_with number place) ↔ NumbersRefused limits time n number place

-- A record that was read already is ready exactly where it passes its tests. It then asks for a job of its row, with its cost, at its script time. (8.2, 10.7)
abbrev pub RecordReadyMeans : Type 0
RecordReadyMeans = (limits : List ℕ) (time : ℕ) (r : Record) (a : Asked)
    → (record_tested_says (record_tested limits time r) ≡ values (a.time.0 ∷ a.row.0 ∷ a.cost ∷ []))
    ↔ (RecordFits limits time r × (a.time.0 ≡ time + r.gap) × (a.row ≡ r.row) × (a.cost ≡ r.cost))

-- A record that was read already is refused with 10 exactly where its script time is above 2^40. (8.5, step 2)
abbrev pub RecordTooLateMeans : Type 0
RecordTooLateMeans = (limits : List ℕ) (time : ℕ) (r : Record) → (record_tested_says (record_tested limits time r) ≡ refused_with 10 0) ↔ (2 ^ 40 < time + r.gap)

-- A record that was read already is refused with 6 exactly where its script time is at most 2^40 and its row number is not in use. (8.5, step 4)
abbrev pub RecordNoRowMeans : Type 0
RecordNoRowMeans = (limits : List ℕ) (time : ℕ) (r : Record)
    → (record_tested_says (record_tested limits time r) ≡ refused_with 6 0) ↔ ((time + r.gap ≤ 2 ^ 40) × (length limits ≤ r.row.0))

-- A record that was read already is refused with 7 exactly where its script time is at most 2^40, its row number is in use, and its cost is 0 or above the
-- row's limit. (8.5, step 6)
abbrev pub RecordCostMeans : Type 0
RecordCostMeans = (limits : List ℕ) (time : ℕ) (r : Record)
    → (record_tested_says (record_tested limits time r) ≡ refused_with 7 0)
    ↔ ((time + r.gap ≤ 2 ^ 40) × (r.row.0 < length limits) × ((r.cost ≡ 0) ⊎ (get_or limits r.row.0 0 < r.cost)))

-- Where all three numbers can be read, the tests of the numbers and the tests of the record that they make give the same answer, places aside. (10.7)
abbrev pub TestedAlike : Type 0
TestedAlike = (limits : List ℕ) (time : ℕ) (n : Numbers) (gap row cost : Number)
    → n.gap.read ≡ Ok gap → n.row.read ≡ Ok row → n.cost.read ≡ Ok cost
    → places_aside (tested_by limits time n) ≡ record_tested limits time (record { gap = gap.value; row = record { 0 = row.value }; cost = cost.value })

-- Where a script has a record at a place, the tests of its numbers there and the tests of that record give the same answer, places aside. (10.7)
abbrev pub TestedInAScript : Type 0
TestedInAScript = (limits : List ℕ) (time : ℕ) (s : List ℕ) (at : ℕ) (found : RecordAt) → record_at s at ≡ Ok (Some found)
    → places_aside (tested_by limits time (numbers_at s at)) ≡ record_tested limits time found.release
