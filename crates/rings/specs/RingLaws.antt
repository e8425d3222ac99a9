-- The laws of rings: a due time is the row's, it is kept, and each answer is given exactly when it should be. (docs/RULES.md, section 4.)
use Rattle.std.specs.Prelude.{ℕ, ◌≤◌, ◌<◌, ◌≡◌, ◌↔◌, ◌≢◌, true, false, List, [], ◌∷◌, length, get_or, set, replicate, Result, Ok}
use Rattle.kinds.specs.Numbering.{max_time, values, refused_with}
use Rattle.kinds.specs.declared.Tick.{Tick}
use Rattle.kinds.specs.declared.Refusal.{Refusal}
use Rattle.theory.specs.DueTimes.{due_time}
use Rattle.table.specs.declared.Row.{Row}
use Rattle.table.specs.Limits.{max_rows}
use Rattle.table.specs.Rows.{row_in_range}
use Rattle.table.specs.Tables.{no_row}
use Rattle.due.specs.declared.Kept.{Kept}
use Rattle.due.specs.Kept.{nothing_kept, no_kept, earlier, due_of, kept_with}
use Rattle.due.specs.Answers.{due_says}
use Rattle.due.specs.KeptTimes.{GivenDue}
use Rattle.rings.specs.declared.Rings.{Rings}
use Rattle.rings.specs.Rings.{empty_rings, kept_in, can_be, ring_fits, due_in, rings_after_due}
use Rattle.rings.specs.RingShapes.{AllRingPlaces, Ready, InShape, RingsHold}

-- ---- a row's ring (proofs/Keeping.antt)

-- The test `can_be` passes exactly the rings that are in shape. (10.7)
abbrev pub CanBeMeans : Type 0
CanBeMeans = (many oldest x : ℕ) → (can_be many oldest x ≡ true) ↔ InShape many oldest x

-- A due time that is given to a row that is ready is kept. The row's ring then holds the newest x of what it held and the new one. (4.6)
abbrev pub KeepsInTheRing : Type 0
KeepsInTheRing = (g : Rings) (number : ℕ) (row : Row) (t : Tick) → AllRingPlaces g → Ready g number row
    → kept_in (rings_after_due (Ok t) g number row) number ≡ kept_with (kept_in g number) row t

-- A row that is ready for a due time is still ready after any answer.
abbrev pub StaysReady : Type 0
StaysReady = (g : Rings) (number : ℕ) (row : Row) (answer : Result Tick Refusal) → AllRingPlaces g → Ready g number row
    → Ready (rings_after_due answer g number row) number row

-- An answer for one row leaves the ring of every other row alone. That ring holds the same due times, and can be the ring of the same rows. (4.1)
abbrev pub OthersStay : Type 0
OthersStay = (g : Rings) (number : ℕ) (row : Row) (answer : Result Tick Refusal) → Ready g number row → (other : ℕ) → other ≢ number
    → (kept_in (rings_after_due answer g number row) other ≡ kept_in g other)
    × ((its : Row) → ring_fits (rings_after_due answer g number row) other its ≡ ring_fits g other its)

-- ---- when each answer is given (proofs/RingAnswers.antt)

-- Where a row is ready, the answer is the due time that the row's kept due times give it. (4.2, 4.3, 4.6)
abbrev pub DueByTheRing : Type 0
DueByTheRing = (g : Rings) (number : ℕ) (row : Row) (t cost : ℕ) → Ready g number row → due_in g number row t cost ≡ due_of (kept_in g number) row t cost

-- The answer says 6 exactly when the row number is the limit of rows or more. (10.7)
abbrev pub NoSuchRowMeans : Type 0
NoSuchRowMeans = (g : Rings) (number : ℕ) (row : Row) (t cost : ℕ) → (due_says (due_in g number row t cost) ≡ refused_with 6 0) ↔ (max_rows ≤ number)

-- The answer says 3 exactly when the row number is below the limit of rows and the row is out of range. (3.2, 10.7)
abbrev pub RowOutOfRangeMeans : Type 0
RowOutOfRangeMeans = (g : Rings) (number : ℕ) (row : Row) (t cost : ℕ)
    → (due_says (due_in g number row t cost) ≡ refused_with 3 0) ↔ ((number < max_rows) × (row_in_range row ≡ false))

-- The answer says 11 exactly when the row number is below the limit of rows, the row is in range, and the ring can't be the row's. (10.7)
abbrev pub NotTheRowsMeans : Type 0
NotTheRowsMeans = (g : Rings) (number : ℕ) (row : Row) (t cost : ℕ)
    → (due_says (due_in g number row t cost) ≡ refused_with 11 0) ↔ ((number < max_rows) × (row_in_range row ≡ true) × (ring_fits g number row ≡ false))

-- The answer says 9 exactly when the row is ready and its due time, by the due times in its ring, is above 2^40. (4.7)
abbrev pub RingTooLateMeans : Type 0
RingTooLateMeans = (g : Rings) (number : ℕ) (row : Row) (t cost : ℕ) → (due_says (due_in g number row t cost) ≡ refused_with 9 0)
    ↔ (Ready g number row × (max_time < due_time row.x row.y row.d (earlier (kept_in g number)) t))

-- The answer says the time v exactly when the row is ready and v is its due time by the due times in its ring, at most 2^40. (4.2, 4.3, 4.7)
abbrev pub RingGivenMeans : Type 0
RingGivenMeans = (g : Rings) (number : ℕ) (row : Row) (t cost v : ℕ)
    → (due_says (due_in g number row t cost) ≡ values (v ∷ [])) ↔ (Ready g number row × GivenDue (kept_in g number) row t v)

-- ---- the rings of a table's rows (proofs/Holding.antt)

-- Before the first release the rings hold no due time for any row, as a fresh run does. (6.3)
abbrev pub RingsEmpty : Type 0
RingsEmpty = (n : ℕ) (rows : List Row) → n ≤ max_rows → ((row : ℕ) → row < n → row_in_range (get_or rows row no_row) ≡ true)
    → RingsHold empty_rings n rows (replicate max_rows nothing_kept)

-- The due time by a row's ring is the due time by the row's kept due times. (4.2, 4.3, 4.6)
abbrev pub DueIsTheRows : Type 0
DueIsTheRows = (g : Rings) (n : ℕ) (rows : List Row) (kept : List Kept) → RingsHold g n rows kept → (number t cost : ℕ) → number < n
    → due_in g number (get_or rows number no_row) t cost ≡ due_of (get_or kept number no_kept) (get_or rows number no_row) t cost

-- After a due time is given to a row, the rings hold the kept due times of every row, with the new one kept for that row. (4.6)
abbrev pub HoldsOn : Type 0
HoldsOn = (g : Rings) (n : ℕ) (rows : List Row) (kept : List Kept) → RingsHold g n rows kept → n ≤ length kept → (number : ℕ) (t : Tick) → number < n
    → RingsHold (rings_after_due (Ok t) g number (get_or rows number no_row)) n rows
    (set kept number (kept_with (get_or kept number no_kept) (get_or rows number no_row) t))
