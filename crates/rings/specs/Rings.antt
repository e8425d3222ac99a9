-- The kept due times of all rows in three arrays. Each row has a ring of places of its own. This page says where a row's due times stand, what the next due
-- time is, and how the arrays change when it is given. (docs/RULES.md, section 4.)
use Rattle.std.specs.Prelude.{ℕ, zero, suc, ◌+◌, ◌*◌, Bool, cond, ◌&&◌, ◌||◌, List, [], ◌∷◌, ◌++◌, map, leb, ltb, eqb, take, drop, get_or, set, replicate}
use Rattle.std.specs.Prelude.{Result, Ok, Err}
use Rattle.kinds.specs.declared.Tick.{Tick}
use Rattle.kinds.specs.declared.Refusal.{Refusal}
use Rattle.kinds.specs.declared.Refusal.TheVariants.{ValueOutOfRange, NoSuchRow, RunNotSound}
use Rattle.table.specs.declared.Row.{Row}
use Rattle.table.specs.Limits.{max_rows}
use Rattle.table.specs.Rows.{row_in_range}
use Rattle.due.specs.declared.Kept.{Kept}
use Rattle.due.specs.Kept.{max_kept, nothing_kept, kept_as, due_of}
use Rattle.rings.specs.declared.Rings.{Rings}

-- ---- the arrays

-- There is room for the kept due times of as many rows as a table may have, for each row as many as x may be. (3.1, 3.2, 4.6)
abbrev pub max_times : ℕ
max_times = max_rows * max_kept

-- The rings that three arrays make.
abbrev pub rings : (times many oldest : List ℕ) → Rings
rings times many oldest = record { times = times; many = many; oldest = oldest }

-- The rings before the first release: every entry is 0, so no due time is kept. (6.3)
abbrev pub empty_rings : Rings
empty_rings = rings (replicate max_times 0) (replicate max_rows 0) (replicate max_rows 0)

-- The n entries of a list from the place `at` on. An entry past the list's end reads as 0, which never happens: every lent array is long enough.
unfoldable pub entries_from : (n at : ℕ) → List ℕ → List ℕ
entries_from zero at l = []
entries_from (suc n) at l = get_or l at 0 ∷ entries_from n (suc at) l

-- The places of a row's ring are as many as x may be. The rings stand one behind the other, in the order of the row numbers. (3.2)
abbrev pub ring_of : Rings → (row : ℕ) → List ℕ
ring_of g row = entries_from max_kept (row * max_kept) g.times

-- How many due times a row keeps. (4.6)
abbrev pub many_of : Rings → (row : ℕ) → ℕ
many_of g row = get_or g.many row 0

-- The place in its ring at which a row's oldest kept due time stands. (4.6)
abbrev pub oldest_of : Rings → (row : ℕ) → ℕ
oldest_of g row = get_or g.oldest row 0

-- ---- what a row's ring holds

-- The used places of a ring, oldest first: from the oldest's place on to the last used one, and then from place 0 on to the one before the oldest's.
abbrev pub oldest_first : (many oldest : ℕ) → List ℕ → List ℕ
oldest_first many oldest ring = drop oldest (take many ring) ++ take oldest (take many ring)

-- A number as a time.
abbrev pub as_tick : ℕ → Tick
as_tick t = record { 0 = t }

-- The kept due times of a row, oldest first, as its ring holds them. (4.6)
unfoldable pub kept_in : Rings → (row : ℕ) → Kept
kept_in g row = kept_as nothing_kept (map as_tick (oldest_first (many_of g row) (oldest_of g row) (ring_of g row)))

-- A ring can be a row's when it counts at most x due times, its oldest stands at a place below x, and its oldest stands at place 0 until x are kept. (10.7)
abbrev pub can_be : (many oldest x : ℕ) → Bool
can_be many oldest x = (leb many x && ltb oldest x) && (eqb oldest 0 || eqb many x)

-- The ring of this row number can be the ring of this row. (10.7)
abbrev pub ring_fits : Rings → (number : ℕ) → Row → Bool
ring_fits g number row = can_be (many_of g number) (oldest_of g number) row.x

-- ---- the next due time

-- The due time of the next job of the row with this number, released at t with a stated cost, by what the row's ring holds. A row number that no table can
-- have is refusal 6, a row out of range is 3, a ring that can't be the row's is 11, and a due time above 2^40 is 9. (4.2, 4.3, 4.7, 10.7)
unfoldable pub due_in : Rings → (number : ℕ) → Row → (t cost : ℕ) → Result Tick Refusal
due_in g number row t cost =
    cond (ltb number max_rows)
    (cond (row_in_range row) (cond (ring_fits g number row) (due_of (kept_in g number) row t cost) (Err RunNotSound)) (Err ValueOutOfRange))
    (Err NoSuchRow)

-- The place after the oldest's in a ring of x places. After the last of them it is place 0.
abbrev pub place_after_oldest : (oldest x : ℕ) → ℕ
place_after_oldest oldest x = cond (ltb (oldest + 1) x) (oldest + 1) 0

-- The rings with one due time more for a row. While fewer than x are kept, it goes into the first unused place of the row's ring. Once x are kept, it takes the
-- oldest's place, and the place after that becomes the oldest's. (4.6)
unfoldable pub stored : Rings → (number : ℕ) → Row → (due : ℕ) → Rings
stored g number row due =
    cond (ltb (many_of g number) row.x)
    (rings (set g.times (number * max_kept + many_of g number) due) (set g.many number (many_of g number + 1)) g.oldest)
    (rings (set g.times (number * max_kept + oldest_of g number) due) g.many (set g.oldest number (place_after_oldest (oldest_of g number) row.x)))

-- The rings after an answer. A due time that is given is stored for its row. A refusal leaves every due time alone. (4.4, 4.6, 10.7)
abbrev pub rings_after_due : Result Tick Refusal → Rings → (number : ℕ) → Row → Rings
rings_after_due (Ok t) g number row = stored g number row t.0
rings_after_due (Err r) g number row = g
