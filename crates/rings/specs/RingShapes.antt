-- What it means that rings are whole, that a row's ring is ready, and that the rings hold the kept due times of rows. (docs/RULES.md, section 4.)
use Rattle.std.specs.Prelude.{ℕ, ◌≤◌, ◌<◌, ◌≡◌, true, List, length, get_or}
use Rattle.table.specs.declared.Row.{Row}
use Rattle.table.specs.Limits.{max_rows}
use Rattle.table.specs.Rows.{row_in_range}
use Rattle.table.specs.Tables.{no_row}
use Rattle.due.specs.declared.Kept.{Kept}
use Rattle.due.specs.Kept.{no_kept}
use Rattle.rings.specs.declared.Rings.{Rings}
use Rattle.rings.specs.Rings.{max_times, kept_in, ring_fits}

-- Each of the three arrays has all its places. Every array that the call is lent has them, by its type.
pub record AllRingPlaces (g : Rings) : Type 0 where
  pub of_times : length g.times ≡ max_times
  pub of_many : length g.many ≡ max_rows
  pub of_oldest : length g.oldest ≡ max_rows

-- A row is ready for a due time when its number is below the limit of rows, its four values are in range, and the ring of its number can be the row's. (3.1,
-- 3.2, 10.7)
pub record Ready (g : Rings) (number : ℕ) (row : Row) : Type 0 where
  pub in_use : number < max_rows
  pub in_range : row_in_range row ≡ true
  pub fits : ring_fits g number row ≡ true

-- A ring is in shape when it counts at most x due times, its oldest stands at a place below x, and its oldest stands at place 0 until x are kept. (10.7)
pub record InShape (many oldest x : ℕ) : Type 0 where
  pub few : many ≤ x
  pub inside : oldest < x
  pub starts : many < x → oldest ≡ 0

-- The rings hold the kept due times of the first n rows. Each of these rows is ready for its next due time. (4.6)
pub record RingsHold (g : Rings) (n : ℕ) (rows : List Row) (kept : List Kept) : Type 0 where
  pub all_places : AllRingPlaces g
  pub ready : (row : ℕ) → row < n → Ready g row (get_or rows row no_row)
  pub holds : (row : ℕ) → row < n → get_or kept row no_kept ≡ kept_in g row
