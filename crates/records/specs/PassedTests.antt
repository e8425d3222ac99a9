-- What it means that a record passes its tests, or is refused by one of them. (docs/RULES.md, section 8.5.)
use Rattle.std.specs.Prelude.{ℕ, ◌+◌, ◌^◌, ◌≤◌, ◌<◌, ◌≡◌, ◌⊎◌, List, length, get_or, Ok, Err}
use Rattle.kinds.specs.Numbering.{refusal_number}
use Rattle.kinds.specs.declared.RefusedAt.{RefusedAt}
use Rattle.numbers.specs.declared.Number.{Number}
use Rattle.script.specs.declared.Record.{Record}
use Rattle.records.specs.declared.Numbers.{Numbers}
use Rattle.records.specs.declared.Ready.{Ready}

-- The gap was read, and the script time is at most 2^40. (8.5, steps 1 and 2)
pub record GapFits (time : ℕ) (n : Numbers) (gap : Number) : Type 0 where
  pub gap_read : n.gap.read ≡ Ok gap
  pub in_time : time + gap.value ≤ 2 ^ 40

-- The gap passed its tests, and the row number was read and is in use. (8.5, steps 1 to 4)
pub record RowFits (limits : List ℕ) (time : ℕ) (n : Numbers) (gap row : Number) : Type 0 where
  pub gap_fits : GapFits time n gap
  pub row_read : n.row.read ≡ Ok row
  pub in_use : row.value < length limits

-- All three numbers passed their tests, and `r` is the release that the record asks for. (8.5, steps 1 to 6)
pub record Passed (limits : List ℕ) (time : ℕ) (n : Numbers) (r : Ready) : Type 0 where
  pub gap : Number
  pub row : Number
  pub cost : Number
  pub row_fits : RowFits limits time n gap row
  pub cost_read : n.cost.read ≡ Ok cost
  pub some_cost : 1 ≤ cost.value
  pub allowed : cost.value ≤ get_or limits row.value 0
  pub asks_for : r ≡ record { time = record { 0 = time + gap.value }; row = record { 0 = row.value }; cost = cost.value; next = cost.next }

-- A record is refused by the first test that its numbers do not pass, with a number and a place. (8.5, steps 1 to 6)
pub data NumbersRefused (limits : List ℕ) (time : ℕ) (n : Numbers) : (number place : ℕ) → Type 0 where
  no_gap : (r : RefusedAt) → n.gap.read ≡ Err r → NumbersRefused limits time n (refusal_number r.refusal) r.place
  too_late : (gap : Number) → n.gap.read ≡ Ok gap → 2 ^ 40 < time + gap.value → NumbersRefused limits time n 10 n.gap.place
  no_row_number : (gap : Number) → GapFits time n gap → (r : RefusedAt) → n.row.read ≡ Err r
      → NumbersRefused limits time n (refusal_number r.refusal) r.place
  no_such_row : (gap row : Number) → GapFits time n gap → n.row.read ≡ Ok row → length limits ≤ row.value
      → NumbersRefused limits time n 6 n.row.place
  no_cost : (gap row : Number) → RowFits limits time n gap row → (r : RefusedAt) → n.cost.read ≡ Err r
      → NumbersRefused limits time n (refusal_number r.refusal) r.place
  cost_out_of_range : (gap row cost : Number) → RowFits limits time n gap row → n.cost.read ≡ Ok cost
      → (cost.value < 1) ⊎ (get_or limits row.value 0 < cost.value) → NumbersRefused limits time n 7 n.cost.place

-- The record's script time is at most 2^40, its row number is in use, and its cost is from 1 to the most that a job of the row may cost. (8.5, steps 2, 4 and
-- 6)
pub record RecordFits (limits : List ℕ) (time : ℕ) (r : Record) : Type 0 where
  pub in_time : time + r.gap ≤ 2 ^ 40
  pub in_use : r.row.0 < length limits
  pub some_cost : 1 ≤ r.cost
  pub allowed : r.cost ≤ get_or limits r.row.0 0
