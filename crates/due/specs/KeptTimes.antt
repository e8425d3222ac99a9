-- What it means that a row keeps its newest due times, that a due time is given, and that kept due times are sound. (docs/RULES.md, section 4.)
use Rattle.std.specs.Prelude.{ℕ, ◌≤◌, ◌<◌, ◌≡◌, true, List, length, take, get_or}
use Rattle.kinds.specs.Numbering.{max_time}
use Rattle.theory.specs.DueTimes.{due_time}
use Rattle.table.specs.declared.Row.{Row}
use Rattle.table.specs.Rows.{row_in_range}
use Rattle.due.specs.declared.Kept.{Kept}
use Rattle.due.specs.Kept.{max_kept, kept_times, earlier}

-- The newest x due times of a row's history are kept. The history lists the due times of all its accepted jobs, newest first. (4.6)
pub record KeepsNewest (k : Kept) (x : ℕ) (history : List ℕ) : Type 0 where
  pub all_places : length k.times ≡ max_kept
  pub newest : earlier k ≡ take x history

-- The due time v is given: the row is in range, v is its due time by the rule over what is kept, and v is at most 2^40. (4.2, 4.3, 4.7)
pub record GivenDue (k : Kept) (r : Row) (t v : ℕ) : Type 0 where
  pub row_is_in_range : row_in_range r ≡ true
  pub by_rule : due_time r.x r.y r.d (earlier k) t ≡ v
  pub in_time : v ≤ max_time

-- What is kept for a row is sound: at most x due times are counted, and each counted one is at most 2^40. (6.24)
pub record SoundKept (k : Kept) (x : ℕ) : Type 0 where
  pub few : k.count ≤ x
  pub in_time : (i : ℕ) → i < length (kept_times k) → (get_or (kept_times k) i (record { 0 = 0 })).0 ≤ max_time
