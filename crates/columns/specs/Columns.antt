-- Pending jobs in five lists of numbers, one list for each field of a job, and where the jobs stand in them: from the entry `first` on, as many as the count
-- says, in the order in which they are chosen. Which jobs the lists hold, and how a job is put in. (docs/RULES.md, section 6.)
use Rattle.std.specs.Prelude.{ℕ, suc, ◌+◌, ◌-◌, ◌*◌, min, ◌≡◌, Bool, true, false, cond, ◌&&◌, List, [], ◌∷◌, ◌++◌, map, eqb, ltb, length, take, drop, replicate, Result, Ok, Err}
use Rattle.kinds.specs.declared.Refusal.{Refusal}
use Rattle.kinds.specs.declared.Refusal.TheVariants as refusal
use Rattle.jobs.specs.declared.Job.{Job}
use Rattle.jobs.specs.Places.{max_places}
use Rattle.columns.specs.declared.Columns.{Columns}

-- A list has this many entries: twice as many as there are places. (6.2)
abbrev pub max_entries : ℕ
max_entries = 2 * max_places

-- The columns that five lists, a first entry and a count make.
abbrev pub columns : (serials rows releases dues left : List ℕ) (first count : ℕ) → Columns
columns serials rows releases dues left first count = record {
  serials = serials;
  rows = rows;
  releases = releases;
  dues = dues;
  left = left;
  first = first;
  count = count;
}

-- No job is pending, and every entry is 0. (6.3)
abbrev pub empty_columns : Columns
empty_columns =
    let zeros = replicate max_entries 0 in columns zeros zeros zeros zeros zeros 0 0

-- Every list has all its entries.
pub record AllEntries (c : Columns) : Type 0 where
  pub of_serials : length c.serials ≡ max_entries
  pub of_rows : length c.rows ≡ max_entries
  pub of_releases : length c.releases ≡ max_entries
  pub of_dues : length c.dues ≡ max_entries
  pub of_left : length c.left ≡ max_entries

-- How many jobs stand in the columns. A count above the number of places means all of them. (6.1)
abbrev pub used_in : Columns → ℕ
used_in c = min c.count max_places

-- The entry of the first job. Where the jobs would reach past the end, they are the last entries.
abbrev pub start_in : Columns → ℕ
start_in c = min c.first (max_entries - used_in c)

-- So many entries of a list, from one of them on.
abbrev pub entries : (first count : ℕ) → List ℕ → List ℕ
entries first count l = take count (drop first l)

-- The serials of jobs, in order.
abbrev pub serials_of : List Job → List ℕ
serials_of js = map (λ (j : Job). j.serial.0) js

-- The row numbers of jobs, in order.
abbrev pub row_numbers_of : List Job → List ℕ
row_numbers_of js = map (λ (j : Job). j.row.0) js

-- The releases of jobs, in order.
abbrev pub releases_of : List Job → List ℕ
releases_of js = map (λ (j : Job). j.release.0) js

-- The due times of jobs, in order.
abbrev pub dues_of : List Job → List ℕ
dues_of js = map (λ (j : Job). j.due.0) js

-- The units left of jobs, in order.
abbrev pub left_of : List Job → List ℕ
left_of js = map (λ (j : Job). j.left) js

-- Columns hold these jobs when the entries of each list at which jobs stand are that field of the jobs. No list holds the stated cost. (6.1)
pub record ColumnsHold (c : Columns) (js : List Job) : Type 0 where
  pub all_entries : AllEntries c
  pub serials_are : serials_of js ≡ entries (start_in c) (used_in c) c.serials
  pub rows_are : row_numbers_of js ≡ entries (start_in c) (used_in c) c.rows
  pub releases_are : releases_of js ≡ entries (start_in c) (used_in c) c.releases
  pub dues_are : dues_of js ≡ entries (start_in c) (used_in c) c.dues
  pub left_are : left_of js ≡ entries (start_in c) (used_in c) c.left

-- ---- a job put in

-- A job with this due time and serial is chosen before a job with the other due time and serial: the earlier due time first, and the lower serial among equal
-- due times. (6.11)
abbrev pub due_before : (due serial other its : ℕ) → Bool
due_before due serial other its = cond (ltb due other) true (cond (ltb other due) false (ltb serial its))

-- How many of the last jobs, by their due times and serials, are all chosen after a job with this due time and serial. (6.11)
unfoldable pub behind : (due serial : ℕ) (dues serials : List ℕ) → ℕ
behind due serial [] ss = 0
behind due serial (d ∷ ds) [] = 0
behind due serial (d ∷ ds) (s ∷ ss) =
    let more = behind due serial ds ss in cond (eqb more (length ds) && due_before due serial d s) (suc more) more

-- The list with so many entries from `first` on moved to the front. The others stay as they were.
abbrev pub moved_down : (first count : ℕ) → List ℕ → List ℕ
moved_down first count l = entries first count l ++ drop count l

-- The list with a value put in at a place. The entries from there up to `end` move up by one, and the later ones stay as they were.
abbrev pub opened_up : (at end value : ℕ) → List ℕ → List ℕ
opened_up at end value l = take at l ++ (value ∷ (entries at (end - at) l ++ drop (end + 1) l))

-- The columns with all jobs moved to the front.
abbrev pub moved_to_front : Columns → Columns
moved_to_front c = record {
  serials = moved_down (start_in c) (used_in c) c.serials;
  rows = moved_down (start_in c) (used_in c) c.rows;
  releases = moved_down (start_in c) (used_in c) c.releases;
  dues = moved_down (start_in c) (used_in c) c.dues;
  left = moved_down (start_in c) (used_in c) c.left;
  first = 0;
  count = used_in c;
}

-- The same columns, with the entry of the first job and the number of jobs said as they are used.
abbrev pub settled : Columns → Columns
settled c = columns c.serials c.rows c.releases c.dues c.left (start_in c) (used_in c)

-- The columns with an entry free behind the last job: where there is none, all jobs move to the front.
unfoldable pub with_room : Columns → Columns
with_room c = cond (eqb (start_in c + used_in c) max_entries) (moved_to_front c) (settled c)

-- The entry at which a job goes in: the jobs behind it are all chosen after it. (6.11)
abbrev pub place_for : Columns → Job → ℕ
place_for c j =
    c.first
    + (c.count - behind j.due.0 j.serial.0 (entries c.first c.count c.dues) (entries c.first c.count c.serials))

-- The columns with a job put in at its place, where an entry is free behind the last job.
abbrev pub put_at : Columns → (at : ℕ) → Job → Columns
put_at c at j =
    let end = c.first + c.count in record {
      serials = opened_up at end j.serial.0 c.serials;
      rows = opened_up at end j.row.0 c.rows;
      releases = opened_up at end j.release.0 c.releases;
      dues = opened_up at end j.due.0 c.dues;
      left = opened_up at end j.left c.left;
      first = c.first;
      count = c.count + 1;
    }

-- The columns after a job was put in. Where all places are in use, nothing changes. (6.7, 10.7)
unfoldable pub put_in : Columns → Job → Columns
put_in c j = cond (ltb c.count max_places) (put_at (with_room c) (place_for (with_room c) j) j) c

-- The answer to a job that is put in: it is done, or it is refusal 8 where all places are in use. (6.8, 10.7)
abbrev pub put_answer : Columns → Result (Unit {0}) Refusal
put_answer c = cond (ltb c.count max_places) (Ok tt) (Err refusal.PlacesFull)
