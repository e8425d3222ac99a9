-- What columns hold: the jobs whose fields stand in the used entries, also after a job was put in and after ticks. (docs/RULES.md, section 6.)
use Rattle.std.specs.Prelude.{Some}
use Prim.Native.Nat.{ℕ, zero, suc, ◌+◌, ◌-◌, ◌≤◌, ◌<◌, min}
use mathlib.Core.Path.{◌≡◌, refl, sym, ap, ◌∙◌}
use mathlib.Core.List.{List, [], ◌∷◌, ◌++◌, map, append_assoc}
use native.Mathlib.Decide.{dec_le}
use native.Mathlib.Numerals.{add-one}
use native.Mathlib.Omega.{arith}
use lib.ListN.{length, take, drop, get_or, set, length-append, length-drop, length-map, length-set, length-take}
use lib.Seq.{drop_at, drop-cons, drop-drop, drop-set-add, length-take-le, take-add, take_at, take-set-lt, take-take}
use borrow.Author.Tests.{lt-ltb, le-ltb, eq-eqb, ne_eqb, le-leb, lt-leb}
use Rattle.jobs.specs.declared.Job.{Job}
use Rattle.jobs.specs.Places.{max_places}
use Rattle.jobs.specs.Turns.{finish_at}
use Rattle.columns.specs.declared.Columns.{Columns}
use lib.ListN.{length-replicate}
use Rattle.columns.specs.Columns.{columns, AllEntries, empty_columns, ColumnsHold, max_entries, used_in, start_in, entries, serials_of, dues_of, behind, moved_down, opened_up}
use Rattle.columns.specs.Columns.{settled, with_room, place_for, put_at, put_in}
use Rattle.columns.specs.Ticks.{units_to_go, worked_by, first_finish, work_on, work_answer}
use Rattle.columns.specs.Ordered.{in_place}
use Rattle.columns.specs.ColumnLaws.{AlwaysHeld, FullStays, HeldAreCounted, NothingIsHeld, PutInHolds, WorkHolds}

-- ---- some entries of one list

-- There are n entries from `first` on, if the list reaches so far.
pub length-entries : (first n : ℕ) (l : List ℕ) → first + n ≤ length l → length (entries first n l) ≡ n
length-entries first n l h = simp (length-take, length-drop) (omega arith)

-- The first n entries without the first k of them are the n - k entries behind those k.
drop-take : (k n : ℕ) (l : List ℕ) → k ≤ n → n ≤ length l → drop k (take n l) ≡ take (n - k) (drop k l)
drop-take k n l h inside =
    let parts : k + (n - k) ≡ n = omega arith in
    ap (drop k) (rw parts at (take-add k (n - k) l)) ∙ drop_at (take k l) (take (n - k) (drop k l)) k (length-take-le k l (omega arith))

-- Putting a value in among some entries puts it in among the list of these entries, and leaves the entries before and behind as they were.
opened_parts : (first k n v : ℕ) (l : List ℕ) → k ≤ n → first + n ≤ length l
    → opened_up (first + k) (first + n) v l
    ≡ take first l ++ ((take k (entries first n l) ++ (v ∷ drop k (entries first n l))) ++ drop (first + n + 1) l)
opened_parts first k n v l h inside =
    let many : (first + n) - (first + k) ≡ n - k = omega arith in
    let rest : drop k (entries first n l) ≡ take (n - k) (drop (first + k) l) =
    drop-take k n (drop first l) h (simp length-drop (omega arith)) ∙ ap (take (n - k)) (drop-drop k first l) in
    rw (many, take-add first k l, ← rest, ← take-take k n (drop first l) h)
    (simp append_assoc)

-- A field of jobs with one more put in at a place is that field of the jobs with the new job's put in at that place.
map_put : {A B : Type 0} (f : A → B) (k : ℕ) (l : List A) (a : A)
    → map f (take k l ++ (a ∷ drop k l)) ≡ take k (map f l) ++ (f a ∷ drop k (map f l))
map_put f zero l a = refl
map_put f (suc k) [] a = refl
map_put f (suc k) (b ∷ l) a = ap (◌∷◌ (f b)) (map_put f k l a)

-- A list has all its entries, and those from `first` on are one field of some jobs.
record Stands (f : Job → ℕ) (js : List Job) (first count : ℕ) (l : List ℕ) : Type 0 where
  all : length l ≡ max_entries
  are : map f js ≡ entries first count l

-- In this part, one field of some jobs stands in the entries from `first` on.
module _ {f : Job → ℕ} {js : List Job} {first n : ℕ} {l : List ℕ} (s : Stands f js first n l) (inside : first + n ≤ max_entries) where
  -- After all jobs have moved to the front, they stand there.
  stands_in_front : Stands f js 0 n (moved_down first n l)
  stands_in_front =
      let many : length (entries first n l) ≡ n = length-entries first n l (omega (arith, s.all)) in
      record {
        all = simp (length-append, length-drop) (omega (arith, s.all));
        are = s.are ∙ sym (take_at (entries first n l) (drop n l) n many);
      }

  -- After a job was put in behind the first k jobs, it stands there too.
  stands_put : (k : ℕ) (j : Job) → k ≤ n → first + n < max_entries
      → Stands f (take k js ++ (j ∷ drop k js)) first (n + 1) (opened_up (first + k) (first + n) (f j) l)
  stands_put k j h free =
      let w = entries first n l in
      let parts = opened_parts first k n (f j) l h (omega (arith, s.all)) in
      let many : length w ≡ n = length-entries first n l (omega (arith, s.all)) in
      let more : length (take k w ++ (f j ∷ drop k w)) ≡ n + 1 = simp (length-append, length-take-le k w (omega arith), length-drop) (omega arith) in
      let front : length (take first l) ≡ first = length-take-le first l (omega (arith, s.all)) in
      record {
        all = ap length parts ∙ simp (length-append, length-take-le k w (omega arith), length-drop) (omega (arith, s.all));
        are =
            map_put f k js j ∙ rw s.are
            (sym
            (ap (entries first (n + 1)) parts
            ∙ ap (take (n + 1)) (drop_at (take first l) ((take k w ++ (f j ∷ drop k w)) ++ drop (first + n + 1) l) first front)
            ∙ take_at (take k w ++ (f j ∷ drop k w)) (drop (first + n + 1) l) (n + 1) more));
      }

-- The field of the first job stands in the entry `first`, and those of the others in the entries behind it.
front_and_rest : (f : Job → ℕ) (j : Job) (js : List Job) (first n : ℕ) (l : List ℕ) → first < length l
    → map f (j ∷ js) ≡ entries first (suc n) l → (f j ≡ get_or l first 0) × (map f js ≡ entries (first + 1) n l)
front_and_rest f j js first n l inside are =
    let parts = rw (drop-cons l first 0 inside) at are in
    (cc, rw add-one (cc))

-- Where the entry `first` is set, the first of the entries from there on is set.
set_front : (first n v : ℕ) (l : List ℕ) → 0 < n → entries first n (set l first v) ≡ set (entries first n l) 0 v
set_front first n v l h =
    let here : first + 0 ≡ first = omega arith in
    ap (take n) (rw here at (drop-set-add first l 0 v)) ∙ take-set-lt n (drop first l) 0 v h

-- ---- all five lists

module _ {c : Columns} {js : List Job} (h : ColumnsHold c js) where
  -- If every list changes in such a way that a field of jobs that stands in it becomes that field of other jobs, then the changed columns hold the other jobs.
  all_hold : (op : (Job → ℕ) → List ℕ → List ℕ) (ks : List Job) (first count : ℕ) → count ≤ max_places → first + count ≤ max_entries
      → ((f : Job → ℕ) (l : List ℕ) → Stands f js (start_in c) (used_in c) l → Stands f ks first count (op f l))
      → ColumnsHold
      (columns (op (λ (j : Job). j.serial.0) c.serials) (op (λ (j : Job). j.row.0) c.rows) (op (λ (j : Job). j.release.0) c.releases)
      (op (λ (j : Job). j.due.0) c.dues) (op (λ (j : Job). j.left) c.left) first count)
      ks
  all_hold op ks first count few inside each =
      let used : min count max_places ≡ count = omega arith in
      let start : min first (max_entries - count) ≡ first = omega arith in
      let ss = each _ c.serials (record { all = h.all_entries.of_serials; are = h.serials_are }) in
      let rs = each _ c.rows (record { all = h.all_entries.of_rows; are = h.rows_are }) in
      let ls = each _ c.releases (record { all = h.all_entries.of_releases; are = h.releases_are }) in
      let ds = each _ c.dues (record { all = h.all_entries.of_dues; are = h.dues_are }) in
      let fs = each _ c.left (record { all = h.all_entries.of_left; are = h.left_are }) in
      record {
        all_entries = record { of_serials = ss.all; of_rows = rs.all; of_releases = ls.all; of_dues = ds.all; of_left = fs.all };
        serials_are = rw (used, start) ss.are;
        rows_are = rw (used, start) rs.are;
        releases_are = rw (used, start) ls.are;
        dues_are = rw (used, start) ds.are;
        left_are = rw (used, start) fs.are;
      }

  -- The columns hold the same jobs where the entry of the first job and the number of jobs are said as they are used.
  settled_holds : ColumnsHold (settled c) js
  settled_holds = all_hold (λ f l. l) js (start_in c) (used_in c) (omega arith) (omega arith) (λ f l s. s)

-- ---- the laws

pub held_are_counted : HeldAreCounted
held_are_counted c js h =
    sym (length-map js (λ (j : Job). j.serial.0)) ∙ ap length h.serials_are
    ∙ length-entries (start_in c) (used_in c) c.serials (omega (arith, h.all_entries.of_serials))

pub nothing_is_held : NothingIsHeld
nothing_is_held c all e = record {
  all_entries = all;
  serials_are = rw e;
  rows_are = rw e;
  releases_are = rw e;
  dues_are = rw e;
  left_are = rw e;
}

-- The empty columns have all their entries, and hold no job.
pub empty_has_all : AllEntries empty_columns
empty_has_all =
    let all = length-replicate {A = ℕ} max_entries 0 in record { of_serials = all; of_rows = all; of_releases = all; of_dues = all; of_left = all }

pub empty_holds_nothing : ColumnsHold empty_columns []
empty_holds_nothing = nothing_is_held empty_columns empty_has_all refl

-- The job whose fields stand at an entry. Columns hold no stated cost, so 0 stands for it.
abbrev job_at : Columns → ℕ → Job
job_at c i = record {
  serial = record { 0 = get_or c.serials i 0 };
  row = record { 0 = get_or c.rows i 0 };
  release = record { 0 = get_or c.releases i 0 };
  due = record { 0 = get_or c.dues i 0 };
  cost = 0;
  left = get_or c.left i 0;
}

-- The jobs whose fields stand at the k entries from i on.
abbrev jobs_from : Columns → (i k : ℕ) → List Job
jobs_from c i zero = []
jobs_from c i (suc k) = job_at c i ∷ jobs_from c (suc i) k

-- Each field of the jobs at the k entries from i on stands in its list at these entries.
from_are : (f : Job → ℕ) (c : Columns) (l : List ℕ) → ((i : ℕ) → f (job_at c i) ≡ get_or l i 0) → (i k : ℕ) → i + k ≤ length l
    → map f (jobs_from c i k) ≡ entries i k l
from_are f c l e i zero h = refl
from_are f c l e i (suc k) h = rw (drop-cons l i 0 (omega arith), e i, from_are f c l e (suc i) k (omega arith))

pub always_held : AlwaysHeld
always_held c all = record {
  jobs = jobs_from c (start_in c) (used_in c);
  held = record {
    all_entries = all;
    serials_are = from_are _ c c.serials (λ i. refl) (start_in c) (used_in c) (omega (arith, all.of_serials));
    rows_are = from_are _ c c.rows (λ i. refl) (start_in c) (used_in c) (omega (arith, all.of_rows));
    releases_are = from_are _ c c.releases (λ i. refl) (start_in c) (used_in c) (omega (arith, all.of_releases));
    dues_are = from_are _ c c.dues (λ i. refl) (start_in c) (used_in c) (omega (arith, all.of_dues));
    left_are = from_are _ c c.left (λ i. refl) (start_in c) (used_in c) (omega (arith, all.of_left));
  };
}

-- ---- a job put in

-- Columns hold these jobs, not all places are in use, and an entry is free behind the last job.
record Room (c : Columns) (js : List Job) : Type 0 where
  held : ColumnsHold c js
  few : c.count < max_places
  free : c.first + c.count < max_entries

-- Where a place is unused, the columns with room hold the same jobs, and an entry is free behind the last.
there_is_room : (c : Columns) (js : List Job) → ColumnsHold c js → c.count < max_places → Room (with_room c) js
unfolding with_room
there_is_room c js h few = elim (dec_le max_entries (start_in c + used_in c)) [
  | yes k ↦
      rw (eq-eqb (start_in c + used_in c) max_entries (omega arith))
      (record {
        held = all_hold h (λ f l. moved_down (start_in c) (used_in c) l) js 0 (used_in c) (omega arith) (omega arith) (λ f l s. stands_in_front s (omega arith));
        few = omega arith;
        free = omega arith;
      })
  | no k ↦
      rw (ne_eqb (start_in c + used_in c) max_entries (λ e. omega arith))
      (record { held = settled_holds h; few = omega arith; free = omega arith })
]

-- Where an entry is free behind the last job, the columns with a job put in at its place hold the jobs with that job in its place.
put_at_holds : (c : Columns) (js : List Job) (j : Job) → Room c js → ColumnsHold (put_at c (place_for c j) j) (in_place j js)
put_at_holds c js j r =
    let used : used_in c ≡ c.count = omega (arith, r.few) in
    let start : start_in c ≡ c.first = omega (arith, r.few, r.free) in
    let many : length js ≡ c.count = held_are_counted c js r.held ∙ used in
    let ds : entries c.first c.count c.dues ≡ dues_of js = rw (start, used) at (sym r.held.dues_are) in
    let ss : entries c.first c.count c.serials ≡ serials_of js = rw (start, used) at (sym r.held.serials_are) in
    let k = length js - behind j.due.0 j.serial.0 (dues_of js) (serials_of js) in
    let place : place_for c j ≡ c.first + k = rw (ds, ss, many) in
    rw place
    (all_hold r.held (λ f l. opened_up (c.first + k) (c.first + c.count) (f j) l) (in_place j js) c.first (c.count + 1)
    (omega (arith, r.few)) (omega (arith, r.free))
    (λ f l s. stands_put (rw (start, used) at s) (omega (arith, r.free)) k j (omega arith) r.free))

pub put_in_holds : PutInHolds
unfolding put_in
put_in_holds c js j h free = rw (lt-ltb c.count max_places free) (put_at_holds (with_room c) js j (there_is_room c js h free))

pub full_stays : FullStays
unfolding put_in
full_stays c j full = rw (le-ltb c.count max_places full)

-- ---- ticks

-- In this part, columns hold some jobs, of which j is the first.
module _ {c : Columns} {j : Job} {js : List Job} (h : ColumnsHold c (j ∷ js)) where
  -- All jobs that the columns hold are counted.
  many : suc (length js) ≡ used_in c
  many = held_are_counted c (j ∷ js) h

  -- A field of the first job stands in the first used entry, and that of the others in the entries behind it.
  front : (f : Job → ℕ) (l : List ℕ) → length l ≡ max_entries → map f (j ∷ js) ≡ entries (start_in c) (used_in c) l
      → (f j ≡ get_or l (start_in c) 0) × (map f js ≡ entries (start_in c + 1) (used_in c - 1) l)
  front f l all are =
      let n : used_in c ≡ suc (used_in c - 1) = omega (arith, many) in
      front_and_rest f j js (start_in c) (used_in c - 1) l (omega (arith, many)) (are ∙ ap (λ (m : ℕ). entries (start_in c) m l) n)

  -- The units left of the first job stand in the first used entry.
  left_is : get_or c.left (start_in c) 0 ≡ j.left
  left_is = sym (front (λ (i : Job). i.left) c.left h.all_entries.of_left h.left_are).0

  -- The record of the first entries, with a finish, is that of the first job.
  finish_is : (finish : ℕ) → first_finish c finish ≡ finish_at finish j
  finish_is finish =
      let all = h.all_entries in
      rw (
        ← (front (λ (i : Job). i.serial.0) c.serials all.of_serials h.serials_are).0,
        ← (front (λ (i : Job). i.row.0) c.rows all.of_rows h.rows_are).0,
        ← (front (λ (i : Job). i.release.0) c.releases all.of_releases h.releases_are).0,
        ← (front (λ (i : Job). i.due.0) c.dues all.of_dues h.dues_are).0,
      )

  -- Where the first job leaves at the front, the columns hold the others.
  rest_holds : ColumnsHold (columns c.serials c.rows c.releases c.dues c.left (start_in c + 1) (used_in c - 1)) js
  rest_holds =
      all_hold h (λ f l. l) js (start_in c + 1) (used_in c - 1) (omega arith) (omega (arith, many))
      (λ f l s. record { all = s.all; are = (front f l s.all s.are).1 })

  -- Where the first job's entry of units left is set to n fewer, the columns hold the jobs with the first job worked on.
  worked_holds : (n : ℕ)
      → ColumnsHold (columns c.serials c.rows c.releases c.dues (set c.left (start_in c) (j.left - n)) (start_in c) (used_in c))
      (worked_by n j ∷ js)
  worked_holds n =
      let same = settled_holds h in
      let used : min (used_in c) max_places ≡ used_in c = omega arith in
      let start : min (start_in c) (max_entries - used_in c) ≡ start_in c = omega arith in
      record {
        all_entries = record {
          of_serials = h.all_entries.of_serials;
          of_rows = h.all_entries.of_rows;
          of_releases = h.all_entries.of_releases;
          of_dues = h.all_entries.of_dues;
          of_left = length-set c.left (start_in c) (j.left - n) ∙ h.all_entries.of_left;
        };
        serials_are = same.serials_are;
        rows_are = same.rows_are;
        releases_are = same.releases_are;
        dues_are = same.dues_are;
        left_are =
            rw (used, start)
            (ap (λ (l : List ℕ). set l 0 (j.left - n)) h.left_are
            ∙ sym (set_front (start_in c) (used_in c) (j.left - n) c.left (omega (arith, many))));
      }

pub work_holds : WorkHolds
unfolding work_on work_answer
work_holds c [] clock until h =
    let none : used_in c ≡ 0 = sym (held_are_counted c [] h) in
    let test = eq-eqb (used_in c) 0 none in
    record { holds = rw test (settled_holds h); clock_so = rw test; answer_so = rw test }
work_holds c (j ∷ js) clock until h =
    let some = ne_eqb (used_in c) 0 (λ e. omega (arith, many h)) in
    let same = left_is h in
    elim (dec_le until clock) [
      | yes k ↦
          let test = le-leb until clock k in
          let no_tick = eq-eqb (until - clock) 0 (omega arith) in
          record { holds = rw (some, test, no_tick) (settled_holds h); clock_so = rw (some, test, no_tick); answer_so = rw (some, test, no_tick) }
      | no k ↦
          let test = lt-leb until clock (omega arith) in
          let ticks = ne_eqb (until - clock) 0 (λ e. omega arith) in
          let units = units_to_go j.left in
          elim (dec_le units (until - clock)) [
            | yes l ↦
                let enough = le-ltb (until - clock) units l in
                record {
                  holds = rw (some, test, ticks, same, enough) (rest_holds h);
                  clock_so = rw (some, test, ticks, same, enough);
                  answer_so = rw (some, test, ticks, same, enough) (ap Some (finish_is h (clock + units)));
                }
            | no l ↦
                let few = lt-ltb (until - clock) units (omega arith) in
                record {
                  holds = rw (some, test, ticks, same, few) (worked_holds h (until - clock));
                  clock_so = rw (some, test, ticks, same, few) (omega arith);
                  answer_so = rw (some, test, ticks, same, few);
                }
          ]
    ]
