-- A value, a row, and rows one after another are read at a place exactly when their spelling stands there and they are within their limits. Rows are proved
-- from a row, and a row from a value, each in both directions. (docs/RULES.md, section 3.)
use Rattle.std.specs.Prelude.{Ok}
use Prim.Native.Nat.{ℕ, zero, suc, ◌+◌, ◌-◌, ◌≤◌}
use native.Mathlib.Omega.{arith}
use mathlib.Core.Path.{◌≡◌, refl, sym, ap, ◌∙◌}
use mathlib.Core.List.{List, [], ◌∷◌, ◌++◌, flatten, map, append_assoc, append-nil}
use lib.ListN.{length, drop, length-append, length-drop}
use lib.Seq.{drop-drop, drop-length, drop-append_seam}
use borrow.Author.Tests.{le-leb}
use Rattle.kinds.proofs.Apart.{impossible}
use Rattle.numbers.specs.declared.Number.{Number}
use Rattle.numbers.specs.Spelling.{max_number, spelling}
use Rattle.numbers.specs.Reading.{read_at}
use Rattle.numbers.specs.SpelledNumbers.{Bytes, Spelled}
use Rattle.numbers.proofs.Spellings.{read_here, number_has_one_spelling}
use Rattle.table.specs.declared.Row.{Row}
use Rattle.table.specs.declared.RowAt.{RowAt}
use Rattle.table.specs.Limits.{max_rows, max_x, max_y, max_d, max_c}
use Rattle.table.specs.Rows.{within_limit, read_value, read_row}
use Rattle.table.specs.Tables.{rows, read_rows, rows_from}
use Rattle.table.specs.SpelledTables.{spelled_row, AcceptableRow}
use Rattle.table.specs.Refusals.{PartStands, RowsEnd}
use Rattle.table.proofs.Each.{Each, each_none, Each-cons, each_head, each_tail}
use Rattle.table.proofs.Ranges.{within_fine, limits_of}
use Rattle.table.proofs.Reading.{value_stands, c_stands, four_values, row_is_in_range, row_not_hopeless}
use Rattle.table.proofs.ReadTables.{first_row, other_rows, count_read}

-- ---- parts of the bytes

-- All the bytes together stand at place 0.
pub stands_whole : (s : List ℕ) → PartStands s 0 s (length s)
stands_whole s = record { here = rw (drop-length, append-nil); ends = omega arith }

module _ {s : List ℕ} {at next : ℕ} where
  -- Two parts, one after the other, are one part.
  pub joined : {a b : List ℕ} {mid : ℕ} → PartStands s at a mid → PartStands s mid b next → PartStands s at (a ++ b) next
  joined {a} {b} p q = record { here = p.here ∙ rw (q.here, append_assoc); ends = omega (arith, length-append a b) }

  -- A part that is made of two parts is these two, one after the other.
  pub parted : (a b : List ℕ) → PartStands s at (a ++ b) next → (mid : ℕ) × PartStands s at a mid × PartStands s mid b next
  parted a b p =
      let later : drop (at + length a) s ≡ b ++ drop next s = rw (← drop-drop, p.here, append_assoc, drop-append_seam) in (
        at + length a,
        record { here = p.here ∙ rw (append_assoc, later); ends = refl },
        record { here = later; ends = omega (arith, length-append a b) },
      )

-- What stands from a place of the bytes on ends inside them.
pub ends_inside : {s part : List ℕ} {at next : ℕ} → PartStands s at part next → at ≤ length s → next ≤ length s
ends_inside {s} {part} {at} {next} p inside =
    let long : length s - at ≡ length part + (length s - next) = sym (length-drop at s) ∙ ap length p.here ∙ rw (length-append, length-drop) in
    omega (arith, p.ends)

-- ---- a number, and a value

-- Where a number is spelled, its spelling stands.
pub spelled_stands : {s : List ℕ} {at : ℕ} {n : Number} → Spelled s at n → PartStands s at (spelling n.value) n.next
spelled_stands p = record { here = p.stands_here; ends = p.ends }

-- A number is read where its spelling stands.
pub number_read : {s : List ℕ} {at next : ℕ} (v : ℕ) → v ≤ max_number → PartStands s at (spelling v) next
    → read_at s at ≡ Ok (record { value = v; next = next })
number_read {s} {at} {next} v h p =
    read_here s at v (drop next s) h p.here ∙ ap (λ (n : ℕ). Ok (record { value = v; next = n })) (sym p.ends)

-- Where a number is read, its spelling stands.
pub number_stands : {s : List ℕ} (at : ℕ) (n : Number) → Bytes s → read_at s at ≡ Ok n → PartStands s at (spelling n.value) n.next
number_stands {s} at n b e = spelled_stands (number_has_one_spelling s at n b e)

-- A value from 1 to its limit is read where its spelling stands.
pub value_read : {s : List ℕ} {at next : ℕ} (most v : ℕ) → most ≤ max_number → 1 ≤ v → v ≤ most → PartStands s at (spelling v) next
    → read_value (within_limit most) s at ≡ Ok (record { value = v; next = next })
value_read {s} {at} most v m l h p = value_stands (within_limit most) s at _ (record { reads = number_read v (omega arith) p; is_fine = within_fine most v l h })

-- ---- a row

-- From the place `at` up to `next` stands the spelling of the row r, which a table may have.
pub record RowStands (s : List ℕ) (at : ℕ) (r : Row) (next : ℕ) : Type 0 where
  pub acceptable : AcceptableRow r
  pub stands : PartStands s at (spelled_row r) next

-- A row that a table may have is read where its spelling stands.
pub row_read : {s : List ℕ} {at next : ℕ} {r : Row} → RowStands s at r next → read_row s at ≡ Ok (record { row = r; next = next })
row_read {r} p =
    let w = p.acceptable.within_limits in
    let x = parted (spelling r.x) (spelling r.y ++ (spelling r.d ++ spelling r.c)) p.stands in
    let y = parted (spelling r.y) (spelling r.d ++ spelling r.c) x.2 in
    let d = parted (spelling r.d) (spelling r.c) y.2 in
    simp (
      value_read max_x r.x (omega arith) w.some_x w.most_x x.1,
      value_read max_y r.y (omega arith) w.some_y w.most_y y.1,
      value_read max_d r.d (omega arith) w.some_d w.most_d d.1,
      c_stands r.d _ d.0 _ (value_read max_c r.c (omega arith) w.some_c w.most_c d.2) p.acceptable.c_within_d,
    )

-- Where a row is read, its spelling stands, and a table may have it.
pub row_stands : {s : List ℕ} (at : ℕ) (r : RowAt) → Bytes s → read_row s at ≡ Ok r → RowStands s at r.row r.next
row_stands {s} at r b e =
    let v = four_values s at r e in
    let x = number_stands at v.x b v.x_stands.reads in
    let y = number_stands v.x.next v.y b v.y_stands.reads in
    let d = number_stands v.y.next v.d b v.d_stands.reads in
    let c = number_stands v.d.next v.c b v.c_stands.reads in
    record {
      acceptable = record { within_limits = limits_of r.row (row_is_in_range v); c_within_d = row_not_hopeless v };
      stands = rw v.made_of_them (joined x (joined y (joined d c)));
    }

-- ---- rows, one after another

-- From the place `at` up to `next` stand the spellings of the rows, one after another, and a table may have each row.
pub record RowsStand (s : List ℕ) (at : ℕ) (rs : List Row) (next : ℕ) : Type 0 where
  pub acceptable : Each AcceptableRow rs
  pub stand : PartStands s at (flatten (map spelled_row rs)) next

-- Rows that a table may have are read where their spellings stand.
pub rows_read : {s : List ℕ} {at next : ℕ} (rs : List Row) → RowsStand s at rs next → read_rows (length rs) s at ≡ rows rs next
unfolding read_rows flatten
rows_read [] p = ap (rows []) (omega arith)
rows_read {s = s} {at = at} {next = next} (r ∷ rs) p =
    let t = parted (spelled_row r) (flatten (map spelled_row rs)) p.stand in
    let one = row_read (record { acceptable = each_head p.acceptable; stands = t.1 }) in
    let more = rows_read {at = (parted (spelled_row r) (flatten (map spelled_row rs)) p.stand).0} rs (record { acceptable = each_tail p.acceptable; stand = t.2 }) in
    simp (one, more)

-- Where n rows are read, their spellings stand, and a table may have each row.
pub rows_stand : {s : List ℕ} (n at : ℕ) (rs : List Row) (next : ℕ) → Bytes s → read_rows n s at ≡ rows rs next
    → (length rs ≡ n) × RowsStand s at rs next
unfolding read_rows flatten
rows_stand zero at [] next b e =
    let same : at ≡ next = cc in
    (refl, record { acceptable = each_none _; stand = record { here = rw same; ends = omega arith } })
rows_stand zero at (r ∷ rs) next b e = impossible cc
rows_stand {s} (suc n) at rs next b e =
    let f = first_row n s (read_row s at) e in
    let o = other_rows f.0.row (read_rows n s f.0.next) f.2 in
    let one = row_stands at f.0 b f.1 in
    let more = rows_stand n f.0.next o.0 next b o.1 in
    rw (← o.2) (
      ap suc more.0,
      record {
        acceptable = Each-cons one.acceptable more.1.acceptable;
        stand = joined one.stands more.1.stand;
      },
    )

-- ---- rows after their count

-- Where a row count n of at most the limit of rows stands, the bytes after it are read as n rows.
pub count_then : {s : List ℕ} {at next : ℕ} (n : ℕ) → n ≤ max_rows → PartStands s at (spelling n) next → rows_from s at ≡ read_rows n s next
count_then n few p = simp (number_read n (omega arith) p, le-leb n max_rows few)

-- If rows end at a place in the sense of `RowsEnd`, they are read up to that place.
pub rows_then : {s : List ℕ} {from at : ℕ} {rs : List Row} → RowsEnd s from at rs → rows_from s from ≡ rows rs at
rows_then {s} {from} {at} {rs} p =
    let t = parted (spelling (length rs)) (flatten (map spelled_row rs)) p.before in
    count_then (length rs) p.few_rows t.1 ∙ rows_read rs (record { acceptable = p.rows_acceptable; stand = t.2 })

-- If rows are read up to a place, they end there in the sense of `RowsEnd`.
pub rows_end : {s : List ℕ} (from : ℕ) {at : ℕ} {rs : List Row} → Bytes s → rows_from s from ≡ rows rs at → RowsEnd s from at rs
rows_end {s} from {at} {rs} b e =
    let c = count_read s from (read_at s from) e in
    let t = rows_stand c.count.value c.count.next rs at b c.then in
    let counted : PartStands s from (spelling (length rs)) c.count.next = rw t.0 (number_stands from c.count b c.was_read) in
    record { few_rows = omega (arith, t.0, c.few_rows); rows_acceptable = t.1.acceptable; before = joined counted t.1.stand }
