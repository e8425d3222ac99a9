-- What `put` does is what its contract says: an entry is made free behind the last job, and the job goes in at its place. (docs/RULES.md, 6.7 and 6.8.)
use Prim.Native.Nat.{ℕ, ◌+◌, ◌-◌, ◌<◌, min}
use mathlib.Core.Path.{◌≡◌, sym, ap, ◌∙◌}
use mathlib.Core.List.{List}
use native.Mathlib.Omega.{arith}
use borrow.Author.Tests.{lt-ltb, eq-eqb, ne_eqb}
use Rattle.jobs.specs.declared.Job.{Job}
use Rattle.jobs.specs.Places.{max_places}
use Rattle.columns.specs.declared.Columns.{Columns}
use Rattle.columns.specs.Columns.{
  columns,
  max_entries,
  used_in,
  start_in,
  moved_down,
  opened_up,
  with_room,
  place_for,
  put_in,
}

-- The columns d are the columns c with an entry free behind the last job.
pub record Roomy (c d : Columns) : Type 0 where
  pub free : d.first + c.count < max_entries
  pub same : d ≡ with_room c

module _ (c : Columns) (few : c.count < max_places) where
  -- As many jobs stand in the columns as the count says.
  used_so : used_in c ≡ c.count
  used_so = omega arith

  module _ (start : ℕ) (begins : start ≡ min c.first (max_entries - c.count)) where
    -- The first job stands at this entry.
    start_so : start_in c ≡ start
    start_so = ap (λ (n : ℕ). min c.first (max_entries - n)) used_so ∙ sym begins

    -- Where no entry is free behind the last job, all jobs move to the front.
    pub room_moved : start + c.count ≡ max_entries → {serials rows releases dues left : List ℕ}
        → serials ≡ moved_down start c.count c.serials → rows ≡ moved_down start c.count c.rows
        → releases ≡ moved_down start c.count c.releases → dues ≡ moved_down start c.count c.dues → left ≡ moved_down start c.count c.left
        → Roomy c (columns serials rows releases dues left 0 c.count)
    unfolding with_room
    room_moved full s r l d f =
        let test = eq-eqb (start_in c + used_in c) max_entries (omega (arith, start_so, used_so)) in
        record { free = omega arith; same = rw (test, s, r, l, d, f, start_so, used_so) }

    -- Where an entry is free behind the last job, nothing moves.
    pub room_stays : (start + c.count ≡ max_entries → ⊥) → Roomy c (columns c.serials c.rows c.releases c.dues c.left start c.count)
    unfolding with_room
    room_stays free =
        let test = ne_eqb (start_in c + used_in c) max_entries (λ e. free (omega (arith, start_so, used_so))) in
        record { free = omega (arith, free); same = rw (test, start_so, used_so) }

  -- The job goes in at its place, in each of the five lists.
  pub put_goes_in : {d : Columns} → Roomy c d → (j : Job) (at : ℕ) → at ≡ place_for d j → {serials rows releases dues left : List ℕ}
      → serials ≡ opened_up at (d.first + d.count) j.serial.0 d.serials → rows ≡ opened_up at (d.first + d.count) j.row.0 d.rows
      → releases ≡ opened_up at (d.first + d.count) j.release.0 d.releases → dues ≡ opened_up at (d.first + d.count) j.due.0 d.dues
      → left ≡ opened_up at (d.first + d.count) j.left d.left
      → columns serials rows releases dues left d.first (d.count + 1) ≡ put_in c j
  unfolding put_in
  put_goes_in room j at found s r l e f = rw (lt-ltb c.count max_places few, ← room.same, s, r, l, e, f, found)
