-- `Columns::put` meets its contract: no place is free, or the job goes in at its place, once an entry is free behind the last job.
use mathlib.Core.Path.{refl}
use borrow.Author.Tests.{le-ltb}
use Rattle.columns.specs.declared.Columns.{Columns}
use Rattle.columns.specs.Columns.{columns, put_in}
use Rattle.columns.proofs.PutContract.{Roomy, room_moved, room_stays, put_goes_in}
use Rattle.columns.proofs.Columns.put.Goals as goal
use Rattle.columns.proofs.Columns.put.Goals.{then-start-count-eq-ROOM, else-start-count-eq-ROOM}

pub returns-then-self-ge-PLACES-clause-columns : goal.returns-then-self-ge-PLACES-clause-columns
unfolding put_in
returns-then-self-ge-PLACES-clause-columns c = simp (le-ltb _ _ c.if-self-ge-PLACES.true) refl

-- The columns once an entry is free behind the last job.
abbrev freed : goal.After-self-2-1 → Columns
freed c =
    let k = c.if-start-count-eq-ROOM in columns k.self.serials k.self.rows k.self.releases k.self.dues k.self.left k.start c.args.self.now.count

-- An entry is free behind the last job, whether the jobs have moved to the front or not.
roomy : (c : goal.After-self-2-1) → Roomy c.args.self.now (freed c)
roomy c =
    let few = c.if-self-ge-PLACES.false in
    let start = c.start_of-start in
    elim c.if-start-count-eq-ROOM.branch [
      | then-start-count-eq-ROOM w ↦ rw (w.self-is, w.start-is)
          (room_moved c.args.self.now few start.result start.ensures w.if-start-count-eq-ROOM.true w.move_down.ensures w.move_down-then-start-count-eq-ROOM.ensures w.move_down-then-start-count-eq-ROOM-2.ensures w.move_down-then-start-count-eq-ROOM-3.ensures w.move_down-then-start-count-eq-ROOM-4.ensures)
      | else-start-count-eq-ROOM w ↦ rw (w.self-is, w.start-is) (room_stays c.args.self.now few start.result start.ensures w.if-start-count-eq-ROOM.false)
    ]

pub returns-clause-columns : goal.returns-clause-columns
returns-clause-columns c =
    put_goes_in c.args.self.now c.if-self-ge-PLACES.false (roomy c) c.args.job c.place_for-at.result c.place_for-at.ensures.1 c.open_up.ensures
    c.open_up-2.ensures c.open_up-3.ensures c.open_up-4.ensures c.open_up-5.ensures
