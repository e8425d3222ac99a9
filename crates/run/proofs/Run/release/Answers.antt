-- `run::Run::release` meets its contract: each answer is that of the tests which led to it. The row number is an index within the run's arrays, or else the
-- number of a server, and the next serial can go up by one.
use Rattle.std.specs.Prelude.{Ok}
use Prim.Native.Nat.{◌+◌, ◌<◌}
use mathlib.Core.Path.{◌≡◌, sym, ◌∙◌}
use native.Mathlib.Omega.{arith}
use lib.Seq.{length-take-le}
use borrow.Author.Tests.{lt-ltb, le-ltb}
use Rattle.jobs.specs.Places.{max_places, put_step}
use Rattle.run.specs.Release.{due_next}
use Rattle.run.proofs.Sound.{enough_limits}
use Rattle.run.proofs.Release.{Bounded, Passed, tested, tested_as, bounded, inside, passes, not_sound, not_allowed, places_full}
use Rattle.run.proofs.Release.{due_of_row, due_of_server, due_settles}
use Rattle.run.proofs.Run.release.Goals as goal
use Rattle.run.proofs.Run.release.Goals.{Else-not-sound, After-cost_answer, Joined-at-count, else-at-count, else-at-count-2, then-at-count, then-at-count-2}

pub returns-then-not-sound : goal.returns-then-not-sound
returns-then-not-sound c =
    c.refused_release.ensures ∙ not_sound c.args.self c.args.row.0 c.args.cost (sym c.sound.ensures.value ∙ c.if-not-sound.true)

-- Past the first test the run's numbers are within their limits.
within : (c : Else-not-sound) → Bounded c.args.self
within c = bounded _ (sym c.sound.ensures.value ∙ c.if-not-sound.false)

pub overflow_add-used : goal.overflow_add-used
overflow_add-used c = omega (arith, within (goal.at.overflow_add-used c).Else-not-sound)

pub slice_bounds-limits-end : goal.slice_bounds-limits-end
slice_bounds-limits-end c = omega (arith, within (goal.at.slice_bounds-limits-end c).Else-not-sound)

pub slice_bounds-limit_of-end : goal.slice_bounds-limit_of-end
slice_bounds-limit_of-end c =
    let fits = within (goal.at.slice_bounds-limit_of-end c).Else-not-sound in
    sym (length-take-le _ _ (enough_limits c.args.self.table fits.few_rows fits.few_servers _ c.cost_limits-limits.ensures))

-- The code's test of the row number and the cost answers what the definition says.
is_tested : (c : After-cost_answer) → tested c.args.self c.args.row.0 c.args.cost ≡ c.cost_answer.result
is_tested c =
    tested_as c.args.self c.args.row.0 c.args.cost c.sound.ensures.whole (sym c.sound.ensures.value ∙ c.if-not-sound.false) _ c.cost_limits-limits.ensures _
    c.limit_of-limit.ensures _ c.cost_answer.ensures

pub returns-in-Err : goal.returns-in-Err
returns-in-Err c =
    c.refused_release-in-Err.ensures
    ∙ not_allowed c.args.self c.args.row.0 c.args.cost (sym c.sound.ensures.value ∙ c.if-not-sound.false) _
    (is_tested (goal.at.returns-in-Err c).After-cost_answer ∙ c.in-Err.is)

-- A row number that the code's test allows is in use.
in_use : (c : After-cost_answer) → c.cost_answer.result ≡ Ok tt → c.args.row.0 < c.args.self.table.count + c.args.self.table.serving
in_use c allowed = inside c.args.self c.args.row.0 c.args.cost (is_tested c ∙ allowed)

pub returns-then-self-ge-MAX_PENDING : goal.returns-then-self-ge-MAX_PENDING
returns-then-self-ge-MAX_PENDING c =
    let allowed = is_tested (goal.at.returns-then-self-ge-MAX_PENDING c).After-cost_answer ∙ c.in_default.is in
    c.refused_release-then-self-ge-MAX_PENDING.ensures
    ∙ places_full c.args.self c.args.row.0 c.args.cost (sym c.sound.ensures.value ∙ c.if-not-sound.false) allowed c.if-self-ge-MAX_PENDING.true

pub bounds-self-at : goal.bounds-self-at
bounds-self-at c = omega (arith, within (goal.at.bounds-self-at c).Else-not-sound)

pub bounds-self-at-then-at-count : goal.bounds-self-at-then-at-count
bounds-self-at-then-at-count c = omega (arith, within (goal.at.bounds-self-at-then-at-count c).Else-not-sound)

pub bounds-self-at-else-at-count : goal.bounds-self-at-else-at-count
bounds-self-at-else-at-count c =
    let to = goal.at.bounds-self-at-else-at-count c in
    omega (arith, within to.Else-not-sound, in_use to.After-cost_answer c.in_default.is, c.if-at-count.false)

pub bounds-self-at-else-at-count-2 : goal.bounds-self-at-else-at-count-2
bounds-self-at-else-at-count-2 c =
    let to = goal.at.bounds-self-at-else-at-count-2 c in
    omega (arith, within to.Else-not-sound, in_use to.After-cost_answer c.in_default.is, c.if-at-count.false)

-- The due time that the code found is the one that the definition says.
is_due : (c : Joined-at-count) → due_next c.args.self c.args.row.0 c.args.cost ≡ c.if-at-count.given
is_due c =
    let a = c.args in
    elim c.if-at-count.branch [
      | then-at-count w ↦ due_of_row a.self a.row.0 a.cost w.if-at-count.true ∙ sym w.due-given.ensures ∙ sym w.given-is
      | else-at-count w ↦ due_of_server a.self a.row.0 a.cost w.if-at-count.false ∙ sym w.odd_due-given.ensures ∙ sym w.given-is
    ]

-- Past the test for 8 the release has passed all tests before 9.
passed : (c : After-cost_answer) → c.cost_answer.result ≡ Ok tt → c.args.self.pending.count < max_places → Passed c.args.self c.args.row.0 c.args.cost
passed c allowed room = passes c.args.self c.args.row.0 c.args.cost (sym c.sound.ensures.value ∙ c.if-not-sound.false) (is_tested c ∙ allowed) room

pub returns-in-Err-given : goal.returns-in-Err-given
returns-in-Err-given c =
    let to = goal.at.returns-in-Err-given c in
    let tests = passed to.After-cost_answer c.in_default.is c.if-self-ge-MAX_PENDING.false in
    c.refused_release-in-Err-given.ensures
    ∙ due_settles c.args.self c.args.row.0 c.args.cost tests _ (is_due to.Joined-at-count ∙ c.in-Err-given.is)

pub bounds-self-at-then-at-count-2 : goal.bounds-self-at-then-at-count-2
bounds-self-at-then-at-count-2 c = omega (arith, within (goal.at.bounds-self-at-then-at-count-2 c).Else-not-sound)

pub bounds-self-at-then-at-count-2-2 : goal.bounds-self-at-then-at-count-2-2
bounds-self-at-then-at-count-2-2 c = omega (arith, within (goal.at.bounds-self-at-then-at-count-2-2 c).Else-not-sound)

pub bounds-self-at-then-at-count-2-3 : goal.bounds-self-at-then-at-count-2-3
bounds-self-at-then-at-count-2-3 c = omega (arith, within (goal.at.bounds-self-at-then-at-count-2-3 c).Else-not-sound)

pub bounds-self-at-else-at-count-2-2 : goal.bounds-self-at-else-at-count-2-2
bounds-self-at-else-at-count-2-2 c =
    let to = goal.at.bounds-self-at-else-at-count-2-2 c in
    omega (arith, within to.Else-not-sound, in_use to.After-cost_answer c.in_default.is, c.if-at-count-2.false)

pub overflow_add-self : goal.overflow_add-self
overflow_add-self c = omega (arith, within (goal.at.overflow_add-self c).Else-not-sound)

pub returns : goal.returns
unfolding put_step
returns c =
    let to = goal.at.returns c in
    let a = c.args in
    let tests = passed to.After-cost_answer c.in_default.is c.if-self-ge-MAX_PENDING.false in
    let settled = due_settles a.self a.row.0 a.cost tests _ (is_due to.Joined-at-count ∙ c.in-Ok.is) in
    elim c.if-at-count-2.branch [
      | then-at-count-2 w ↦ simp (w.self-is, c.put-put.ensures, w.keep-keep.ensures) (rw (lt-ltb a.row.0 a.self.table.count w.if-at-count-2.true) at settled)
      | else-at-count-2 w ↦ simp (w.self-is, c.put-put.ensures) (rw (le-ltb a.row.0 a.self.table.count w.if-at-count-2.false) at settled)
    ]
