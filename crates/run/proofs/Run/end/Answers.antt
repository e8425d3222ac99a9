-- `run::Run::end` meets its contract: each answer is that of the tests which led to it. The place that is found is one of the run's, and its job has no more
-- units left than its cost.
use Rattle.std.specs.Prelude.{Some}
use Prim.Native.Nat.{◌<◌}
use mathlib.Core.Path.{◌≡◌, sym, ◌∙◌}
use native.Mathlib.Omega.{arith}
use Rattle.jobs.specs.Places.{used, take_step}
use Rattle.jobs.proofs.Changes.{place_holds_job}
use Rattle.run.proofs.Ticking.{Good, facts}
use Rattle.run.proofs.Ending.{found, found_there, found_in_places, end_unsound, end_nobody, end_too_many, end_done}
use Rattle.run.proofs.Run.end.Goals as goal
use Rattle.run.proofs.Run.end.Goals.{Else-not-sound, In-Some}

pub returns-then-not-sound : goal.returns-then-not-sound
returns-then-not-sound c = c.refused_end.ensures ∙ end_unsound c.args.self c.args.serial.0 (sym c.sound.ensures.value ∙ c.if-not-sound.true)

-- Past the first test the run is sound, and its arrays have all their places.
good : (c : Else-not-sound) → Good c.args.self
good c = (sym c.sound.ensures.value ∙ c.if-not-sound.false, c.sound.ensures.whole)

pub returns-in_default : goal.returns-in_default
returns-in_default c =
    let sound = (good (goal.at.returns-in_default c).Else-not-sound).0 in
    c.refused_end-in_default.ensures ∙ end_nobody c.args.self c.args.serial.0 sound (sym c.place_of.ensures ∙ c.in_default.is)

-- The place that the code found is the one that the definition says.
is_found : (c : In-Some) → found c.args.self c.args.serial.0 ≡ Some c.in-Some.at
is_found c = sym c.place_of.ensures ∙ c.in-Some.is

-- The place that is found is in use.
inside : (c : In-Some) → c.in-Some.at < used c.args.self.pending
inside c = (found_there c.args.self c.args.serial.0 c.in-Some.at (is_found c)).0

pub returns-then-run-ge-MAX_ENDED : goal.returns-then-run-ge-MAX_ENDED
returns-then-run-ge-MAX_ENDED c =
    let to = goal.at.returns-then-run-ge-MAX_ENDED c in
    c.refused_end-then-run-ge-MAX_ENDED.ensures
    ∙ end_too_many c.args.self c.args.serial.0 (good to.Else-not-sound).0 _ (is_found to.In-Some) c.if-run-ge-MAX_ENDED.true

pub offset_bounds-pending-at : goal.offset_bounds-pending-at
offset_bounds-pending-at c =
    let to = goal.at.offset_bounds-pending-at c in
    omega (arith, found_in_places c.args.self c.args.serial.0 (good to.Else-not-sound) c.in-Some.at (is_found to.In-Some))

pub bounds-pending-at : goal.bounds-pending-at
bounds-pending-at c =
    let to = goal.at.bounds-pending-at c in
    omega (arith, found_in_places c.args.self c.args.serial.0 (good to.Else-not-sound) c.in-Some.at (is_found to.In-Some))

pub overflow_sub-result : goal.overflow_sub-result
overflow_sub-result c =
    let to = goal.at.overflow_sub-result c in
    let run = c.args.self in
    let here = inside to.In-Some in
    rw (place_holds_job run.pending c.in-Some.at here) ((facts run (good to.Else-not-sound)).jobs c.in-Some.at here).left_of_cost

pub returns : goal.returns
unfolding take_step
returns c =
    let to = goal.at.returns c in
    let run = c.args.self in
    let at = c.in-Some.at in
    let done = end_done run c.args.serial.0 (good to.Else-not-sound).0 at (is_found to.In-Some) c.if-run-ge-MAX_ENDED.false in
    simp (c.take_out-step.ensures, place_holds_job run.pending at (inside to.In-Some)) done
