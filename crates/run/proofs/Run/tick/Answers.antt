-- `run::Run::tick` meets its contract. Each of the two tests gives its refusal. Past them the timer takes the tick, or the tick is one turn of the pending
-- jobs.
use mathlib.Core.Path.{◌≡◌, sym, ◌∙◌}
use native.Mathlib.Omega.{arith}
use borrow.Author.Tests.{lt-ltb, le-ltb}
use Rattle.run.specs.Ticking.{ticked}
use Rattle.run.proofs.Ticking.{Good, facts, step_of, tick_unsound, tick_too_late, tick_taken, tick_is_a_turn}
use Rattle.run.proofs.Run.tick.Goals as goal
use Rattle.run.proofs.Run.tick.Goals.{Else-not-sound, After-tick-turned}

pub returns-then-not-sound : goal.returns-then-not-sound
returns-then-not-sound c = sym (tick_unsound _ (sym c.sound.ensures.value ∙ c.if-not-sound.true))

-- Past the first test the run is sound, and its arrays have all their places.
good : (c : Else-not-sound) → Good c.args.self
good c = (sym c.sound.ensures.value ∙ c.if-not-sound.false, c.sound.ensures.whole)

pub returns-then-clock-ge-MAX_CLOCK : goal.returns-then-clock-ge-MAX_CLOCK
returns-then-clock-ge-MAX_CLOCK c =
    sym (tick_too_late _ (good (goal.at.returns-then-clock-ge-MAX_CLOCK c).Else-not-sound).0 c.if-clock-ge-MAX_CLOCK.true)

pub nonzero_rem-clock : goal.nonzero_rem-clock
nonzero_rem-clock c = omega (arith, (facts c.args.self (good (goal.at.nonzero_rem-clock c).Else-not-sound)).good_timer.some_p)

pub returns-then-clock-self : goal.returns-then-clock-self
returns-then-clock-self c =
    let sound = (good (goal.at.returns-then-clock-self c).Else-not-sound).0 in
    rw c.late-late.ensures (sym (tick_taken c.args.self sound c.if-clock-ge-MAX_CLOCK.false (lt-ltb _ _ c.if-clock-self.true)))

-- The turn that `Pending::tick` takes is the tick.
turned : (c : After-tick-turned) → Good c.args.self → step_of c.args.self c.tick-turned.result ≡ ticked c.args.self
turned c sound = rw c.tick-turned.ensures (tick_is_a_turn c.args.self sound c.if-clock-ge-MAX_CLOCK.false (le-ltb _ _ c.if-clock-self.false))

pub returns-in-None : goal.returns-in-None
returns-in-None c = let to = goal.at.returns-in-None c in rw c.in-None.is at (turned to.After-tick-turned (good to.Else-not-sound))

pub returns-in-Some : goal.returns-in-Some
returns-in-Some c = let to = goal.at.returns-in-Some c in rw c.in-Some.is at (turned to.After-tick-turned (good to.Else-not-sound))
