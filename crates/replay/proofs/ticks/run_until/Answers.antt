-- `replay::ticks::run_until` meets its contract: where a job finishes the ticks go on, and where none does the time is reached.
use native.Mathlib.Omega.{arith}
use mathlib.Core.Path.{refl, sym, ◌∙◌}
use Rattle.std.proofs.lemmas.Map.Keys.{le_from_is_le}
use Prim.Native.Nat.{◌≤◌}
use Rattle.theory.specs.Ticks.{free_before, timer}
use Rattle.replay.proofs.FreeTicks.{free_and_taken}
use Rattle.replay.proofs.Ticking.{no_ticks_due, one_less, some_free, free_in_time, free_so, finished_on, nobody_on, nothing_pending}
use Rattle.replay.proofs.ticks.run_until.Goals as goal

pub returns-then-le : goal.returns-then-le
returns-then-le c = (refl, no_ticks_due _ _ _ _ (le_from_is_le _ _ (sym c.le.ensures ∙ c.if-le.true)))

pub returns-in-None : goal.returns-in-None
returns-in-None c =
    let some : 1 ≤ c.loop-jobs.jobs.count = omega (arith, c.loop-jobs-test.true) in (
      c.loop-jobs.invariant.0.same_length,
      nobody_on c.args.timer.good c.loop-jobs.invariant.0 c.requires.0 some c.loop-jobs.invariant.1 c.free_before.ensures
          c.work-worked.ensures.answer c.work-worked.ensures.columns c.in-None.is,
    )

pub after_free-requires : goal.after_free-requires
after_free-requires c =
    let some : 1 ≤ c.loop-jobs.jobs.count = omega (arith, c.loop-jobs-test.true) in
    let few : c.work-worked.result.clock.0 ≤ free_before (timer c.args.timer.s c.args.timer.p) c.args.until.0 =
    omega (
      arith,
      c.free_before.ensures,
      free_in_time c.args.timer.good c.loop-jobs.invariant.0 c.requires.0 some c.loop-jobs.invariant.1 c.free_before.ensures
          c.work-worked.ensures.answer c.work-worked.ensures.columns c.in-Some.is,
    ) in
    let all = free_and_taken c.args.timer.s c.args.timer.p c.args.until.0 c.args.timer.good.s_below_p in (
      some_free c.args.timer.good c.loop-jobs.invariant.0 c.requires.0 some c.loop-jobs.invariant.1 c.free_before.ensures
          c.work-worked.ensures.answer c.work-worked.ensures.columns c.in-Some.is,
      omega (arith, all, few, c.requires.0),
    )

pub loop-jobs-smaller : goal.loop-jobs-smaller
loop-jobs-smaller c =
    let some : 1 ≤ c.loop-jobs.jobs.count = omega (arith, c.loop-jobs-test.true) in
    omega (
      arith,
      one_less c.args.timer.good c.loop-jobs.invariant.0 c.requires.0 some c.loop-jobs.invariant.1 c.free_before.ensures
          c.work-worked.ensures.answer c.work-worked.ensures.columns c.in-Some.is,
    )

pub loop-jobs-preserved : goal.loop-jobs-preserved
loop-jobs-preserved c =
    let so = c.after_free.ensures in
    let some : 1 ≤ c.loop-jobs.jobs.count = omega (arith, c.loop-jobs-test.true) in (
      rw so (finished_on c.args.timer.good c.loop-jobs.invariant.0 c.requires.0 some c.loop-jobs.invariant.1 c.free_before.ensures
          c.work-worked.ensures.answer c.work-worked.ensures.columns c.in-Some.is (rw so at c.add.ensures)),
      rw so (free_so c.args.timer.good c.loop-jobs.invariant.0 c.requires.0 some c.loop-jobs.invariant.1 c.free_before.ensures
          c.work-worked.ensures.answer c.work-worked.ensures.columns c.in-Some.is),
    )

pub returns : goal.returns
returns c = (c.loop-jobs.invariant.0.same_length, nothing_pending c.loop-jobs.invariant.0 (omega (arith, c.loop-jobs-test.false)))
