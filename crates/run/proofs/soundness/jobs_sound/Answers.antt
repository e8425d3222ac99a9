use Prim.Native.Nat.{◌+◌}
use mathlib.Core.Path.{◌≡◌, sym, ap, ◌∙◌}
use mathlib.Core.Bool.{Bool, ◌&&◌}
use native.Mathlib.Omega.{arith}
use lib.ListN.{take, get_or}
use borrow.Author.Rules.{rules}
use Rattle.kinds.proofs.Apart.{impossible}
use Rattle.kinds.proofs.Lists.{length_mapped}
use Rattle.table.specs.Costs.{cost_limits, limit_of, cost_answer}
use Rattle.jobs.specs.Places.{no_job}
use Rattle.jobs.specs.Serials.{distinct_serials}
use Rattle.jobs.proofs.Changes.{rising_is_distinct}
use Rattle.run.proofs.Sound.{limits_lent, job_not_allowed, job_does_not_fit, job_does_fit, no_job_left, serial_below, all_risen, rises_on}
use Rattle.run.proofs.soundness.jobs_sound.Goals as goal
use Rattle.run.proofs.soundness.jobs_sound.Goals.{After-cost_answer, else-job-lowest, then-job-lowest}

-- The code's test of the job's row number and cost answers what the definition says.
tested : (c : After-cost_answer) → let j = get_or c.jobs-job-items.result.now c.loop-job.job-index no_job in
    cost_answer (limit_of (cost_limits c.args.table.now) j.row.0) j.cost ≡ c.cost_answer.result
tested c =
    let t = c.args.table.now in
    let lent : take (t.count + t.serving) c.cost_limits-limits.result ≡ cost_limits t =
    limits_lent t c.requires.0 (search (rules, length_mapped)) c.requires.1 _ c.cost_limits-limits.ensures in
    rw (← lent, ← c.limit_of-limit.ensures) (sym c.cost_answer.ensures)

pub returns-in-Err : goal.returns-in-Err
returns-in-Err c =
    let js = c.jobs-job-items.result.now in
    let refused = tested (goal.at.returns-in-Err c).After-cost_answer ∙ c.in-Err.is in
    rw (← c.jobs-job-items.ensures) (ap (λ (b : Bool). b && distinct_serials js) (job_not_allowed c.loop-job.invariant.0 c.loop-job-test.true _ refused))

pub returns-then-not-job_fits : goal.returns-then-not-job_fits
returns-then-not-job_fits c =
    let js = c.jobs-job-items.result.now in
    let allowed = tested (goal.at.returns-then-not-job_fits c).After-cost_answer ∙ c.in_default.is in
    let unfit = sym c.job_fits.ensures ∙ c.if-not-job_fits.true in
    rw (← c.jobs-job-items.ensures)
    (ap (λ (b : Bool). b && distinct_serials js) (job_does_not_fit c.loop-job.invariant.0 c.loop-job-test.true allowed unfit))

pub overflow_add-lowest : goal.overflow_add-lowest
overflow_add-lowest c = omega (arith, serial_below _ _ _ (sym c.job_fits.ensures ∙ c.if-not-job_fits.false))

pub loop-job-preserved : goal.loop-job-preserved
loop-job-preserved c =
    let js = c.jobs-job-items.result.now in
    let k = c.loop-job in
    let inside = c.loop-job-test.true in
    let allowed = tested (goal.at.loop-job-preserved c).After-cost_answer ∙ c.in_default.is in (
      job_does_fit k.invariant.0 inside allowed (sym c.job_fits.ensures ∙ c.if-not-job_fits.false),
      elim c.if-job-lowest.branch [
        | then-job-lowest w ↦ λ r e. impossible cc
        | else-job-lowest w ↦ λ r e. rises_on js k.rising k.lowest k.job-index k.invariant.1 inside w.if-job-lowest.false (sym w.rising-is ∙ r) e
      ],
    )

pub returns-then-rising : goal.returns-then-rising
returns-then-rising c =
    let js = c.jobs-job-items.result.now in
    let k = c.loop-job in
    let past = c.loop-job-test.false in
    rw (← c.jobs-job-items.ensures)
    (c.if-rising.true ∙ sym (rising_is_distinct js (all_risen js k.rising k.lowest k.job-index k.invariant.1 past c.if-rising.true))
    ∙ ap (λ (b : Bool). b && distinct_serials js) (no_job_left k.invariant.0 past))
