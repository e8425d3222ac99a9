-- `run::soundness::jobs_sound` meets its contract. The loop's invariant says that all jobs are sound exactly when the jobs from the place i on are, and that
-- the serials before i rise, as far as `rising` says so. Serials that rise are distinct.
use Rattle.table.specs.Costs.{cost_limits}
use Rattle.run.proofs.Sound.{JobsFrom, RisenTo}
use Rattle.run.proofs.soundness.jobs_sound.Given as goal

abbrev pub invariant-loop-job : goal.invariant-loop-job
invariant-loop-job l = JobsFrom (cost_limits l.table) l.clock.0 l.next.0 l.job-items l.job-index × RisenTo l.job-items l.rising l.lowest l.job-index
