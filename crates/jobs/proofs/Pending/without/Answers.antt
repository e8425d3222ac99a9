-- `Pending::without` meets its contract: the later jobs are moved down by one call.
use Rattle.jobs.proofs.Places.{moved_is_taken_out}
use Rattle.jobs.proofs.Pending.without.Goals as goal

pub returns : goal.returns
returns c = rw (c.copy_within.ensures.after, c.jobs-used.ensures, c.no_job.ensures) (moved_is_taken_out c.args.self c.args.at c.requires)
