-- Due times are the paper's recurrence (1): the accepted jobs of each row come by the rule, and the theory proves that the rule is the recurrence. The accepted
-- odd jobs of each server come by the server's rule. (4.2, 4.3, 4.9)
use Rattle.theory.specs.Sources.{own}
use Rattle.theory.proofs.DueTimes.{due_by_recurrence_one}
use Rattle.table.specs.Tables.{table_read}
use Rattle.verdict.proofs.Rows.{row_within}
use Rattle.run.specs.Runs.{row_at}
use Rattle.promise.specs.Traces.{trace, jobs_of_trace}
use Rattle.promise.specs.Paper.{DueTimesAreRecurrenceOne, OddJobsAreDueByTheRule}
use Rattle.promise.proofs.RunsFollow.{bridge}

-- The accepted jobs of a row are due as recurrence (1) says.
pub due_times_are_recurrence_one : DueTimesAreRecurrenceOne
due_times_are_recurrence_one bytes ok calls row in_use =
    let b = bridge bytes ok calls in
    let r = row_at (table_read bytes).table row in
    due_by_recurrence_one r.x r.y r.d r.c (own row (jobs_of_trace (trace bytes calls))) (row_within b.table_in_range row in_use).some_x
    (b.by_rule row in_use)

-- The accepted odd jobs of a server are due as the server's rule says.
pub odd_jobs_are_due_by_the_rule : OddJobsAreDueByTheRule
odd_jobs_are_due_by_the_rule bytes ok calls = (bridge bytes ok calls).by_server
