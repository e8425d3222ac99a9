-- What it means that columns hold some jobs, that no job has finished yet, and that one has. (docs/RULES.md, section 6.)
use Rattle.std.specs.Prelude.{ℕ, ◌+◌, ◌-◌, ◌≤◌, ◌<◌, ◌≡◌, List, length}
use Rattle.kinds.specs.declared.Finish.{Finish}
use Rattle.jobs.specs.declared.Job.{Job}
use Rattle.columns.specs.declared.Columns.{Columns}
use Rattle.columns.specs.Columns.{ColumnsHold}
use Rattle.columns.specs.Ticks.{Reached, worked_first, work_on, work_answer}

-- A list of jobs that these columns hold.
pub record HeldJobs (c : Columns) : Type 0 where
  pub jobs : List Job
  pub held : ColumnsHold c jobs

-- What `work` does to columns that hold the jobs js: afterwards they hold what the ticks from `clock` up to `until` leave of them, and the clock and the answer
-- are those of these ticks. (6.10 to 6.13)
pub record WorksAs (c : Columns) (js : List Job) (clock until : ℕ) : Type 0 where
  pub holds : ColumnsHold (work_on c clock until) (worked_first (until - clock) clock js).jobs
  pub clock_so : (work_answer c clock until).clock.0 ≡ (worked_first (until - clock) clock js).clock
  pub answer_so : (work_answer c clock until).finished ≡ (worked_first (until - clock) clock js).answer

-- No job has finished in n ticks: as many jobs are pending as before, and the clock has gone up by n unless nothing was pending.
pub record NobodyYet (n clock : ℕ) (js : List Job) (r : Reached) : Type 0 where
  pub as_many : length r.jobs ≡ length js
  pub by_n : 1 ≤ length js → r.clock ≡ clock + n

-- One job has finished: one job fewer is pending, its finish is the clock that was reached, and this clock is later than the one before, by at most n.
pub record OneFinished (n clock : ℕ) (js : List Job) (f : Finish) (r : Reached) : Type 0 where
  pub one_less : length r.jobs + 1 ≡ length js
  pub now : f.finish.0 ≡ r.clock
  pub later : clock < r.clock
  pub in_time : r.clock ≤ clock + n
