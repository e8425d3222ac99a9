-- Many ticks, one after another, with the jobs that finish in them. A replay is defined by these. (docs/RULES.md, sections 6.10 to 6.17, 8.2 and 8.3.)
use Rattle.std.specs.Prelude.{ℕ, zero, suc, ◌+◌, cond, ◌&&◌, List, [], ◌∷◌, ◌++◌, ltb, eqb}
use Rattle.kinds.specs.declared.Finish.{Finish}
use Rattle.jobs.specs.Units.{last_unit}
use Rattle.jobs.specs.Turns.{first_job, finish_at}
use Rattle.run.specs.declared.Run.{Run}
use Rattle.run.specs.Ticking.{is_taken, ticked}

-- The job that the next tick finishes, if there is one: the chosen job where it gets its last unit, with the new clock as its finish. No job finishes in a
-- taken tick. This is meant for a sound run with the clock below 2^40, where a tick is not refused. (6.5, 6.13)
abbrev pub finished_by : Run → List Finish
finished_by run =
    cond (is_taken run) []
    (cond (ltb 0 run.pending.count && last_unit (first_job run.pending)) (finish_at (run.clock.0 + 1) (first_job run.pending) ∷ []) [])

-- The run after some ticks, how many jobs became late in these ticks, and which jobs finished, in the order of finishing.
pub record SoFar : Type 0 where
  pub run : Run
  pub late : ℕ
  pub finishes : List Finish

-- The run, the late jobs and the finished jobs after one tick more. (6.10 to 6.14)
abbrev pub one_more_tick : SoFar → SoFar
one_more_tick s = record { run = (ticked s.run).run; late = s.late + (ticked s.run).late; finishes = s.finishes ++ finished_by s.run }

-- The run, the late jobs and the finished jobs after n ticks more. (8.2)
unfoldable pub ticks : (n : ℕ) → SoFar → SoFar
ticks zero s = s
ticks (suc n) s = ticks n (one_more_tick s)

-- The run, the late jobs and the finished jobs after ticks until nothing is pending, but at most n ticks. (8.3)
unfoldable pub ticks_while_pending : (n : ℕ) → SoFar → SoFar
ticks_while_pending zero s = s
ticks_while_pending (suc n) s = cond (eqb s.run.pending.count 0) s (ticks_while_pending n (one_more_tick s))

-- A run before any tick: no job has become late, and none has finished.
abbrev pub before_any_tick : Run → SoFar
before_any_tick run = record { run = run; late = 0; finishes = [] }
