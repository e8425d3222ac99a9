-- The bridge from a run to its trace. At every point of a trace the run follows the theory (specs/Link.antt), and has the trace's clock, next serial and number
-- of ended jobs. For each row it keeps the newest due times of all the row's accepted jobs, and for each server the newest one. From this the promises follow
-- by the theory's theorems.
use Prim.Native.Nat.{ℕ, ◌+◌, ◌≤◌, ◌<◌}
use mathlib.Core.Path.{◌≡◌}
use mathlib.Core.Bool.{true}
use mathlib.Core.List.{List}
use lib.ListN.{length}
use Rattle.theory.specs.Lists.{All}
use Rattle.theory.specs.Jobs.{DistinctNames}
use Rattle.theory.specs.DueTimes.{ByRule, dues}
use Rattle.theory.specs.Servers.{ByServer}
use Rattle.theory.specs.Sources.{own}
use Rattle.table.specs.declared.Table.{Table}
use Rattle.table.specs.Tables.{InRange}
use Rattle.run.specs.declared.Run.{Run}
use Rattle.run.specs.Runs.{row_at, server_at}
use Rattle.run.specs.Sound.{sound_of, Whole}
use Rattle.run.specs.History.{KeepsHistory}
use Rattle.promise.specs.Traces.{Event, clock_of, jobs_of_trace, ended_in}
use Rattle.promise.specs.Link.{Follows}

-- These things hold at every point of a trace.
pub record Bridge (t : Table) (run : Run) (es : List Event) : Type 0 where
  pub table_in_range : InRange t
  pub same_table : run.table ≡ t
  pub whole : Whole run
  pub sound : sound_of run ≡ true
  pub same_clock : run.clock.0 ≡ clock_of es
  pub next_serial : run.next.0 ≡ length (jobs_of_trace es)
  pub same_ended : run.ended ≡ length (ended_in es)
  pub distinct : DistinctNames (jobs_of_trace es)
  pub names_below : All (λ j. j.name < length (jobs_of_trace es)) (jobs_of_trace es)
  pub rows_in_use : All (λ j. j.source < t.count + t.serving) (jobs_of_trace es)
  pub some_cost : All (λ j. 1 ≤ j.cost) (jobs_of_trace es)
  pub follows : Follows run es
  pub keeps_history : KeepsHistory run (λ i. dues (own i (jobs_of_trace es)))
  pub by_rule : (i : ℕ) → i < t.count
      → ByRule (row_at t i).x (row_at t i).y (row_at t i).d (row_at t i).c (own i (jobs_of_trace es))
  pub by_server : (i : ℕ) → t.count ≤ i → i < t.count + t.serving
      → ByServer (server_at t i).a (server_at t i).b (own i (jobs_of_trace es))
