-- Tables without a timer. Where s is 0 and p is 1 and there are no servers, the table is its rows alone, as it was before there were timers and servers. Its
-- verdict is what the rows alone say, no tick is ever taken, and every trace and every replay is what it is where every tick is free. So whoever trusted a
-- table keeps all that was promised for it: `00 01` is put in front of its bytes and `00` after them, and nothing else changes. (3.16, 5.14, 6.5)
use Rattle.std.specs.Prelude.{ℕ, ◌≤◌, ◌≡◌, ◌↔◌, ◌≢◌, cond, List, [], ◌∷◌, ◌++◌, ltb}
use Rattle.std.proofs.Math.Option.{Option}
use Rattle.kinds.specs.Numbering.{values, max_time}
use Rattle.kinds.specs.declared.Refusal.TheVariants.{TimeTooLate}
use Rattle.numbers.specs.SpelledNumbers.{Bytes}
use Rattle.theory.specs.Curves.{EveryLengthFits, SmallestFailing}
use Rattle.theory.specs.Ticks.{none_taken}
use Rattle.theory.specs.Trace.{Trace, ServesEarliestDue, NeverIdlesInVain}
use Rattle.table.specs.declared.Row.{Row}
use Rattle.table.specs.Content.{rows_alone}
use Rattle.table.specs.Tables.{content_of, table_read}
use Rattle.table.specs.SpelledTables.{GoodRows, spelled_rows}
use Rattle.table.specs.Answers.{table_says}
use Rattle.verdict.specs.declared.Verdict.{Verdict}
use Rattle.verdict.specs.Verdict.{Judged, verdict_says}
use Rattle.verdict.specs.RowsAlone.{demand_of_rows}
use Rattle.run.specs.Ticking.{refused_tick, free_tick, ticked}
use Rattle.run.specs.Answers.{taken}
use Rattle.play.specs.LogRecords.{OfWhole}
use Rattle.promise.specs.Traces.{Call, run_at, trace, clock_of, jobs_of_trace, ticks_of}
use Rattle.promise.specs.Link.{waiting_in, left_early}
use Rattle.promise.specs.Choice.{next_tick}
use Rattle.promise.specs.Paper.{paper_sum}
use Rattle.promise.specs.NoOrder.{named_jobs, Serves}
use Rattle.promise.specs.Replays.{calls_of, IsTheTrace}

-- The bytes are accepted, and say these rows alone: s is 0, p is 1, and there are no servers. (3.6, 3.16)
pub record SaysRowsAlone (bytes : List ℕ) (rows : List Row) : Type 0 where
  pub period : ℕ
  pub accepted : table_says (table_read bytes).answer ≡ values (period ∷ [])
  pub alone : content_of (table_read bytes).table ≡ rows_alone rows

-- Bytes that say rows alone are `00 01`, then the spelling of the rows, which is as it was, and then `00` for no servers. (3.6)
abbrev pub SpelledAsBefore : Type 0
SpelledAsBefore = (bytes : List ℕ) → Bytes bytes → (rows : List Row) → SaysRowsAlone bytes rows → bytes ≡ 0x00 ∷ 0x01 ∷ (spelled_rows rows ++ (0x00 ∷ []))

-- ---- the verdict

-- The verdict is feasible exactly when the sum of the rows' demands is at most the length, for every length. (5.14)
abbrev pub FeasibleByRowsAlone : Type 0
FeasibleByRowsAlone = (bytes : List ℕ) (rows : List Row) → SaysRowsAlone bytes rows → (v : Verdict) → Judged bytes v
    → ((verdict_says v).number ≡ 20) ↔ EveryLengthFits (demand_of_rows rows)

-- The verdict is overloaded with a length and a demand exactly when this is the smallest length that the sum of the rows' demands exceeds, and the demand is
-- that sum. (5.14)
abbrev pub OverloadedByRowsAlone : Type 0
OverloadedByRowsAlone = (bytes : List ℕ) (rows : List Row) → SaysRowsAlone bytes rows → (v : Verdict) → Judged bytes v → (L units : ℕ)
    → (verdict_says v ≡ record { number = 21; first = L; second = units }) ↔ (SmallestFailing (demand_of_rows rows) L × (units ≡ demand_of_rows rows L))

-- The verdict is feasible exactly when the condition of the paper's Theorem 4.2 holds, as it stands in the paper. (5.4, 5.14)
abbrev pub FeasibleIsThePapers : Type 0
FeasibleIsThePapers = (bytes : List ℕ) → Bytes bytes → (rows : List Row) → SaysRowsAlone bytes rows → (v : Verdict) → Judged bytes v
    → ((verdict_says v).number ≡ 20) ↔ ((L : ℕ) → 1 ≤ L → paper_sum (table_read bytes).table L ≤ L)

-- ---- the run

-- No tick is ever taken, whatever the calls before it were. (6.5, 6.12)
abbrev pub NoTickIsTaken : Type 0
NoTickIsTaken = (bytes : List ℕ) (rows : List Row) → SaysRowsAlone bytes rows → (calls : List Call) → next_tick bytes calls ≢ taken

-- Every tick is what a free tick is: with nothing pending it is idle, and otherwise it gives a unit. With the clock at 2^40 it is refused with 10. (6.12, 6.16)
abbrev pub EveryTickIsFree : Type 0
EveryTickIsFree = (bytes : List ℕ) → Bytes bytes → (rows : List Row) → SaysRowsAlone bytes rows → (calls : List Call)
    → let run = run_at bytes calls in ticked run ≡ cond (ltb run.clock.0 max_time) (free_tick run) (refused_tick run TimeTooLate)

-- After these calls the answers are a trace of the theory in which every tick is free, and the jobs that leave before they have had their cost are those that
-- were ended early. (6.5, 6.11, 6.12, 6.27)
pub record FollowsWithAllFree (bytes : List ℕ) (calls : List Call) : Type 0 where
  pub events : Trace none_taken (clock_of (trace bytes calls)) (waiting_in (run_at bytes calls)) (jobs_of_trace (trace bytes calls)) (ticks_of (trace bytes calls))
      (left_early (trace bytes calls))
  pub earliest_due : ServesEarliestDue events
  pub never_idle : NeverIdlesInVain events

-- After any calls on a table of rows alone, the answers are such a trace. (6.5, 6.11, 6.12)
abbrev pub TracesHaveAllTicksFree : Type 0
TracesHaveAllTicksFree = (bytes : List ℕ) → Bytes bytes → (rows : List Row) → SaysRowsAlone bytes rows → (calls : List Call) → FollowsWithAllFree bytes calls

-- A replay on a table of rows alone that comes to its end is the trace of its calls, and every tick in it is free. (8.2, 8.3)
abbrev pub ReplaysHaveAllTicksFree : Type 0
ReplaysHaveAllTicksFree = OfWhole λ table script p. (rows : List Row) → SaysRowsAlone table rows
    → (t : IsTheTrace table script p) × FollowsWithAllFree table (calls_of t.records t.final)

-- On an overloaded table nobody serves the jobs that the witness names, even if every tick counts. (5.11)
abbrev pub NoOrderOnAnyTick : Type 0
NoOrderOnAnyTick = (bytes : List ℕ) → Bytes bytes → (rows : List Row) → SaysRowsAlone bytes rows → (v : Verdict) → Judged bytes v
    → (L demand : ℕ) → verdict_says v ≡ record { number = 21; first = L; second = demand } → (who : ℕ → Option ℕ)
    → ¬ Serves none_taken who (named_jobs (table_read bytes).table L)

-- Such tables exist: of rows that a table may have, the bytes `00 01`, the spelling of the rows and the byte `00` say these rows alone wherever they are
-- accepted. (3.6)
abbrev pub SpelledSaysRowsAlone : Type 0
SpelledSaysRowsAlone = (rows : List Row) (period : ℕ) → GoodRows rows
    → let bytes : List ℕ = 0x00 ∷ 0x01 ∷ (spelled_rows rows ++ (0x00 ∷ [])) in
    table_says (table_read bytes).answer ≡ values (period ∷ []) → SaysRowsAlone bytes rows
