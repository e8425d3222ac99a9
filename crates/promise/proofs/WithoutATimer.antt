-- Tables without a timer: the proofs. Where s is 0, the timer's count is 0 in every length and the timer takes no tick, and without servers their demand is 0.
-- So what was proved with a timer and servers is what would be proved without them. (3.16, 5.14, 6.5)
use Prim.Native.Nat.{ℕ}
use mathlib.Core.Path.{◌≡◌, refl, ap, fun_ext, subst, ◌∙◌}
use mathlib.Core.Bool.{Bool, true, false, cond}
use mathlib.Core.List.{List, [], ◌∷◌}
use native.Mathlib.Omega.{arith}
use lib.Dec.{ltb, eqb}
use Rattle.kinds.specs.Numbering.{max_time}
use Rattle.kinds.specs.declared.Refusal.TheVariants.{TimeTooLate, RunNotSound}
use Rattle.numbers.specs.Spelling as spelling
use Rattle.theory.specs.Lists.{total}
use Rattle.theory.specs.Curves.{sum_over}
use Rattle.theory.specs.Ticks.{timer_takes, none_taken}
use Rattle.theory.specs.Trace.{Trace, ServesEarliestDue, NeverIdlesInVain}
use Rattle.theory.proofs.Timers.{no_timer}
use Rattle.table.specs.declared.Row.{Row}
use Rattle.table.specs.Content.{Content}
use Rattle.table.specs.Timer.{GoodTimer}
use Rattle.table.specs.Tables.{servers_of, table_read}
use Rattle.table.specs.SpelledTables.{spelled_table}
use Rattle.table.proofs.Answers.{said_accepted}
use Rattle.table.proofs.SpelledTables.{rows_alone_are_spelled}
use Rattle.table.proofs.TableAnswers.{accepted_is_spelled}
use Rattle.verdict.specs.declared.Verdict.{Verdict}
use Rattle.verdict.specs.Demand.{server_demand_of}
use Rattle.verdict.specs.Verdict.{RightFor, Judged}
use Rattle.verdict.specs.RowsAlone.{demand_of_rows}
use Rattle.verdict.proofs.RowsAlone.{judged_by_rows_alone}
use Rattle.run.specs.declared.Run.{Run}
use Rattle.run.specs.Sound.{sound_of}
use Rattle.run.specs.Ticking.{refused_tick, is_taken, taken_tick, idle_tick, busy_tick, ticked}
use Rattle.run.specs.Ending.{ended}
use Rattle.run.proofs.Release.{each_release}
use Rattle.run.proofs.Ticking.{taken_means, tick_without_timer}
use Rattle.run.proofs.Ending.{each_end}
use Rattle.promise.specs.Traces.{Call, run_at, trace, clock_of, jobs_of_trace, ticks_of}
use Rattle.promise.specs.Link.{waiting_in, taken_on, left_early}
use Rattle.promise.specs.NoOrder.{named_jobs, Serves}
use Rattle.promise.specs.Replays.{calls_of}
use Rattle.promise.specs.WithoutATimer.{SaysRowsAlone, SpelledAsBefore, FeasibleByRowsAlone, OverloadedByRowsAlone, FeasibleIsThePapers}
use Rattle.promise.specs.WithoutATimer.{NoTickIsTaken, EveryTickIsFree, TracesHaveAllTicksFree, ReplaysHaveAllTicksFree, NoOrderOnAnyTick}
use Rattle.promise.specs.WithoutATimer.{SpelledSaysRowsAlone}
use Rattle.promise.proofs.RunsFollow.{bridge, runs_follow_the_theory}
use Rattle.promise.proofs.Replays.{replays_are_traces}
use Rattle.promise.proofs.NoOrder.{no_order}
use Rattle.promise.proofs.Paper.{feasible_means, overloaded_means, feasible_is_theorem42}
use Rattle.promise.proofs.WithoutServers.{spelled_says_no_servers}

-- ---- the table

module _ {bytes : List ℕ} {rows : List Row} (says : SaysRowsAlone bytes rows) where
  -- The timer's s is 0.
  no_s : (table_read bytes).table.s ≡ 0
  no_s = ap (λ (content : Content). content.s) says.alone

  -- The timer's count is 0 in every length.
  takes_nothing : (L : ℕ) → timer_takes (table_read bytes).table.s (table_read bytes).table.p L ≡ 0
  takes_nothing L = rw no_s ((no_timer (table_read bytes).table.p).1 L)

  -- The timer takes no tick.
  none_is_taken : taken_on (table_read bytes).table ≡ none_taken
  none_is_taken = fun_ext (λ t. rw no_s ((no_timer (table_read bytes).table.p).0 t))

  -- No servers have a demand of 0 in every length.
  no_server_asks : (L : ℕ) → sum_over server_demand_of (servers_of (table_read bytes).table) L ≡ 0
  unfolding total
  no_server_asks L = ap (λ (content : Content). sum_over server_demand_of content.servers L) says.alone

  -- A verdict that is right for the bytes is right for the sum of the rows' demands.
  right_for_rows : (v : Verdict) → Judged bytes v → RightFor (demand_of_rows rows) v
  right_for_rows v =
      (judged_by_rows_alone bytes says.period rows (said_accepted (table_read bytes).answer says.period says.accepted) says.alone v).0

pub spelled_as_before : SpelledAsBefore
spelled_as_before bytes fine rows says =
    (accepted_is_spelled bytes says.period fine says.accepted).spelled ∙ ap spelled_table says.alone ∙ rows_alone_are_spelled rows

-- ---- the verdict

pub feasible_by_rows_alone : FeasibleByRowsAlone
feasible_by_rows_alone bytes rows says v judged = feasible_means (demand_of_rows rows) v (right_for_rows says v judged)

pub overloaded_by_rows_alone : OverloadedByRowsAlone
overloaded_by_rows_alone bytes rows says v judged = overloaded_means (demand_of_rows rows) v (right_for_rows says v judged)

pub feasible_is_the_papers : FeasibleIsThePapers
feasible_is_the_papers bytes fine rows says v judged =
    let timed = feasible_is_theorem42 bytes fine says.period says.accepted v judged in (
      (λ said L some. omega (arith, timed.0 said L some)),
      (λ fits. timed.1 (λ L some. omega (arith, fits L some, no_server_asks says L, takes_nothing says L))),
    )

-- ---- the run

-- A tick leaves the table as it is.
tick_keeps_table : (run : Run) → (ticked run).run.table ≡ run.table
unfolding ticked
tick_keeps_table run = by_tests (sound_of run) (ltb run.clock.0 max_time) (is_taken run) (eqb run.pending.count 0)
  where
    by_tests : (sound in_time lost empty : Bool)
        → (cond sound (cond in_time (cond lost (taken_tick run) (cond empty (idle_tick run) (busy_tick run))) (refused_tick run TimeTooLate))
        (refused_tick run RunNotSound)).run.table ≡ run.table
    by_tests false in_time lost empty = refl
    by_tests true false lost empty = refl
    by_tests true true true empty = refl
    by_tests true true false true = refl
    by_tests true true false false = refl

-- An end leaves the table as it is.
end_keeps_table : (run : Run) (serial : ℕ) → (ended run serial).run.table ≡ run.table
end_keeps_table run serial =
    each_end run serial (λ step. step.run.table ≡ run.table) (λ unsound. refl) (λ sound nobody. refl) (λ sound at found many. refl)
    (λ sound at found few. refl)

-- After any calls on any bytes, the run has the table that was read.
same_table : (bytes : List ℕ) (calls : List Call) → (run_at bytes calls).table ≡ (table_read bytes).table
unfolding run_at
same_table bytes [] = refl
same_table bytes (Call.release row cost ∷ calls) =
    each_release (run_at bytes calls) row cost (λ step. step.run.table ≡ (table_read bytes).table) (λ r. same_table bytes calls)
    (λ t p given. same_table bytes calls)
same_table bytes (Call.tick ∷ calls) = tick_keeps_table (run_at bytes calls) ∙ same_table bytes calls
same_table bytes (Call.end serial ∷ calls) = end_keeps_table (run_at bytes calls) serial ∙ same_table bytes calls

module _ {bytes : List ℕ} {rows : List Row} (says : SaysRowsAlone bytes rows) (calls : List Call) where
  -- After any calls, the s of the run's timer is 0.
  still_no_s : (run_at bytes calls).table.s ≡ 0
  still_no_s = rw (same_table bytes calls) (no_s says)

  -- After any calls, the run's timer takes no tick.
  still_none_taken : taken_on (run_at bytes calls).table ≡ none_taken
  still_none_taken = ap taken_on (same_table bytes calls) ∙ none_is_taken says

pub no_tick_is_taken : NoTickIsTaken
no_tick_is_taken bytes rows says calls lost = omega (arith, ((taken_means (run_at bytes calls)).0 lost).2, still_no_s says calls)

pub every_tick_is_free : EveryTickIsFree
every_tick_is_free bytes fine rows says calls =
    tick_without_timer (run_at bytes calls) (still_no_s says calls) ∙ rw (bridge bytes fine calls).sound

pub traces_have_all_ticks_free : TracesHaveAllTicksFree
traces_have_all_ticks_free bytes fine rows says calls =
    let es = trace bytes calls in
    let follows = runs_follow_the_theory bytes fine calls in
    let free = subst
    (λ taken. (events : Trace taken (clock_of es) (waiting_in (run_at bytes calls)) (jobs_of_trace es) (ticks_of es) (left_early es)) × ServesEarliestDue events
    × NeverIdlesInVain events)
    (still_none_taken says calls)
    (follows.events, follows.earliest_due, follows.never_idle) in
    record { events = free.0; earliest_due = free.1; never_idle = free.2 }

pub replays_have_all_ticks_free : ReplaysHaveAllTicksFree
replays_have_all_ticks_free table script p fine records whole rows says =
    let t = replays_are_traces table script p fine records whole in
    (t, traces_have_all_ticks_free table fine rows says (calls_of t.records t.final))

-- ---- nobody's order

pub no_order_on_any_tick : NoOrderOnAnyTick
no_order_on_any_tick bytes fine rows says v judged L demand said who =
    subst (λ taken. ¬ Serves taken who (named_jobs (table_read bytes).table L)) (none_is_taken says) (no_order bytes fine v judged L demand said who)

-- ---- such tables exist

pub spelled_says_rows_alone : SpelledSaysRowsAlone
unfolding spelling.groups_of
spelled_says_rows_alone rows period good says =
    let takes_none : GoodTimer 0 1 = record { some_p = omega arith; most_p = omega arith; s_below_p = omega arith } in
    let without = spelled_says_no_servers 0 1 rows period takes_none good says in
    record { period = without.period; accepted = without.accepted; alone = without.none }
