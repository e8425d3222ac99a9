-- In time: the proof. On a feasible table every length fits. In no window do the accepted jobs ask for more than the demand of the rows and servers, source by
-- source, and in no window does the timer take more ticks than it does in a window of that length that begins at zero. The ticks so far are a trace of the
-- theory in which the earliest due job goes first and no free tick idles while a job waits. So the theory's theorem applies: a job that is due has had
-- its cost, or left early and so was ended. An ended job has had what the end answered, at every later point too. Beside these stand the clock, which comes to
-- every due time, and the due times, which are all at 2^40 or before. (5.3, 5.4, 6.26, 6.27, 6.29)
use Rattle.std.specs.Prelude.{Result, Ok, Err}
use Rattle.kinds.specs.declared.RefusedAt.{RefusedAt}
use Prim.Native.Nat.{ℕ, suc, ◌+◌, ◌≤◌, ◌<◌, min}
use mathlib.Core.Path.{◌≡◌, refl, sym, ◌∙◌}
use mathlib.Core.Logic.{⊎_elim}
use mathlib.Core.Bool.{true, false}
use mathlib.Core.List.{List, [], ◌∷◌, ◌++◌, Memᴰ}
use native.Mathlib.Omega.{arith}
use lib.ListN.{length, get_or}
use lib.Seq.{take-length}
use Rattle.kinds.specs.Numbering.{max_time}
use Rattle.kinds.proofs.Apart.{impossible}
use Rattle.kinds.proofs.Numbering.{never_an_answer}
use Rattle.numbers.specs.SpelledNumbers.{Bytes}
use Rattle.theory.specs.Lists.{All}
use Rattle.theory.specs.Curves.{EveryLengthFits, sum_over}
use Rattle.theory.specs.Jobs.{Job, BoundedBy}
use Rattle.theory.specs.Ticks.{timer_takes, TakenAtMost}
use Rattle.theory.specs.DueTimes.{dues}
use Rattle.theory.specs.Servers.{last_due, ByServer}
use Rattle.theory.specs.Sources.{own}
use Rattle.theory.specs.Trace.{ServedOrEnded, served, ended}
use Rattle.theory.proofs.Cases.{by_lt}
use Rattle.theory.proofs.Lists.{all_at, total_zero}
use Rattle.theory.proofs.DueTimes.{due_at_least_d}
use Rattle.theory.proofs.Timers.{timer_takes_at_most}
use Rattle.theory.proofs.EarliestDue.{trace_is_in_time as in_time_by_the_theory}
use Rattle.theory.proofs.Servers.{odd_due_after_release}
use Rattle.theory.proofs.Sources.{sum_of_sources}
use Rattle.table.specs.declared.Table.{Table}
use Rattle.table.specs.Tables.{no_row, table_read}
use Rattle.verdict.specs.declared.Verdict.{Verdict}
use Rattle.verdict.specs.declared.Verdict.TheVariants as verdict
use Rattle.verdict.specs.Demand.{table_demand}
use Rattle.verdict.specs.Verdict.{RightOfRead, verdict_says}
use Rattle.verdict.proofs.Rows.{row_within}
use Rattle.verdict.proofs.Sums.{first_all}
use Rattle.run.specs.declared.Run.{Run}
use Rattle.run.specs.Runs.{row_at, server_at}
use Rattle.run.proofs.Release.{each_release, given_in_time}
use Rattle.run.specs.Answers.{release_says, tick_says, ended_with}
use Rattle.run.specs.Answers as says
use Rattle.promise.specs.Traces.{Call, Event, EndedJob, run_at, event_of, trace, told, clock_of, jobs_of_trace, ticks_of, units_of, ended_in, was_ended}
use Rattle.promise.specs.Link.{taken_on, left_early}
use Rattle.promise.specs.Sources.{Source, sources_of, source_at, source_demand}
use Rattle.promise.specs.InTime.{SaidFeasible, InTime, EndedHadWhatWasSaid, EndedNeverGetsAnother, NeverMore, OneJobASerial, ticks_in}
use Rattle.promise.specs.InTime.{ClockCountsTicks, DueTimesCome}
use Rattle.promise.proofs.Sources.{sources_are_numbered, demand_over_sources}
use Rattle.promise.proofs.RunAndTrace.{Bridge}
use Rattle.promise.proofs.Ended.{among_means, is_among, ended_is_known, left_early_was_ended}
use Rattle.promise.proofs.RunsFollow.{bridge}
use Rattle.promise.proofs.Units.{sound_facts, never_more_units}
use Rattle.promise.proofs.Ticks.{no_job_by_a_tick, no_tick_by_a_release, no_end_by_a_tick, no_end_by_a_release}
use Rattle.promise.proofs.Ticks.{no_job_by_an_end, no_tick_by_an_end, each_tick}
use Rattle.promise.proofs.Share.{own_member, server_good, no_demand_at_zero, source_share}

-- ---- a feasible table

-- Only the verdict feasible has the number 20, and it is right only where every length fits.
right_and_feasible : (t : Table) (a : Result ℕ RefusedAt) (v : Verdict) → RightOfRead t a v → (verdict_says v).number ≡ 20 → EveryLengthFits (table_demand t)
right_and_feasible t (Ok period) verdict.Feasible right says = right
right_and_feasible t (Ok period) (verdict.Overloaded w) right says = absurd (omega arith)
right_and_feasible t (Ok period) (verdict.Refused r) right says = absurd right
right_and_feasible t (Err r) v right says =
    let refused = rw right at says in
    ⊎_elim (λ h. absurd (omega arith)) (λ h. absurd (omega arith)) (never_an_answer r.refusal)

-- Where `judge` says feasible, every length fits.
pub feasible_fits : (bytes : List ℕ) → SaidFeasible bytes → EveryLengthFits (table_demand (table_read bytes).table)
feasible_fits bytes said = right_and_feasible (table_read bytes).table (table_read bytes).answer said.answer said.judged said.feasible

module _ {t : Table} {run : Run} {es : List Event} (b : Bridge t run es) where
  -- ---- what the accepted jobs ask for

  -- `other` is the source for a row number that is not in use, which is never looked up.
  abbrev other : Source
  other = Source.row no_row

  -- There are as many sources as row numbers in use.
  as_many : length (sources_of t) ≡ t.count + t.serving
  as_many = (sources_are_numbered t b.table_in_range).0

  -- What holds for the source of each row number in use holds for each source by its place.
  at_each_place : (P : Source → Type 0) (row : ℕ) → (row < t.count + t.serving → P (source_at t row)) → row < length (sources_of t)
      → P (get_or (sources_of t) row other)
  at_each_place P row h in_use =
      let inside : row < t.count + t.serving = omega (arith, as_many) in
      rw ((sources_are_numbered t b.table_in_range).1 row other inside) (h inside)

  -- In every window the accepted jobs ask for at most the demand of all sources.
  demand_bounds : BoundedBy (sum_over source_demand (sources_of t)) (jobs_of_trace es)
  demand_bounds = sum_of_sources Source source_demand other (sources_of t) (jobs_of_trace es) (rw as_many b.rows_in_use)
      (λ row. at_each_place (λ s. BoundedBy (source_demand s) (own row (jobs_of_trace es))) row (source_share b row))

  -- In a window of no length the sources have no demand.
  none_at_zero : sum_over source_demand (sources_of t) 0 ≡ 0
  none_at_zero =
      let all = first_all other (sources_of t) (λ s. source_demand s 0 ≡ 0) (length (sources_of t)) (omega arith)
      (λ row. at_each_place (λ s. source_demand s 0 ≡ 0) row (no_demand_at_zero b.table_in_range row)) in
      total_zero (λ s. source_demand s 0) (sources_of t) (rw (take-length (sources_of t)) at all)

  -- ---- what the timer takes

  -- In every window the run's timer takes at most as many ticks as the table's demand has for it.
  taken_at_most : TakenAtMost (timer_takes t.s t.p) (taken_on run.table)
  taken_at_most =
      let good = b.table_in_range.good_timer in
      rw b.same_table (timer_takes_at_most t.s t.p good.some_p (omega (arith, good.s_below_p)))

  -- ---- in time

  -- Where every length fits, an accepted job that is due has had its cost, if it was not ended early.
  pub due_had_its_cost : EveryLengthFits (table_demand t) → (j : Job) → Memᴰ j (jobs_of_trace es) → was_ended es j ≡ false → j.due ≤ clock_of es
      → units_of j.name es ≡ j.cost
  due_had_its_cost fits j m stays due =
      let f = b.follows in
      let demand = sum_over source_demand (sources_of t) in
      let all = in_time_by_the_theory f.events f.earliest_due f.never_idle b.distinct demand (timer_takes t.s t.p)
      demand_bounds taken_at_most none_at_zero (λ L some. rw (← demand_over_sources t L) (fits L some)) in
      by_end (all_at (λ (i : Job). i.due ≤ clock_of es → ServedOrEnded i (ticks_of es) (left_early es)) all m due)
    where
      by_end : ServedOrEnded j (ticks_of es) (left_early es) → units_of j.name es ≡ j.cost
      by_end (served e) = e
      by_end (ended u) = let gone : was_ended es j ≡ true = left_early_was_ended b j u.left u.among in impossible cc

-- ---- the clock

module _ {t : Table} {run : Run} {es : List Event} (b : Bridge t run es) where
  -- A tick takes the clock up by one, and never above 2^40.
  pub clock_after_a_tick : clock_of (event_of run Call.tick ∷ es) ≡ min (suc (clock_of es)) max_time
  unfolding told
  clock_after_a_tick =
      let clock = b.same_clock in
      let in_time : run.clock.0 ≤ max_time = (sound_facts b).clock_in_time in
      each_tick run b.sound (λ step. clock_of (Event.tick (tick_says step.answer) step.late ∷ es) ≡ min (suc (clock_of es)) max_time)
      (λ last. omega arith)
      (λ h takes. omega arith)
      (λ h free none. omega arith)
      (λ h free some. omega arith)

-- ---- due times

-- No accepted job is due after 2^40.
dues_in_time : (bytes : List ℕ) (calls : List Call) → All (λ j. j.due ≤ max_time) (jobs_of_trace (trace bytes calls))
unfolding run_at trace told
dues_in_time bytes [] = tt
dues_in_time bytes (Call.release row cost ∷ calls) =
    let run = run_at bytes calls in
    let before = dues_in_time bytes calls in
    each_release run row cost
    (λ step. All (λ j. j.due ≤ max_time) (jobs_of_trace (Event.release row cost (release_says step.answer) ∷ trace bytes calls)))
    (λ r. before)
    (λ due passed given. (given_in_time run row cost due given, before))
dues_in_time bytes (Call.tick ∷ calls) = rw no_job_by_a_tick (dues_in_time bytes calls)
dues_in_time bytes (Call.end serial ∷ calls) = rw no_job_by_an_end (dues_in_time bytes calls)

-- A job of a server that costs something is due after its release.
odd_due_later : (a b : ℕ) → 1 ≤ a → 1 ≤ b → (js : List Job) → ByServer a b js → All (λ j. 1 ≤ j.cost → suc j.release ≤ j.due) js
unfolding ByServer
odd_due_later a b some_a some_b [] r = tt
odd_due_later a b some_a some_b (j ∷ js) r =
    (λ some. rw r.0 (odd_due_after_release a b (last_due (dues js)) j.release j.cost some_a some_b some), odd_due_later a b some_a some_b js r.1)

-- Every accepted job is due after its release.
due_after_release : {t : Table} {run : Run} {es : List Event} → Bridge t run es → (j : Job) → Memᴰ j (jobs_of_trace es) → suc j.release ≤ j.due
due_after_release {t = t} {es = es} b j m =
    let row = j.source in
    let in_use = all_at (λ (i : Job). i.source < t.count + t.serving) b.rows_in_use m in
    let js = own row (jobs_of_trace es) in
    by_lt row t.count
    (λ of_row.
    let r = row_at t row in
    let later = all_at (λ i. i.release + r.d ≤ i.due) (due_at_least_d r.x r.y r.d r.c js (b.by_rule row of_row)) (own_member j m) in
    omega (arith, later, (row_within b.table_in_range row of_row).some_d))
    (λ of_server.
    let v = server_at t row in
    let good = server_good b.table_in_range row of_server in_use in
    let later = odd_due_later v.a v.b good.some_a (omega (arith, good)) js (b.by_server row of_server in_use) in
    all_at (λ (i : Job). 1 ≤ i.cost → suc i.release ≤ i.due) later (own_member j m) (all_at (λ (i : Job). 1 ≤ i.cost) b.some_cost m))

-- ---- the promises

-- Once the clock is at an accepted job's due time or past it, the job has had its cost, if it was not ended early.
pub in_time : InTime
in_time bytes ok said calls = due_had_its_cost (bridge bytes ok calls) (feasible_fits bytes said)

-- Each job that was ended early has had exactly what the end answered.
pub ended_had_what_was_said : EndedHadWhatWasSaid
ended_had_what_was_said bytes ok calls = ended_is_known (bridge bytes ok calls)

-- One more event leaves every ended job among the ended ones.
pub ended_stays : (e : Event) (es : List Event) (d : EndedJob) → Memᴰ d (ended_in es) → Memᴰ d (ended_in (e ∷ es))
unfolding told
ended_stays (Event.release row cost a) es d m = rw no_end_by_a_release m
ended_stays (Event.tick a late) es d m = rw no_end_by_a_tick m
ended_stays (Event.end serial (ended_with units)) es d m = Memᴰ.tail m
ended_stays (Event.end serial (says.EndingSays.refused number place)) es d m = m

-- Later calls leave every ended job among the ended ones.
ended_stays_so : (bytes : List ℕ) (calls later : List Call) (d : EndedJob) → Memᴰ d (ended_in (trace bytes calls))
    → Memᴰ d (ended_in (trace bytes (later ++ calls)))
unfolding trace
ended_stays_so bytes calls [] d m = m
ended_stays_so bytes calls (c ∷ later) d m =
    ended_stays (event_of (run_at bytes (later ++ calls)) c) (trace bytes (later ++ calls)) d (ended_stays_so bytes calls later d m)

-- A job that was ended early never gets another unit: before the later calls and after them it has had what the end answered.
pub ended_never_gets_another : EndedNeverGetsAnother
ended_never_gets_another bytes ok calls later j m gone =
    let found = among_means j.name (ended_in (trace bytes calls)) gone in
    let d = found.0 in
    let still = ended_stays_so bytes calls later d found.1 in
    let had = (ended_had_what_was_said bytes ok calls d found.1).had_these in
    let has = (ended_had_what_was_said bytes ok (later ++ calls) d still).had_these in
    (rw (← found.2) (has ∙ sym had), is_among j.name still found.2)

-- No job ever has more units than its cost.
pub never_more : NeverMore
never_more bytes ok calls = never_more_units (bridge bytes ok calls)

-- No two accepted jobs have the same serial.
pub one_job_a_serial : OneJobASerial
one_job_a_serial bytes ok calls = (bridge bytes ok calls).distinct

-- The clock is the number of ticks called for, up to 2^40.
clock_counts : (bytes : List ℕ) → Bytes bytes → (calls : List Call) → clock_of (trace bytes calls) ≡ min (ticks_in calls) max_time
unfolding trace ticks_in told
clock_counts bytes ok [] = refl
clock_counts bytes ok (Call.release row cost ∷ calls) = rw no_tick_by_a_release (clock_counts bytes ok calls)
clock_counts bytes ok (Call.tick ∷ calls) = omega (arith, clock_after_a_tick (bridge bytes ok calls), clock_counts bytes ok calls)
clock_counts bytes ok (Call.end serial ∷ calls) = rw no_tick_by_an_end (clock_counts bytes ok calls)

-- The run's own clock is the clock that the answers tell.
pub clock_counts_ticks : ClockCountsTicks
clock_counts_ticks bytes ok calls = (clock_counts bytes ok calls, (bridge bytes ok calls).same_clock)

-- Every accepted job is due after its release, and at 2^40 or before.
pub due_times_come : DueTimesCome
due_times_come bytes ok calls j m =
    (due_after_release (bridge bytes ok calls) j m, all_at (λ (i : Job). i.due ≤ max_time) (dues_in_time bytes calls) m)
