-- At the host: the proof. A replay makes the run's own calls, so the bridge holds all through it. On a feasible table every accepted job that is due was ended
-- early or has had its cost. So no tick counts a late job. At 2^40 every job is due, so nothing is pending then, and the final ticks come to their end. (8.3,
-- 8.7, 8.14)
use Rattle.std.specs.Prelude.{Option, Some, None, Result, Ok, Err}
use Rattle.run.specs.declared.Accepted.{Accepted}
use Prim.Native.Nat.{ℕ, zero, suc, ◌+◌, ◌-◌, ◌≤◌, ◌<◌}
use mathlib.Core.Path.{◌≡◌, refl, sym, subst, ◌∙◌}
use mathlib.Core.Bool.{Bool, true, false, cond}
use mathlib.Core.List.{List, [], ◌∷◌, Memᴰ}
use native.Mathlib.Omega.{arith}
use lib.Dec.{leb, eqb}
use lib.ListN.{length, get_or}
use borrow.Author.Tests.{eqb-true, eq-eqb, ne_eqb, le-ltb}
use Rattle.kinds.specs.declared.Refusal.{Refusal}
use Rattle.kinds.specs.declared.Refusal.TheVariants.{NoSuchRow, CostOutOfRange, TimeTooLate, ScriptMisspelled}
use Rattle.kinds.specs.declared.RefusedAt.{RefusedAt}
use Rattle.kinds.specs.Numbering.{max_time, refusal_number}
use Rattle.kinds.proofs.Apart.{impossible}
use Rattle.kinds.proofs.Numbering.{no_answer}
use Rattle.numbers.specs.declared.Number.{Number}
use Rattle.numbers.specs.SpelledNumbers.{Bytes}
use Rattle.theory.specs.Curves.{EveryLengthFits}
use Rattle.theory.specs.Jobs.{Job}
use Rattle.theory.proofs.Cases.{by_lt, by_eq, by_test}
use Rattle.theory.proofs.Lists.{all_of_members, none_passes}
use Rattle.table.specs.declared.Table.{Table}
use Rattle.table.specs.Costs.{cost_limits, limit_of, cost_answer}
use Rattle.table.specs.Rows.{from_one_to}
use Rattle.table.specs.Tables.{table_read}
use Rattle.verdict.specs.declared.Verdict.{Verdict}
use Rattle.verdict.specs.Demand.{table_demand}
use Rattle.verdict.specs.Verdict.{RightOfRead, verdict_says}
use Rattle.jobs.specs.Places.{no_job, jobs_of}
use Rattle.jobs.proofs.Changes.{job_among_the_rest}
use Rattle.run.specs.declared.Run.{Run}
use Rattle.run.specs.Runs.{start_answer, started}
use Rattle.run.specs.Release.{released}
use Rattle.run.specs.Ticking.{ticked}
use Rattle.run.specs.Answers.{tick_says}
use Rattle.run.specs.ManyTicks.{SoFar, one_more_tick, ticks_while_pending}
use Rattle.run.proofs.Ticking.{Good, facts, counted, tick_keeps_good}
use Rattle.script.specs.Records.{script_number}
use Rattle.script.proofs.Records.{number_or_14}
use Rattle.script.proofs.Scripts.{record_is_spelled}
use Rattle.logs.specs.SpelledLogs.{spelled_log}
use Rattle.records.specs.declared.Ready.{Ready}
use Rattle.records.specs.Numbers.{numbers_at, refused_at, on_number, on_row, on_cost, tested_numbers}
use Rattle.play.specs.Play.{Progress, begun, Step, goes_on, stops, after_release, ticked_to, after_tests, stepped}
use Rattle.play.specs.Play.{Played, whole, stopped, final_ticks, and_then, played_from, played}
use Rattle.play.specs.Late.{late_finishes}
use Rattle.replay.specs.Outcome.{replay_outcome, replay_of, replay_says}
use Rattle.play.proofs.SingleTicks.{tick_clock, along_draining}
use Rattle.records.proofs.ReadRecords.{passed_is_read}
use Rattle.play.proofs.KeptThroughout.{Keeps, went_on, step_keeps}
use Rattle.play.proofs.WholePlays.{late_is_the_sum}
use Rattle.host.specs.Answer.{VerdictAnswered, answer_length}
use Rattle.host.specs.Answer as host
use Rattle.host.proofs.Answering.{replay_of_another_size, replay_of_sixteen}
use Rattle.promise.specs.Traces.{Call, Event, event_of, clock_of, jobs_of_trace, units_of, was_ended, unfinished}
use Rattle.promise.specs.Choice.{late_at}
use Rattle.promise.specs.InTime.{SaidFeasible}
use Rattle.promise.specs.AtHost.{NotLate, AtHost, AtHostCalls}
use Rattle.promise.specs.Link.{job_of}
use Rattle.promise.proofs.RunAndTrace.{Bridge}
use Rattle.promise.proofs.RunsFollow.{bridge_of_started, release_keeps_bridge, tick_keeps_bridge}
use Rattle.promise.proofs.Units.{sound_facts, pending_is_owed, pending_is_unfinished}
use Rattle.promise.proofs.Ticks.{no_job_by_a_tick}
use Rattle.promise.proofs.InTime.{feasible_fits, due_had_its_cost}
use Rattle.promise.proofs.Choice.{late_of_the_trace}

-- ---- at one point

module _ {t : Table} (fits : EveryLengthFits (table_demand t)) {run : Run} {es : List Event} (b : Bridge t run es) where
  -- An accepted job that is due is not unfinished: it was ended early, or it has had its cost.
  due_is_over : (j : Job) → Memᴰ j (jobs_of_trace es) → j.due ≤ clock_of es → unfinished es j ≡ false
  due_is_over j m due = by_test (was_ended es j)
      (λ gone. rw gone)
      (λ stays. rw (stays, le-ltb (units_of j.name es) j.cost (omega (arith, due_had_its_cost b fits j m stays due))))

module _ {t : Table} (fits : EveryLengthFits (table_demand t)) {run : Run} {es : List Event} (b : Bridge t run es) where
  -- After a tick every accepted job that is due at the new clock was ended early or has had its cost, so the tick counts no job as late.
  tick_counts_none : run.clock.0 < max_time → (ticked run).late ≡ 0
  tick_counts_none in_time =
      let next = tick_keeps_bridge b in
      let after = event_of run Call.tick ∷ es in
      let now : clock_of after ≡ clock_of es + 1 = omega (arith, next.same_clock, tick_clock run (b.sound, b.whole) in_time, b.same_clock) in
      late_of_the_trace b next
      ∙ none_passes (late_at (clock_of es + 1) after) (λ _. 1) (jobs_of_trace es)
      (all_of_members (jobs_of_trace es) (λ j m. by_eq j.due (clock_of es + 1)
      (λ e.
      let over : unfinished after j ≡ false =
      due_is_over fits next j (rw (no_job_by_a_tick (tick_says (ticked run).answer) (ticked run).late es) m) (omega arith) in
      rw (eq-eqb j.due (clock_of es + 1) e, over))
      (λ e. rw (ne_eqb j.due (clock_of es + 1) e))))

  -- At 2^40 every job is due, so nothing is pending.
  nothing_at_the_last : max_time ≤ run.clock.0 → run.pending.count ≡ 0
  nothing_at_the_last last = by_lt 0 run.pending.count
      (λ some.
      let js = jobs_of run.pending in
      let inside : 0 < length js = omega (arith, counted run (b.sound, b.whole)) in
      let j = get_or js 0 no_job in
      let waits : Memᴰ j js = subst (λ l. Memᴰ j l) (sym (job_among_the_rest js 0 inside)) (mathlib.Core.List.Memᴰ.head refl) in
      let due : j.due.0 ≤ clock_of es = omega (arith, ((sound_facts b).jobs 0 inside).due_in_time, b.same_clock) in
      let over : unfinished es (job_of j) ≡ false = due_is_over fits b (job_of j) (pending_is_owed b j waits).was_accepted due in
      let still : unfinished es (job_of j) ≡ true = pending_is_unfinished b j waits in
      impossible cc)
      (λ none. omega arith)

-- ---- all through a replay

-- At this point of a replay no job has been late: the bridge holds, and no tick counted a late job.
record NoneLate (t : Table) (s : SoFar) : Type 0 where
  events : List Event
  bridge : Bridge t s.run events
  none_late : s.late ≡ 0

-- A replay in which no job has been late has a sound run.
still_sound : {t : Table} {s : SoFar} → NoneLate t s → Good s.run
still_sound n = (n.bridge.sound, n.bridge.whole)

-- No job has been late at the start of a replay.
at_the_start : (bytes : List ℕ) → Bytes bytes → NoneLate (table_read bytes).table (begun (started bytes).run).so_far
at_the_start bytes fine = record { events = []; bridge = bridge_of_started bytes fine; none_late = refl }

-- Where at most n ticks while a job is pending still leave a job pending, all n ticks went by.
none_left_out : (n : ℕ) (s : SoFar) → Good s.run → s.run.clock.0 + n ≤ max_time → 1 ≤ (ticks_while_pending n s).run.pending.count
    → (ticks_while_pending n s).run.clock.0 ≡ s.run.clock.0 + n
unfolding ticks_while_pending
none_left_out zero s good room = λ some. omega arith
none_left_out (suc n) s good room = by_test (eqb s.run.pending.count 0)
    (λ none. rw none (λ some. absurd (omega (arith, eqb-true s.run.pending.count 0 none))))
    (λ busy. rw busy (λ some.
    let one = tick_clock s.run good (omega arith) in
    omega (arith, none_left_out n (one_more_tick s) (tick_keeps_good s.run good) (omega arith) some)))

-- A refusal that is a 10 has its place inside the script.
abbrev Inside : (end : ℕ) → RefusedAt → Type 0
Inside end r = refusal_number r.refusal ≡ 10 → r.place < end

-- A replay ends in time where it ends with no job late, or is stopped by a refusal that is no 10 outside the script.
abbrev EndsInTime : (end : ℕ) → Played → Type 0
EndsInTime end (whole p) = p.so_far.late ≡ 0
EndsInTime end (stopped r) = Inside end r

module _ {t : Table} (fits : EveryLengthFits (table_demand t)) where
  -- A tick keeps that no job has been late, since it counts no late job.
  tick_keeps : (s : SoFar) → Good s.run → s.run.clock.0 < max_time → NoneLate t s → NoneLate t (one_more_tick s)
  tick_keeps s good in_time n =
      record { events = _; bridge = tick_keeps_bridge n.bridge; none_late = omega (arith, n.none_late, tick_counts_none fits n.bridge in_time) }

  -- A tick and an accepted release both keep that no job has been late.
  calls_keep : Keeps (λ p. NoneLate t p.so_far)
  calls_keep = record {
    tick = λ p. tick_keeps p.so_far;
    release = λ p row cost a good e n. record { events = _; bridge = release_keeps_bridge n.bridge row cost; none_late = n.none_late };
  }

  -- The final ticks come to their end. If a job were pending still, the clock would be at 2^40, where nothing is pending.
  final_in_time : (end : ℕ) (p : Progress) → NoneLate t p.so_far → EndsInTime end (final_ticks end p)
  unfolding final_ticks
  final_in_time end p n =
      let good = still_sound n in
      let many = max_time - p.so_far.run.clock.0 in
      let room : p.so_far.run.clock.0 + many ≤ max_time = omega (arith, (facts p.so_far.run good).clock_in_time) in
      let last = ticks_while_pending many p.so_far in
      let kept = along_draining (NoneLate t) tick_keeps many p.so_far good room n in
      let nothing : last.run.pending.count ≡ 0 = by_lt 0 last.run.pending.count
      (λ some. nothing_at_the_last fits kept.bridge (omega (arith, none_left_out many p.so_far good room some)))
      (λ none. omega arith) in
      rw (eq-eqb last.run.pending.count 0 nothing) kept.none_late

-- ---- where a record stops a replay

-- The tests of a record answer ready, or a refusal that is no 10 outside the script.
data TestedInside (end : ℕ) : Result Ready RefusedAt → Type 0 where
  ready : (r : Ready) → TestedInside end (Ok r)
  refused : (r : Refusal) (place : ℕ) → (refusal_number r ≡ 10 → place < end) → TestedInside end (refused_at r place)

-- A record goes on, or stops the replay with a refusal that is no 10 outside the script.
abbrev StepInside : (end : ℕ) → Step → Type 0
StepInside end (goes_on p next) = Unit {0}
StepInside end (stops r) = Inside end r

module _ {end : ℕ} where
  -- A number of a script that can't be read is refused with 14 and not with 10.
  number_inside : (s : List ℕ) (at : ℕ) (k : Number → Result Ready RefusedAt) → ((n : Number) → TestedInside end (k n)) → TestedInside end (on_number (script_number s at) k)
  number_inside s at k h = number_or_14 (λ v. TestedInside end (on_number v k)) s at h (λ place. refused ScriptMisspelled place (λ e. absurd (omega arith)))

  -- A row number that is not in use is refused with 6 and not with 10.
  row_inside : (most : Option ℕ) (place : ℕ) (then : Result Ready RefusedAt) → TestedInside end then → TestedInside end (on_row most place then)
  row_inside (Some most) place then h = h
  row_inside None place then h = refused NoSuchRow place (λ e. absurd (omega arith))

  -- A cost that is 0 or above its limit is refused with 7 and not with 10.
  cost_inside : (most : Option ℕ) (cost place : ℕ) (then : Result Ready RefusedAt) → TestedInside end then → TestedInside end (on_cost (cost_answer most cost) place then)
  cost_inside (Some most) cost place then h =
      by_test (from_one_to most cost) (λ allowed. rw allowed h) (λ out. rw out (refused CostOutOfRange place (λ e. absurd (omega arith))))
  cost_inside None cost place then h = refused NoSuchRow place (λ e. absurd (omega arith))

  -- A script time above 2^40 is refused at the place that is named, which is inside the script.
  time_inside : (test : Bool) (then : Result Ready RefusedAt) (place : ℕ) → place < end → TestedInside end then → TestedInside end (cond test then (refused_at TimeTooLate place))
  time_inside true then place inside h = h
  time_inside false then place inside h = refused TimeTooLate place (λ e. inside)

module _ (s : List ℕ) (at : ℕ) (inside : at < length s) where
  -- The tests of the record at a place answer 10 at this place only, which is inside the script.
  tests_inside : (t : Table) (time : ℕ) → TestedInside (length s) (tested_numbers t time (numbers_at s at))
  tests_inside t time =
      let n = numbers_at s at in
      number_inside s at _ λ gap.
      time_inside (leb (time + gap.value) max_time) _ at inside
      (number_inside s n.row.place _ λ row.
      row_inside (limit_of (cost_limits t) row.value) n.row.place _
      (number_inside s n.cost.place _ λ cost.
      cost_inside (limit_of (cost_limits t) row.value) cost.value n.cost.place _ (ready _)))

  -- A release of a replay is refused at the record's start, which is inside the script.
  release_inside : (r : Ready) (p : Progress) (a : Result Accepted Refusal) → StepInside (length s) (after_release at r p a)
  release_inside r p (Ok a) = tt
  release_inside r p (Err refusal) = λ e. inside

  -- A record that passes its tests stops the replay only by its release.
  after_tests_inside : (p : Progress) {x : Result Ready RefusedAt} → TestedInside (length s) x → StepInside (length s) (after_tests at p x)
  after_tests_inside p (ready r) =
      let there = ticked_to r.time.0 p in
      release_inside r there (released there.so_far.run r.row.0 r.cost).answer
  after_tests_inside p (refused r place h) = h

  -- A record that stops a replay with a 10 does so inside the script.
  step_inside : (p : Progress) → StepInside (length s) (stepped p (numbers_at s at))
  unfolding stepped
  step_inside p = after_tests_inside p (tests_inside p.so_far.run.table p.so_far.run.clock.0)

-- ---- a whole script

module _ {t : Table} (fits : EveryLengthFits (table_demand t)) (s : List ℕ) (bytes : Bytes s) where
  -- After a record the replay goes on at a place of the script, with no job late so far, or it is stopped by a refusal that is no 10 outside the script.
  after_record : (at : ℕ) (p : Progress) → at < length s → NoneLate t p.so_far → (k : Progress → ℕ → Played)
      → ((q : Progress) (next : ℕ) → next ≤ length s → NoneLate t q.so_far → EndsInTime (length s) (k q next))
      → EndsInTime (length s) (and_then (stepped p (numbers_at s at)) k)
  after_record at p inside n k further = by_step (stepped p (numbers_at s at)) refl
    where
      by_step : (step : Step) → stepped p (numbers_at s at) ≡ step → EndsInTime (length s) (and_then step k)
      by_step (goes_on q next) e =
          let w = went_on p (numbers_at s at) q next e in
          let spelled = record_is_spelled s at _ bytes (passed_is_read s at inside w.passed) in
          let there = step_keeps (λ o. NoneLate t o.so_far) (calls_keep fits) p (numbers_at s at) q next w (n, still_sound n) in
          further q next (rw w.goes_on_after spelled.within) there.0
      by_step (stops r) e = subst (StepInside (length s)) e (step_inside s at inside p)

  -- From any place on, the script is played in time.
  from_in_time : (m at : ℕ) (p : Progress) → at ≤ length s → NoneLate t p.so_far → EndsInTime (length s) (played_from m s at p)
  unfolding played_from
  from_in_time zero at p before n = final_in_time fits (length s) p n
  from_in_time (suc m) at p before n = by_eq at (length s)
      (λ end. rw (eq-eqb at (length s) end) (final_in_time fits (length s) p n))
      (λ more. rw (ne_eqb at (length s) more) (after_record at p (omega arith) n _ (λ q next. from_in_time m next q)))

-- ---- the answer

-- A run is started on every table that is found feasible.
pub feasible_starts : (t : Table) (a : Result ℕ RefusedAt) (v : Verdict) → RightOfRead t a v → (verdict_says v).number ≡ 20 → start_answer a ≡ Ok tt
feasible_starts t (Ok period) v right says = refl
feasible_starts t (Err r) v right says = let refused_so = rw right at says in absurd (no_answer r.refusal (omega arith) (omega arith))

module _ (bytes script : List ℕ) (table : Bytes bytes) (fine : Bytes script) where
  -- On a feasible table every script is played in time.
  played_in_time : SaidFeasible bytes → EndsInTime (length script) (played bytes script)
  unfolding played
  played_in_time said =
      rw (feasible_starts (table_read bytes).table (table_read bytes).answer said.answer said.judged said.feasible)
      (from_in_time (feasible_fits bytes said) script fine (length script) 0 (begun (started bytes).run) (omega arith) (at_the_start bytes table))

  -- A replay that ends in time answers neither 23 nor any job late. Its jobs late are the sum of the ticks' late counts.
  says_in_time : (room : ℕ) (p : Played) → played bytes script ≡ p → EndsInTime (length script) p
      → NotLate (length script) (replay_says (replay_outcome room (length script) p))
  says_in_time room (whole p) e none =
      let none_late : late_finishes p.so_far.finishes ≡ 0 = late_is_the_sum bytes script p table fine e ∙ none in
      by_test (leb (length (spelled_log p.so_far.finishes)) room)
      (λ fits. rw (fits, none_late) (record { not_23 = λ q. omega arith; none_late = λ q. refl; not_stopped = λ q. absurd (omega arith) }))
      (λ full. rw full (record { not_23 = λ q. omega arith; none_late = λ q. refl; not_stopped = λ q. absurd (omega arith) }))
  says_in_time room (stopped r) e inside =
      record { not_23 = λ q. no_answer r.refusal (omega arith) (omega arith); none_late = λ q. refl; not_stopped = inside }

-- On a feasible table no replay is late.
pub at_host : AtHost
at_host bytes script table fine said room =
    says_in_time bytes script table fine room (played bytes script) refl (played_in_time bytes script table fine said)

-- ---- the host's calls

-- Where the call `verdict` returns 20, `judge` says feasible.
pub call_said_feasible : (table lent written : List ℕ) → VerdictAnswered table lent 20 written → SaidFeasible table
call_said_feasible table lent written (host.VerdictAnswered.wrong_size l s w) = absurd (omega arith)
call_said_feasible table lent written (host.VerdictAnswered.said l v j s w) = record { answer = v; judged = j; feasible = sym s }

-- The call `replay` is not late on a feasible table. With an answer buffer of 16 bytes it answers what the replay says, and with another size it returns 13.
pub at_host_calls : AtHostCalls
at_host_calls table script fine fine' lent written feasible log answer status after left leaves = by_eq (length answer) answer_length
    (λ sixteen.
    let told = (replay_of_sixteen table script log answer status after left sixteen).0 leaves in
    let says = replay_says (replay_of table script (length log)) in
    let n : NotLate (length script) says = at_host table script fine fine' (call_said_feasible table lent written feasible) (length log) in
    record {
      not_23 = λ e. n.not_23 (sym told.its_number ∙ e);
      none_late = λ e. (says, n.none_late (sym told.its_number ∙ e), told.its_answer);
      not_stopped = λ e. (says, n.not_stopped (sym told.its_number ∙ e), told.its_answer);
    })
    (λ other.
    let thirteen : status ≡ 13 = sym leaves.0 ∙ (replay_of_another_size table script log answer other).0 in
    record { not_23 = λ e. omega arith; none_late = λ e. absurd (omega arith); not_stopped = λ e. absurd (omega arith) })
