-- A replay is a trace: the proof. Each tick and each release of a replay is one more call of the trace, and the call's answer tells what it adds to the
-- replay. A replay has no ends. (8.2, 8.3)
use Rattle.std.specs.Prelude.{Ok}
use Prim.Native.Nat.{ℕ, zero, suc, ◌+◌, ◌-◌, ◌≤◌, ◌<◌}
use mathlib.Core.Path.{◌≡◌, refl, sym, ap, subst, ◌∙◌}
use mathlib.Core.Logic.{◌≢◌}
use mathlib.Core.List.{List, [], ◌∷◌, ◌++◌, map, map-append, reverse, reverse-cons, Memᴰ}
use native.Mathlib.Numerals.{add-one}
use native.Mathlib.Omega.{arith}
use lib.Dec.{eqb}
use lib.ListN.{length}
use borrow.Author.Tests.{eq-eqb, ne_eqb, lt-ltb}
use Rattle.kinds.specs.Numbering.{max_time}
use Rattle.kinds.proofs.Apart.{impossible}
use Rattle.numbers.specs.SpelledNumbers.{Bytes}
use Rattle.theory.specs.Lists.{All}
use Rattle.theory.specs.Jobs.{Job, DistinctNames}
use Rattle.theory.proofs.Cases.{by_test}
use Rattle.theory.proofs.Lists.{all_at}
use Rattle.table.specs.declared.Table.{Table}
use Rattle.jobs.specs.declared.Job.{Job as PendingJob}
use Rattle.jobs.specs.Units.{last_unit}
use Rattle.jobs.specs.Turns.{first_job}
use Rattle.run.specs.declared.Run.{Run}
use Rattle.run.specs.declared.Accepted.{Accepted}
use Rattle.run.specs.Release.{new_job, released}
use Rattle.run.specs.Ticking.{ticked}
use Rattle.run.specs.ManyTicks.{SoFar, finished_by, one_more_tick, ticks, ticks_while_pending}
use Rattle.run.specs.Answers.{ReleaseSays, accepted, release_says, tick_says}
use Rattle.run.specs.Answers as says
use Rattle.run.proofs.Release.{each_release}
use Rattle.run.proofs.Ticking.{Good, facts}
use Rattle.script.specs.declared.Record.{Record}
use Rattle.script.specs.SpelledScripts.{Reads, ended, then}
use Rattle.script.proofs.Scripts.{record_is_spelled, end_is_the_length}
use Rattle.records.specs.declared.Ready.{Ready}
use Rattle.records.specs.Numbers.{numbers_at}
use Rattle.play.specs.Play.{Progress, begun, ticked_to, whole, final_ticks, played_from, played}
use Rattle.play.proofs.SingleTicks.{tick_clock}
use Rattle.records.proofs.ReadRecords.{passed_is_read}
use Rattle.play.proofs.KeptThroughout.{release_more, Went, by_record, came_to_the_end, was_started}
use Rattle.promise.specs.Traces.{Call, Event, run_at, event_of, trace, Told, told, jobs_of_trace, late_in, finishes_in, ended_in, job_of_serial}
use Rattle.promise.specs.Link.{job_of}
use Rattle.promise.specs.Refusals.{Refused}
use Rattle.promise.specs.Replays.{more_ticks, calls_after, calls_of, ReplaysAreTraces}
use Rattle.promise.proofs.RunAndTrace.{Bridge}
use Rattle.promise.proofs.RunsFollow.{bridge}
use Rattle.promise.proofs.Units.{pending_is_owed}
use Rattle.promise.proofs.Ticks.{no_job_by_a_tick, no_end_by_a_tick, no_end_by_a_release, each_tick}
use Rattle.promise.proofs.Choice.{first, first_stands, first_pending}
use Rattle.promise.proofs.Refusals.{pending_count, tick_not_refused}

-- ---- what a tick's answer tells

-- A job that was accepted is found by its serial.
found_by_serial : (j : Job) {js : List Job} → DistinctNames js → Memᴰ j js → job_of_serial j.name js ≡ j
found_by_serial j distinct (Memᴰ.head {x = i} e) = rw (eq-eqb i.name j.name (ap (λ (k : Job). k.name) (sym e))) (sym e)
found_by_serial j distinct (Memᴰ.tail {x = i} m) =
    rw (ne_eqb i.name j.name (λ e. all_at (λ (k : Job). k.name ≢ i.name) distinct.0 m (sym e))) (found_by_serial j distinct.1 m)

module _ {t : Table} {run : Run} {es : List Event} (b : Bridge t run es) (in_time : run.clock.0 < max_time) where
  -- A tick's late count is added to the late counts before.
  late_told : late_in (event_of run Call.tick ∷ es) ≡ late_in es + (ticked run).late
  unfolding told
  late_told = each_tick run b.sound (λ step. late_in (Event.tick (tick_says step.answer) step.late ∷ es) ≡ late_in es + step.late)
      (λ last. absurd (omega arith))
      (λ h takes. refl)
      (λ h free none. refl)
      (λ h free some. refl)

  -- The job that a tick finishes is recorded behind the jobs that finished before.
  finish_told : finishes_in (event_of run Call.tick ∷ es) ≡ finishes_in es ++ finished_by run
  unfolding told
  finish_told = each_tick run b.sound (λ step. finishes_in (Event.tick (tick_says step.answer) step.late ∷ es) ≡ finishes_in es ++ finished_by run)
      (λ last. absurd (omega arith))
      (λ h takes. rw takes)
      (λ h free none. rw (free, none))
      (λ h free some.
      let j = first b some in
      let found : job_of_serial j.serial.0 (jobs_of_trace es) ≡ job_of j = found_by_serial (job_of j) b.distinct (pending_is_owed b j (first_pending b some)).was_accepted in
      by_test (last_unit (first_job run.pending))
      (λ last. rw (free, last, lt-ltb 0 run.pending.count some, first_stands b some, found, b.same_clock, add-one))
      (λ more. rw (free, more, lt-ltb 0 run.pending.count some)))

-- ---- what a release's answer tells

-- A release leaves the sum of the late counts as it was.
release_late : (row cost : ℕ) (a : ReleaseSays) (es : List Event) → late_in (Event.release row cost a ∷ es) ≡ late_in es
unfolding told
release_late row cost (accepted serial due) es = refl
release_late row cost (says.ReleaseSays.refused number place) es = refl

-- A release leaves the list of finished jobs as it was.
release_finishes : (row cost : ℕ) (a : ReleaseSays) (es : List Event) → finishes_in (Event.release row cost a ∷ es) ≡ finishes_in es
unfolding told
release_finishes row cost (accepted serial due) es = refl
release_finishes row cost (says.ReleaseSays.refused number place) es = refl

module _ {t : Table} {run : Run} {es : List Event} (b : Bridge t run es) (row cost : ℕ) (a : Accepted) (e : (released run row cost).answer ≡ Ok a) where
  -- An accepted release tells about its job.
  job_told : jobs_of_trace (event_of run (Call.release row cost) ∷ es) ≡ job_of (new_job run row cost a.due) ∷ jobs_of_trace es
  unfolding told
  job_told = each_release run row cost
      (λ step. step.answer ≡ Ok a
      → jobs_of_trace (Event.release row cost (release_says step.answer) ∷ es) ≡ job_of (new_job run row cost a.due) ∷ jobs_of_trace es)
      (λ r q. impossible cc)
      (λ due passed given q. let same : due ≡ a.due = cc in rw (same, b.same_clock))
      e

  -- An accepted release is not refused.
  release_not_refused : ¬ Refused (event_of run (Call.release row cost))
  release_not_refused = rw e (λ refused. absurd (omega (arith, ap (λ (u : Told). length u.jobs) (refused (told [])))))

-- ---- no job is ended

-- Before any call no job was ended.
none_ended_at_first : (t : List ℕ) → ended_in (trace t []) ≡ []
unfolding trace told
none_ended_at_first t = refl

-- A tick ends no job.
tick_ends_none : (t : List ℕ) (calls : List Call) → ended_in (trace t calls) ≡ [] → ended_in (trace t (Call.tick ∷ calls)) ≡ []
unfolding trace
tick_ends_none t calls none = rw no_end_by_a_tick none

-- A release ends no job.
release_ends_none : (t : List ℕ) (calls : List Call) (row cost : ℕ) → ended_in (trace t calls) ≡ [] → ended_in (trace t (Call.release row cost ∷ calls)) ≡ []
unfolding trace
release_ends_none t calls row cost none = rw no_end_by_a_release none

-- Any number of ticks end no job.
ticks_end_none : (t : List ℕ) (n : ℕ) (calls : List Call) → ended_in (trace t calls) ≡ [] → ended_in (trace t (more_ticks n calls)) ≡ []
unfolding more_ticks
ticks_end_none t zero calls none = none
ticks_end_none t (suc n) calls none = ticks_end_none t n (Call.tick ∷ calls) (tick_ends_none t calls none)

-- The calls of a script's records end no job.
records_end_none : (t : List ℕ) (calls : List Call) (rs : List Record) → ended_in (trace t calls) ≡ [] → ended_in (trace t (calls_after calls rs)) ≡ []
unfolding calls_after
records_end_none t calls [] none = none
records_end_none t calls (r ∷ rs) none =
    records_end_none t (Call.release r.row.0 r.cost ∷ more_ticks r.gap calls) rs (release_ends_none t _ r.row.0 r.cost (ticks_end_none t r.gap calls none))

-- A replay ends no job.
pub replay_ends_none : (t : List ℕ) (rs : List Record) (final : ℕ) → ended_in (trace t (calls_of rs final)) ≡ []
replay_ends_none t rs final = ticks_end_none t final (calls_after [] rs) (records_end_none t [] rs (none_ended_at_first t))

-- ---- a replay on its way

-- A replay so far is what the trace of these calls tells.
record Traced (t : List ℕ) (calls : List Call) (p : Progress) : Type 0 where
  run_there : p.so_far.run ≡ run_at t calls
  jobs_there : map job_of p.accepted ≡ reverse (jobs_of_trace (trace t calls))
  late_there : p.so_far.late ≡ late_in (trace t calls)
  finishes_there : p.so_far.finishes ≡ finishes_in (trace t calls)
  none_refused_so_far : All (λ e. ¬ Refused e) (trace t calls)

module _ (t : List ℕ) (fine : Bytes t) where
  -- Before any call a replay is what the empty trace tells.
  at_the_start : Traced t [] (begun (run_at t []))
  unfolding trace told
  at_the_start = record { run_there = refl; jobs_there = refl; late_there = refl; finishes_there = refl; none_refused_so_far = tt }

  module _ (calls : List Call) (s : SoFar) (jobs : List PendingJob) (so_far : Traced t calls (record { so_far = s; accepted = jobs })) where
    -- After a tick a replay is what the longer trace tells.
    after_a_tick : s.run.clock.0 < max_time → Traced t (Call.tick ∷ calls) (record { so_far = one_more_tick s; accepted = jobs })
    unfolding run_at trace
    after_a_tick in_time =
        let b = bridge t fine calls in
        let run = run_at t calls in
        let same = so_far.run_there in
        let clock : run.clock.0 < max_time = rw same at in_time in
        record {
          run_there = rw same;
          jobs_there = rw (no_job_by_a_tick (tick_says (ticked run).answer) (ticked run).late (trace t calls)) so_far.jobs_there;
          late_there = rw (same, so_far.late_there) (sym (late_told b clock));
          finishes_there = rw (same, so_far.finishes_there) (sym (finish_told b clock));
          none_refused_so_far = (tick_not_refused b clock, so_far.none_refused_so_far);
        }

    -- After an accepted release a replay is what the longer trace tells.
    after_a_release : (row cost : ℕ) (a : Accepted) → (released s.run row cost).answer ≡ Ok a
        → Traced t (Call.release row cost ∷ calls) (release_more (record { so_far = s; accepted = jobs }) row cost a.due)
    unfolding run_at trace
    after_a_release row cost a e =
        let b = bridge t fine calls in
        let run = run_at t calls in
        let same = so_far.run_there in
        let answered : (released run row cost).answer ≡ Ok a = rw same at e in
        let says = release_says (released run row cost).answer in
        record {
          run_there = rw same;
          jobs_there = rw (job_told b row cost a answered, reverse-cons, map-append, so_far.jobs_there, same);
          late_there = rw (release_late row cost says (trace t calls)) so_far.late_there;
          finishes_there = rw (release_finishes row cost says (trace t calls)) so_far.finishes_there;
          none_refused_so_far = (release_not_refused b row cost a answered, so_far.none_refused_so_far);
        }

  -- ---- many ticks

  -- The run of a replay is sound at every point.
  still_sound : (calls : List Call) (p : Progress) → Traced t calls p → Good p.so_far.run
  still_sound calls p so_far = let b = bridge t fine calls in rw so_far.run_there (b.sound, b.whole)

  module _ (jobs : List PendingJob) where
    -- The ticks until a record's script time are as many calls of the trace.
    after_ticks : (n : ℕ) (calls : List Call) (s : SoFar) → Traced t calls (record { so_far = s; accepted = jobs }) → s.run.clock.0 + n ≤ max_time
        → Traced t (more_ticks n calls) (record { so_far = ticks n s; accepted = jobs })
    unfolding ticks more_ticks
    after_ticks zero calls s so_far room = so_far
    after_ticks (suc n) calls s so_far room =
        let one = tick_clock s.run (still_sound calls _ so_far) (omega arith) in
        after_ticks n (Call.tick ∷ calls) (one_more_tick s) (after_a_tick calls s jobs so_far (omega arith)) (omega arith)

    -- The final ticks are calls of the trace too, however many they are.
    after_final_ticks : (n : ℕ) (calls : List Call) (s : SoFar) → Traced t calls (record { so_far = s; accepted = jobs }) → s.run.clock.0 + n ≤ max_time
        → (final : ℕ) × Traced t (more_ticks final calls) (record { so_far = ticks_while_pending n s; accepted = jobs })
    unfolding ticks_while_pending more_ticks
    after_final_ticks zero calls s so_far room = (0, so_far)
    after_final_ticks (suc n) calls s so_far room = by_test (eqb s.run.pending.count 0)
        (λ none. (0, rw none so_far))
        (λ some.
        let one = tick_clock s.run (still_sound calls _ so_far) (omega arith) in
        let more = after_final_ticks n (Call.tick ∷ calls) (one_more_tick s) (after_a_tick calls s jobs so_far (omega arith)) (omega arith) in
        (suc more.0, rw some more.1))

  -- ---- a script

  module _ (s : List ℕ) (script : Bytes s) where
    -- From a place on, the script's records and the final ticks were played, and nothing is pending.
    record PlayedOut (at : ℕ) (calls : List Call) (q : Progress) : Type 0 where
      records : List Record
      are_read : Reads s at records
      final : ℕ
      all_traced : Traced t (more_ticks final (calls_after calls records)) q
      nothing_pending : q.so_far.run.pending.count ≡ 0

    -- At the script's end only the final ticks are played.
    at_its_end : (at : ℕ) (calls : List Call) (p q : Progress) → at ≡ length s → Traced t calls p → final_ticks (length s) p ≡ whole q → PlayedOut at calls q
    unfolding calls_after
    at_its_end at calls p q end so_far e =
        let in_time = (facts p.so_far.run (still_sound calls p so_far)).clock_in_time in
        let last = after_final_ticks p.accepted (max_time - p.so_far.run.clock.0) calls p.so_far so_far (omega arith) in
        let ends = came_to_the_end (length s) p q e in
        record {
          records = [];
          are_read = ended ((end_is_the_length s at).1 end);
          final = last.0;
          all_traced = subst (Traced t (more_ticks last.0 calls)) ends.0 last.1;
          nothing_pending = ends.1;
        }

    -- Before the script's end one record is played, and then the rest.
    module _ (at : ℕ) (inside : at < length s) (calls : List Call) (p m : Progress) (next : ℕ) (so_far : Traced t calls p) (w : Went p (numbers_at s at) m next) where
      -- `longer` lists the calls up to the place after the record.
      abbrev longer : List Call
      longer = Call.release w.ready.row.0 w.ready.cost ∷ more_ticks w.passed.gap.value calls

      -- The record's gap is the number of ticks until its time.
      its_gap : w.ready.time.0 - p.so_far.run.clock.0 ≡ w.passed.gap.value
      its_gap =
          let time : w.ready.time.0 ≡ p.so_far.run.clock.0 + w.passed.gap.value = ap (λ (r : Ready). r.time.0) w.passed.asks_for in
          omega arith

      -- After the record the replay is what the longer trace tells.
      record_traced : Traced t longer m
      record_traced =
          let there = ticked_to w.ready.time.0 p in
          let in_time : p.so_far.run.clock.0 + w.passed.gap.value ≤ max_time = w.passed.row_fits.gap_fits.in_time in
          let reached : Traced t (more_ticks w.passed.gap.value calls) there =
          rw its_gap (after_ticks p.accepted w.passed.gap.value calls p.so_far so_far in_time) in
          rw w.reached
          (after_a_release (more_ticks w.passed.gap.value calls) there.so_far p.accepted reached w.ready.row.0 w.ready.cost w.answer w.answered)

      -- Where the rest of the script was played out after the record, the script was played out from the record on.
      with_record : (q : Progress) → PlayedOut next longer q → PlayedOut at calls q
      unfolding calls_after
      with_record q rest = record {
        records = record { gap = w.passed.gap.value; row = w.ready.row; cost = w.ready.cost } ∷ rest.records;
        are_read = then _ (passed_is_read s at inside w.passed) (rw w.goes_on_after at rest.are_read);
        final = rest.final;
        all_traced = rest.all_traced;
        nothing_pending = rest.nothing_pending;
      }

    -- A replay that comes to its end, with as many steps as bytes are left, has played out the script.
    played_out : (n at : ℕ) (calls : List Call) (p q : Progress) → at ≤ length s → length s ≤ at + n → Traced t calls p
        → played_from n s at p ≡ whole q → PlayedOut at calls q
    unfolding played_from
    played_out zero at calls p q before enough so_far e = at_its_end at calls p q (omega arith) so_far e
    played_out (suc n) at calls p q before enough so_far e =
        by_record n s at p q e (λ end f. at_its_end at calls p q end so_far f)
        (λ more m next w rest.
        let inside : at < length s = omega arith in
        let spelled = record_is_spelled s at _ script (passed_is_read s at inside w.passed) in
        let further : (at < next) × (next ≤ length s) = rw w.goes_on_after (spelled.forward, spelled.within) in
        with_record at inside calls p m next so_far w q
        (played_out n next (longer at inside calls p m next so_far w) m q further.1 (omega arith) (record_traced at inside calls p m next so_far w) rest))

-- A replay that comes to its end is a trace.
pub replays_are_traces : ReplaysAreTraces
unfolding run_at
replays_are_traces t s p fine script e =
    let all = played_out t fine s script (length s) 0 [] (begun (run_at t [])) p (omega arith) (omega arith) (at_the_start t fine) (was_played t s p e) in
    let there = all.all_traced in
    record {
      records = all.records;
      are_read = all.are_read;
      final = all.final;
      same_run = there.run_there;
      same_jobs = there.jobs_there;
      same_late = there.late_there;
      same_finishes = there.finishes_there;
      none_refused = there.none_refused_so_far;
      none_unfinished = sym (pending_count (bridge t fine (calls_of all.records all.final))) ∙ rw there.run_there at all.nothing_pending;
    }
  where
    was_played : (t s : List ℕ) (p : Progress) → played t s ≡ whole p → played_from (length s) s 0 (begun (run_at t [])) ≡ whole p
    was_played t s p e = was_started t s p e
