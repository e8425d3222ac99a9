-- The live run, as a C program sees it: the proof. By induction over the calls the run in the program's memory is the run of a trace, so the bridge holds for
-- it. A call with an answer buffer of 16 bytes returns another status than 13, and says two numbers that fit eight bytes each. So the program reads the event
-- of that call. A call with another answer buffer returns 13 and leaves the run alone. The promises about what the program reads are then those about the
-- trace. (9.9 to 9.15)
use Rattle.std.specs.Prelude.{Result, Ok, Err}
use Rattle.kinds.specs.declared.RefusedAt.{RefusedAt}
use Prim.Native.Nat.{ℕ, ◌+◌, ◌^◌, ◌≤◌, ◌<◌}
use mathlib.Core.Path.{◌≡◌, refl, sym, ap, ap₂, subst, ◌∙◌}
use mathlib.Core.Logic.{◌↔◌, ◌⊎◌, inl, inr, ◌≢◌}
use mathlib.Core.List.{List, [], ◌∷◌, append-nil}
use native.Mathlib.Omega.{arith}
use lib.Dec.{leb, ltb}
use lib.ListN.{length, take, drop, get_or, length-append}
use borrow.Author.Tests.{leb-true, le-leb, eq-eqb, ne_eqb, lt-ltb, le-ltb}
use Rattle.kinds.specs.Numbering.{Said, refusal_at, max_time}
use Rattle.kinds.proofs.Apart.{impossible}
use Rattle.numbers.specs.SpelledNumbers.{Bytes}
use Rattle.words.specs.Words.{word_length, lowest_first, from_lowest_first}
use Rattle.words.proofs.Storing.{length-lowest_first, word_reads_back}
use Rattle.theory.proofs.Cases.{by_lt, by_eq, by_test}
use Rattle.table.specs.declared.Table.{Table}
use Rattle.table.specs.Limits.{max_c}
use Rattle.table.specs.Rows.{from_one_to}
use Rattle.table.specs.Tables.{table_read}
use Rattle.jobs.specs.declared.Job.{Job as PendingJob}
use Rattle.jobs.specs.Places.{max_places, no_job, jobs_of, used}
use Rattle.jobs.specs.Choice.{first_place}
use Rattle.jobs.specs.Units.{last_unit}
use Rattle.jobs.specs.Late.{is_late, late_count}
use Rattle.jobs.specs.Turns.{first_job}
use Rattle.jobs.specs.JobChanges.{IsFirst}
use Rattle.jobs.proofs.Changes.{choice_is_first, place_holds_job}
use Rattle.run.specs.declared.Run.{Run}
use Rattle.verdict.specs.declared.Verdict.{Verdict}
use Rattle.verdict.specs.declared.Verdict.TheVariants as verdict
use Rattle.verdict.specs.Verdict.{RightOfRead}
use Rattle.run.specs.Runs.{row_in_use, cost_limit, start_answer}
use Rattle.run.specs.Ticking.{taken_tick, busy_tick, ticked}
use Rattle.run.specs.Ending.{ended}
use Rattle.run.specs.Release.{released}
use Rattle.run.specs.Answers.{idle, tick_says, end_says}
use Rattle.run.specs.Answers as says
use Rattle.run.proofs.Ticking.{facts, counted, busy_keeps}
use Rattle.run.proofs.Ending.{each_end, found_there}
use Rattle.live.specs.Statuses.{start_said, release_said, tick_said, end_said, release_read, tick_read, late_read, end_read}
use Rattle.host.specs.Answer.{answer_length, answer_bytes}
use Rattle.host.specs.Live.{step_after, release_told, tick_told, tick_leaves, end_told}
use Rattle.promise.specs.Traces.{Call, Event, run_after, event_of, run_at, trace, clock_of, unfinished_in}
use Rattle.promise.specs.Refusals.{next_due, release_answer, end_answer}
use Rattle.promise.specs.LiveCalls.{LiveCall, Seen, live_left, live_status, live_told, seen_after, live_run_at, seen}
use Rattle.promise.specs.LiveCalls.{read_said, read_event, events_read, live_events, calls_made}
use Rattle.promise.specs.LiveCalls.{LiveIsATrace, LivePromises, LiveInTime, LiveNeverMore, LiveShare, LiveRefusedExactly, LiveNever11}
use Rattle.promise.specs.LiveCalls.{Live13Exactly, start_by_verdict, LiveStartsByTheVerdict, LiveStartsFeasible}
use Rattle.promise.proofs.RunAndTrace.{Bridge}
use Rattle.promise.proofs.RunsFollow.{bridge}
use Rattle.promise.proofs.Units.{sound_facts}
use Rattle.promise.proofs.Ticks.{each_tick}
use Rattle.promise.proofs.InTime.{in_time, never_more, ended_had_what_was_said}
use Rattle.promise.proofs.Share.{share}
use Rattle.promise.proofs.Refusals.{release_by_the_trace, end_by_the_trace}
use Rattle.promise.proofs.AtHost.{call_said_feasible, feasible_starts}
use Rattle.live.proofs.Statuses.{live_reads_back, late_reads_back}

-- ---- the two numbers of an answer buffer

-- The two numbers that are said fit eight bytes each.
record Fits (s : Said) : Type 0 where
  first : s.first < 2 ^ 64
  second : s.second < 2 ^ 64

module _ (s : Said) (fits : Fits s) where
  -- The bytes that are written for two numbers are 16.
  sixteen_bytes : length (answer_bytes s) ≡ answer_length
  sixteen_bytes =
      length-append (lowest_first word_length s.first) (lowest_first word_length s.second)
      ∙ omega (arith, length-lowest_first word_length s.first, length-lowest_first word_length s.second)

  -- The first eight bytes say the first number.
  first_back : from_lowest_first (take word_length (answer_bytes s)) ≡ s.first
  first_back =
      let room : word_length ≤ length (answer_bytes s) = omega (arith, sixteen_bytes) in
      let read = simp (le-leb word_length (length (answer_bytes s)) room) at (word_reads_back [] s.first (lowest_first word_length s.second) fits.first) in
      cc

  -- The eight bytes behind them say the second number.
  second_back : from_lowest_first (take word_length (drop word_length (answer_bytes s))) ≡ s.second
  second_back =
      let one = lowest_first word_length s.first in
      let room : word_length + word_length ≤ length (answer_bytes s) = omega (arith, sixteen_bytes) in
      let read = simp (append-nil, length-lowest_first, le-leb (word_length + word_length) (length (answer_bytes s)) room)
      at (word_reads_back one s.second [] fits.second) in
      cc

  -- What is said reads back from the status and from the bytes that are written.
  said_back : read_said (record { status = s.number; answer = answer_bytes s }) ≡ s
  said_back = rw (first_back, second_back)

-- ---- what a call says

-- What is said is that of a call which was made with 16 bytes: the status is neither 13 nor 11, and the two numbers fit eight bytes each.
record SaysWell (s : Said) : Type 0 where
  not_13 : s.number ≢ 13
  not_11 : s.number ≢ 11
  numbers : Fits s

-- A refusal other than 13 and 11, at place 0, is said well.
refused_well : (n : ℕ) → n ≢ 13 → n ≢ 11 → SaysWell (refusal_at n 0)
refused_well n other sound = record { not_13 = other; not_11 = sound; numbers = record { first = omega arith; second = omega arith } }

-- What is said with one of the statuses 34 to 39 is said well, where its numbers fit.
answered_well : (s : Said) → 34 ≤ s.number → Fits s → SaysWell s
answered_well s high fits = record { not_13 = λ e. omega arith; not_11 = λ e. omega arith; numbers = fits }

-- The late count is at most the number of the jobs that are looked at.
few_late : (clock : ℕ) (js : List PendingJob) → late_count clock js ≤ length js
unfolding late_count
few_late clock [] = omega arith
few_late clock (j ∷ js) = by_test (is_late clock j) (λ late. rw late (omega (arith, few_late clock js))) (λ not. rw not (omega (arith, few_late clock js)))

module _ {t : Table} {run : Run} {es : List Event} (b : Bridge t run es) where
  -- The next serial fits eight bytes, since it is at most the clock plus the number of pending jobs plus the number of ended ones.
  serial_fits : run.next.0 < 2 ^ 64
  serial_fits = let s = sound_facts b in omega arith

  -- A release says what the trace tells: a serial and a due time of at most 2^40, or one of the refusals 6 to 9.
  release_says_well : (row cost : ℕ) → SaysWell (live_told run (Call.release row cost))
  release_says_well row cost = rw (release_by_the_trace b row cost)
      (by_test (row_in_use t row)
      (λ in_use. rw in_use (by_test (from_one_to (cost_limit t row) cost)
      (λ allowed. rw allowed (by_test (ltb (unfinished_in es) max_places)
      (λ room. rw room (by_test (leb (next_due t es row cost) max_time)
      (λ early. rw early (answered_well _ (omega arith) (record {
        first = omega (arith, serial_fits, b.next_serial);
        second = omega (arith, leb-true (next_due t es row cost) max_time early);
      })))
      (λ late. rw late (refused_well 9 (λ e. omega arith) (λ e. omega arith)))))
      (λ full. rw full (refused_well 8 (λ e. omega arith) (λ e. omega arith)))))
      (λ not. rw not (refused_well 7 (λ e. omega arith) (λ e. omega arith)))))
      (λ unused. rw unused (refused_well 6 (λ e. omega arith) (λ e. omega arith))))

  -- The jobs that become late among the pending ones are few.
  taken_late_fits : (taken_tick run).late < 2 ^ 64
  taken_late_fits =
      let s = sound_facts b in omega (arith, few_late (run.clock.0 + 1) (jobs_of run.pending), counted run (b.sound, b.whole))

  module _ (early : run.clock.0 < max_time) (some : 1 ≤ run.pending.count) where
    -- The jobs that become late among those that are pending after a unit are few.
    busy_late_fits : (busy_tick run).late < 2 ^ 64
    busy_late_fits =
        let next = (busy_tick run).run in
        let still = busy_keeps run (b.sound, b.whole) early some in
        omega (arith, few_late (run.clock.0 + 1) (jobs_of next.pending), counted next still, (facts next still).few_pending)

    -- The serial of the job that had the unit is below the next serial.
    ran_serial_fits : (first_job run.pending).serial.0 < 2 ^ 64
    ran_serial_fits =
        let p = run.pending in
        let first : IsFirst (jobs_of p) (first_place (jobs_of p)) = choice_is_first (jobs_of p) (omega (arith, counted run (b.sound, b.whole))) in
        rw (place_holds_job p (first_place (jobs_of p)) first.inside)
        (omega (arith, ((sound_facts b).jobs (first_place (jobs_of p)) first.inside).serial_given, serial_fits))

  -- A tick says a serial that was given out and a late count, or the refusal 10.
  tick_says_well : SaysWell (live_told run Call.tick)
  tick_says_well = each_tick run b.sound (λ step. SaysWell (tick_said (tick_says step.answer) step.late))
      (λ last. refused_well 10 (λ e. omega arith) (λ e. omega arith))
      (λ early takes. answered_well _ (omega arith) (record { first = omega arith; second = taken_late_fits }))
      (λ early free none. answered_well _ (omega arith) (record { first = omega arith; second = omega arith }))
      (λ early free some.
      let serial = ran_serial_fits early some in
      let late = busy_late_fits early some in
      by_test (last_unit (first_job run.pending))
      (λ last. rw last (answered_well _ (omega arith) (record { first = serial; second = late })))
      (λ more. rw more (answered_well _ (omega arith) (record { first = serial; second = late }))))

  -- A pending job costs at most 4,096.
  pending_costs : (at : ℕ) → at < used run.pending → (get_or (jobs_of run.pending) at no_job).cost ≤ max_c
  pending_costs at inside =
      let j = get_or (jobs_of run.pending) at no_job in
      let allowed = ((sound_facts b).jobs at inside).cost_allowed in
      by_lt j.row.0 run.table.count
      (λ of_row. omega (arith, rw (lt-ltb j.row.0 run.table.count of_row) at allowed, ((sound_facts b).rows j.row.0 of_row).most_c))
      (λ of_server. rw (le-ltb j.row.0 run.table.count of_server) at allowed)

  -- An end says units of at most a cost, or the refusal 17 or 18.
  end_says_well : (serial : ℕ) → SaysWell (live_told run (Call.end serial))
  end_says_well serial = each_end run serial (λ step. SaysWell (end_said (end_says step.answer)))
      (λ unsound. let sound = b.sound in impossible cc)
      (λ s nobody. refused_well 17 (λ e. omega arith) (λ e. omega arith))
      (λ s at e many. refused_well 18 (λ e. omega arith) (λ e. omega arith))
      (λ s at e few. answered_well _ (omega arith) (record {
        first = omega (arith, pending_costs at (found_there run serial at e).0);
        second = omega arith;
      }))

  -- Whatever the call is, it says what fits, with a status that is neither 13 nor 11.
  says_well : (c : Call) → SaysWell (live_told run c)
  says_well (Call.release row cost) = release_says_well row cost
  says_well Call.tick = tick_says_well
  says_well (Call.end serial) = end_says_well serial

  -- Beside an idle tick and beside a refused one the late count is 0.
  no_late : (tick_says (ticked run).answer ≡ idle → (ticked run).late ≡ 0)
      × ((n place : ℕ) → tick_says (ticked run).answer ≡ says.TickSays.refused n place → (ticked run).late ≡ 0)
  no_late = each_tick run b.sound
      (λ step. (tick_says step.answer ≡ idle → step.late ≡ 0) × ((n place : ℕ) → tick_says step.answer ≡ says.TickSays.refused n place → step.late ≡ 0))
      (λ last. (λ e. refl, λ n place e. refl))
      (λ early takes. (λ e. impossible cc, λ n place e. impossible cc))
      (λ early free none. (λ e. refl, λ n place e. refl))
      (λ early free some. (λ e. impossible cc, λ n place e. impossible cc))

-- ---- one call

module _ (size : ℕ) (before after : Run) (s : Said) where
  -- With an answer buffer of 16 bytes a step leaves the run after the call, and returns the status that is said.
  step_of_sixteen : size ≡ answer_length → ((step_after size before after s).run ≡ after) × ((step_after size before after s).status ≡ s.number)
  step_of_sixteen e = rw (eq-eqb size answer_length e) (refl, refl)

  -- With another answer buffer a step leaves the run as it was, and returns 13.
  step_of_another_size : size ≢ answer_length → ((step_after size before after s).run ≡ before) × ((step_after size before after s).status ≡ 13)
  step_of_another_size other = rw (ne_eqb size answer_length other) (refl, refl)

module _ (run : Run) where
  -- With an answer buffer of 16 bytes a call leaves the run after it, and returns the status that it says.
  of_sixteen : (c : Call) (size : ℕ) → size ≡ answer_length → (live_left run c size ≡ run_after run c) × (live_status run c size ≡ (live_told run c).number)
  of_sixteen (Call.release row cost) size = step_of_sixteen size run (released run row cost).run (release_told run row cost)
  of_sixteen Call.tick size = step_of_sixteen size run (ticked run).run (tick_told run)
  of_sixteen (Call.end serial) size = step_of_sixteen size run (ended run serial).run (end_told run serial)

  -- With another answer buffer a call leaves the run as it was, and returns 13.
  of_another_size : (c : Call) (size : ℕ) → size ≢ answer_length → (live_left run c size ≡ run) × (live_status run c size ≡ 13)
  of_another_size (Call.release row cost) size = step_of_another_size size run (released run row cost).run (release_told run row cost)
  of_another_size Call.tick size = step_of_another_size size run (ticked run).run (tick_told run)
  of_another_size (Call.end serial) size = step_of_another_size size run (ended run serial).run (end_told run serial)

module _ {t : Table} {run : Run} {es : List Event} (b : Bridge t run es) where
  -- From what a call says the program reads the call's event.
  event_back : (c : Call) (s : Seen) → read_said s ≡ live_told run c → read_event c s ≡ event_of run c
  event_back (Call.release row cost) s e = ap (Event.release row cost) (ap release_read e ∙ live_reads_back.0 (released run row cost).answer)
  event_back Call.tick s e =
      let step = ticked run in
      let late : late_read (read_said s) ≡ step.late = ap late_read e ∙ late_reads_back step.answer step.late (no_late b).0 (no_late b).1 in
      ap₂ Event.tick (ap tick_read e ∙ live_reads_back.1 step.answer step.late) late
  event_back (Call.end serial) s e = ap (Event.end serial) (ap end_read e ∙ live_reads_back.2 (ended run serial).answer)

  module _ (c : LiveCall) (sixteen : length c.buffer ≡ answer_length) where
    -- After a call with an answer buffer of 16 bytes the program has the status that is said, and the bytes of the two numbers.
    seen_of_sixteen : seen_after run c ≡ record { status = (live_told run c.call).number; answer = answer_bytes (live_told run c.call) }
    seen_of_sixteen = rw ((of_sixteen run c.call (length c.buffer) sixteen).1, eq-eqb (length c.buffer) answer_length sixteen)

    -- So the program reads the call's event.
    reads_the_event : read_event c.call (seen_after run c) ≡ event_of run c.call
    reads_the_event = event_back c.call (seen_after run c) (ap read_said seen_of_sixteen ∙ said_back (live_told run c.call) (says_well b c.call).numbers)

    -- The status is not 13.
    is_not_13 : (seen_after run c).status ≢ 13
    is_not_13 e = (says_well b c.call).not_13 (sym (of_sixteen run c.call (length c.buffer) sixteen).1 ∙ e)

-- ---- all calls

module _ (c : LiveCall) (calls : List LiveCall) where
  -- A call with an answer buffer of 16 bytes is one of the trace.
  is_made : length c.buffer ≡ answer_length → calls_made (c ∷ calls) ≡ c.call ∷ calls_made calls
  is_made sixteen = rw (eq-eqb (length c.buffer) answer_length sixteen)

  -- A call with another answer buffer is none of the trace.
  is_not_made : length c.buffer ≢ answer_length → calls_made (c ∷ calls) ≡ calls_made calls
  is_not_made other = rw (ne_eqb (length c.buffer) answer_length other)

  module _ (s : Seen) (ss : List Seen) where
    -- Where the status is not 13, the program reads an event.
    one_event : s.status ≢ 13 → events_read (c ∷ calls) (s ∷ ss) ≡ read_event c.call s ∷ events_read calls ss
    one_event other = rw (ne_eqb s.status 13 other)

    -- Where the status is 13, the program reads none.
    no_event : s.status ≡ 13 → events_read (c ∷ calls) (s ∷ ss) ≡ events_read calls ss
    no_event e = rw (eq-eqb s.status 13 e)

-- The run in the program's memory is that of a trace, and the events that the program reads are that trace.
pub live_is_a_trace : LiveIsATrace
unfolding live_run_at seen run_at trace
live_is_a_trace memory table fine [] = (refl, refl)
live_is_a_trace memory table fine (c ∷ calls) =
    let before = live_is_a_trace memory table fine calls in
    let live = live_run_at memory table calls in
    let after = seen memory table calls in
    let size = length c.buffer in
    by_eq size answer_length
    (λ sixteen.
    let b : Bridge (table_read table).table live (trace table (calls_made calls)) = rw before.0 (bridge table fine (calls_made calls)) in
    let made = is_made c calls sixteen in (
      (of_sixteen live c.call size sixteen).0 ∙ ap (λ run. run_after run c.call) before.0 ∙ ap (run_at table) (sym made),
      one_event c calls (seen_after live c) after (is_not_13 b c sixteen)
          ∙ ap₂ ◌∷◌ (reads_the_event b c sixteen ∙ ap (λ run. event_of run c.call) before.0) before.1
          ∙ ap (trace table) (sym made),
    ))
    (λ other.
    let left = of_another_size live c.call size other in
    let none = is_not_made c calls other in (
      left.0 ∙ before.0 ∙ ap (run_at table) (sym none),
      no_event c calls (seen_after live c) after left.1 ∙ before.1 ∙ ap (trace table) (sym none),
    ))

-- ---- the promises

-- What holds for every trace holds for the events that the program reads.
pub live_promises : LivePromises
live_promises table fine P all memory calls = subst P (sym (live_is_a_trace memory table fine calls).1) (all (calls_made calls))

-- Where `verdict` returned 20, the jobs that are due have had their cost, by what the program reads.
pub live_in_time : LiveInTime
live_in_time table fine lent written feasible memory calls =
    rw (live_is_a_trace memory table fine calls).1 (in_time table fine (call_said_feasible table lent written feasible) (calls_made calls))

-- By what the program reads, no job has more than its cost, and an ended one has had what the end said.
pub live_never_more : LiveNeverMore
live_never_more table fine memory calls =
    let made = calls_made calls in
    rw (live_is_a_trace memory table fine calls).1 (never_more table fine made, ended_had_what_was_said table fine made)

-- By what the program reads, a row or a server never has more than its share.
pub live_share : LiveShare
live_share table fine memory calls = rw (live_is_a_trace memory table fine calls).1 (share table fine (calls_made calls))

-- ---- refused exactly when

module _ {t : Table} {run : Run} {es : List Event} (b : Bridge t run es) where
  -- A tick with an answer buffer of 16 bytes returns 10 exactly at the clock 2^40, and otherwise one of 35 to 38.
  tick_refused_exactly : (((tick_told run).number ≡ 10) ↔ (clock_of es ≡ max_time))
      × (((tick_told run).number ≡ 10) ⊎ ((35 ≤ (tick_told run).number) × ((tick_told run).number ≤ 38)))
  tick_refused_exactly =
      let clock = b.same_clock in
      let in_range : run.clock.0 ≤ max_time = (sound_facts b).clock_in_time in
      each_tick run b.sound
      (λ step. let s = tick_said (tick_says step.answer) step.late in
      ((s.number ≡ 10) ↔ (clock_of es ≡ max_time)) × ((s.number ≡ 10) ⊎ ((35 ≤ s.number) × (s.number ≤ 38))))
      (λ last. ((λ h. omega arith, λ e. refl), inl refl))
      (λ early takes. not_refused _ (omega arith) (omega arith) (omega arith))
      (λ early free none. not_refused _ (omega arith) (omega arith) (omega arith))
      (λ early free some. by_test (last_unit (first_job run.pending))
      (λ last. rw last (not_refused _ (omega arith) (omega arith) (omega arith)))
      (λ more. rw more (not_refused _ (omega arith) (omega arith) (omega arith))))
    where
      -- A tick before the clock 2^40 has a status from 35 to 38.
      not_refused : (status : ℕ) → 35 ≤ status → status ≤ 38 → clock_of es < max_time
          → ((status ≡ 10) ↔ (clock_of es ≡ max_time)) × ((status ≡ 10) ⊎ ((35 ≤ status) × (status ≤ 38)))
      not_refused status high low early = ((λ h. absurd (omega arith), λ e. absurd (omega arith)), inr (high, low))

  -- What the next call returns, where its answer buffer has 16 bytes.
  next_by_the_trace : ((row cost : ℕ) → release_told run row cost ≡ release_said (release_answer t es row cost))
      × (((tick_leaves 16 run).status ≡ 10) ↔ (clock_of es ≡ max_time))
      × (((tick_leaves 16 run).status ≡ 10) ⊎ ((35 ≤ (tick_leaves 16 run).status) × ((tick_leaves 16 run).status ≤ 38)))
      × ((serial : ℕ) → end_told run serial ≡ end_said (end_answer es serial))
  next_by_the_trace = (
    λ row cost. ap release_said (release_by_the_trace b row cost),
    tick_refused_exactly.0,
    tick_refused_exactly.1,
    λ serial. ap end_said (end_by_the_trace b serial),
  )

-- The bridge holds for the run in the program's memory and for the events that the program reads.
live_bridge : (memory : Run) (table : List ℕ) → Bytes table → (calls : List LiveCall)
    → Bridge (table_read table).table (live_run_at memory table calls) (live_events memory table calls)
live_bridge memory table fine calls =
    let same = live_is_a_trace memory table fine calls in
    rw (same.0, same.1) (bridge table fine (calls_made calls))

-- The next call is refused exactly when the events that the program has read say so.
pub live_refused_exactly : LiveRefusedExactly
live_refused_exactly table fine memory calls = next_by_the_trace (live_bridge memory table fine calls)

-- No call returns 11: with 16 bytes the run is sound, and with another answer buffer the status is 13.
pub live_never_11 : LiveNever11
live_never_11 memory table fine calls c size eleven =
    let run = live_run_at memory table calls in
    by_eq size answer_length
    (λ sixteen. (says_well (live_bridge memory table fine calls) c).not_11 (sym (of_sixteen run c size sixteen).1 ∙ eleven))
    (λ other. omega (arith, (of_another_size run c size other).1))

-- With 16 bytes the status is not 13, and with another answer buffer it is.
pub live_13_exactly : Live13Exactly
live_13_exactly memory table fine calls c size =
    let run = live_run_at memory table calls in (
      λ thirteen sixteen. (says_well (live_bridge memory table fine calls) c).not_13 (sym (of_sixteen run c size sixteen).1 ∙ thirteen),
      λ other. (of_another_size run c size other).1,
    )

-- What a start says of what was read, by a verdict that is right for it.
start_by_verdict_lem : (t : Table) (a : Result ℕ RefusedAt) (v : Verdict) → RightOfRead t a v → start_said (start_answer a) ≡ start_by_verdict v
start_by_verdict_lem t (Ok period) verdict.Feasible right = refl
start_by_verdict_lem t (Ok period) (verdict.Overloaded w) right = refl
start_by_verdict_lem t (Ok period) (verdict.Refused r) right = absurd right
start_by_verdict_lem t (Err r) v right = ap start_by_verdict (sym right)

-- A start says by the verdict whether the table is accepted, and else its refusal.
pub live_starts_by_the_verdict : LiveStartsByTheVerdict
live_starts_by_the_verdict table v judged = start_by_verdict_lem (table_read table).table (table_read table).answer v judged

-- A table that gets 20 is accepted, so a run starts on it.
pub live_starts_feasible : LiveStartsFeasible
live_starts_feasible table lent written feasible memory =
    let said = call_said_feasible table lent written feasible in
    rw (feasible_starts (table_read table).table (table_read table).answer said.answer said.judged said.feasible) refl
