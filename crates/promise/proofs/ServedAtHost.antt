-- A script whose replay ends in 22 was served in time. The replay is a trace, on a feasible table every job of a trace had its cost before its due time, and
-- the log was written from the trace's finished jobs. (6.26, 8.8, 9.5)
use Prim.Native.Nat.{ℕ, ◌-◌, ◌+◌}
use mathlib.Core.Path.{◌≡◌, refl, sym, ap, subst, ◌∙◌}
use mathlib.Core.Logic.{⊎_elim}
use mathlib.Core.Bool.{false}
use mathlib.Core.List.{List, [], ◌∷◌, ◌++◌, map, reverse, Memᴰ}
use native.Mathlib.Omega.{arith}
use lib.Dec.{leb, eqb}
use lib.ListN.{length, drop, length-map, length-reverse}
use Rattle.kinds.proofs.Apart.{impossible}
use Rattle.kinds.proofs.Numbering.{no_answer}
use Rattle.numbers.specs.SpelledNumbers.{Bytes}
use Rattle.theory.specs.Jobs.{Job}
use Rattle.theory.proofs.Cases.{by_lt, by_test, by_eq}
use Rattle.jobs.specs.declared.Job.{Job as PendingJob}
use Rattle.script.specs.declared.Record.{Record}
use Rattle.script.proofs.Scripts.{read_in_one_way}
use Rattle.logs.specs.SpelledLogs.{spelled_log}
use Rattle.replay.specs.declared.Replayed.TheVariants as replayed
use Rattle.play.specs.Play.{Progress, Played, whole, stopped, played}
use Rattle.play.specs.Late.{late_finishes}
use Rattle.replay.specs.Outcome.{replay_outcome, replay_of, replay_says, log_left}
use Rattle.play.specs.LogRecords.{AskedFor}
use Rattle.play.proofs.WholePlays.{every_record_is_accepted}
use Rattle.host.specs.Answer.{answer_length}
use Rattle.host.proofs.Answering.{replay_of_another_size, replay_of_sixteen}
use Rattle.promise.specs.Traces.{Call, trace, clock_of, jobs_of_trace, ended_in, was_ended, unfinished_in}
use Rattle.promise.specs.Link.{job_of}
use Rattle.promise.specs.InTime.{SaidFeasible, units_of_trace_before}
use Rattle.promise.specs.Replays.{calls_of, IsTheTrace, ServedInTime, ServedInTimeAtHostCalls}
use Rattle.promise.proofs.RunsFollow.{bridge}
use Rattle.promise.proofs.Choice.{none_pending}
use Rattle.promise.proofs.Refusals.{pending_count}
use Rattle.promise.proofs.Share.{share}
use Rattle.promise.proofs.Earlier.{in_time_before_due}
use Rattle.promise.proofs.AtHost.{call_said_feasible}
use Rattle.promise.proofs.Replays.{replay_ends_none, replays_are_traces}

-- ---- the jobs of a trace that ends with none unfinished

-- Where no accepted job is unfinished and none was ended early, each had its cost before its due time, whether or not the clock has come there.
had_before_due : (bytes : List ℕ) → Bytes bytes → SaidFeasible bytes → (calls : List Call) → unfinished_in (trace bytes calls) ≡ 0
    → ended_in (trace bytes calls) ≡ []
    → (j : Job) → Memᴰ j (jobs_of_trace (trace bytes calls)) → units_of_trace_before j.due j.name (trace bytes calls) ≡ j.cost
had_before_due bytes fine said calls none none_ended j m =
    let stays : was_ended (trace bytes calls) j ≡ false = rw none_ended in
    by_lt (clock_of (trace bytes calls)) j.due
    (λ early.
    let b = bridge bytes fine calls in
    let no_more : clock_of (trace bytes calls) - j.due ≡ 0 = omega arith in
    rw no_more (⊎_elim (λ gone. impossible cc) (λ had. had) (none_pending b (pending_count b ∙ none) j m)))
    (λ due. in_time_before_due bytes fine said calls j m stays due)

-- The jobs that some records ask for are as many as the records.
as_many_as_asked : (time : ℕ) (rs : List Record) (js : List PendingJob) → AskedFor time rs js → length js ≡ length rs
as_many_as_asked time [] [] asked = refl
as_many_as_asked time [] (j ∷ js) asked = absurd asked
as_many_as_asked time (r ∷ rs) [] asked = absurd asked
as_many_as_asked time (r ∷ rs) (j ∷ js) asked = omega (arith, as_many_as_asked (time + r.gap) rs js asked.3)

-- ---- a replay that ends in 22

-- A replay that ends in 22 came to its end, and its log had room.
record EndsIn22 (table script : List ℕ) (room : ℕ) : Type 0 where
  progress : Progress
  came_to_its_end : played table script ≡ whole progress
  answered : replay_of table script room ≡ replayed.InTime (length (spelled_log progress.so_far.finishes))

-- A replay whose number is 22 came to its end, and its log had room.
ends_in_22 : (table script : List ℕ) (room : ℕ) → (replay_says (replay_of table script room)).number ≡ 22 → EndsIn22 table script room
ends_in_22 table script room said = by_play (played table script) refl said
  where
    by_play : (p : Played) → played table script ≡ p → (replay_says (replay_outcome room (length script) p)).number ≡ 22 → EndsIn22 table script room
    by_play (whole p) e n =
        let fs = p.so_far.finishes in
        by_test (leb (length (spelled_log fs)) room)
        (λ fits. by_test (eqb (late_finishes fs) 0)
        (λ none. record { progress = p; came_to_its_end = e; answered = rw (e, fits, none) })
        (λ late. absurd (let q = rw (fits, late) at n in omega arith)))
        (λ full. absurd (let q = rw full at n in omega arith))
    by_play (stopped r) e n = absurd (no_answer r.refusal (omega arith) (omega arith))

module _ (table script : List ℕ) (fine : Bytes table) (fine' : Bytes script) (said : SaidFeasible table) (log : List ℕ) where
  -- The log has the finished jobs, and the bytes past them stay as they were.
  log_left_lem : (end : EndsIn22 table script (length log))
      → let spelled = spelled_log end.progress.so_far.finishes in log_left table script log ≡ spelled ++ drop (length spelled) log
  log_left_lem end = rw (end.answered, end.came_to_its_end)

  -- A script whose replay ends in 22 was served in time.
  served_in_time : EndsIn22 table script (length log) → ServedInTime table script log (log_left table script log)
  served_in_time end =
      let p = end.progress in
      let is : IsTheTrace table script p = replays_are_traces table script p fine fine' end.came_to_its_end in
      let calls = calls_of is.records is.final in
      let asked = every_record_is_accepted table script p fine fine' end.came_to_its_end in
      let same_records : asked.0 ≡ is.records = read_in_one_way script 0 asked.0 is.records asked.1 is.are_read in
      let many : length (map job_of p.accepted) ≡ length (reverse (jobs_of_trace (trace table calls))) = ap length is.same_jobs in
      record {
        records = is.records;
        are_read = is.are_read;
        final = is.final;
        none_refused = is.none_refused;
        one_job_each = omega (
          arith,
          many,
          length-map p.accepted job_of,
          length-reverse (jobs_of_trace (trace table calls)),
          as_many_as_asked 0 asked.0 p.accepted asked.2,
          ap length same_records,
        );
        had_in_time = had_before_due table fine said calls is.none_unfinished (replay_ends_none table is.records is.final);
        share = share table fine calls;
        its_log = subst (λ fs. log_left table script log ≡ spelled_log fs ++ drop (length (spelled_log fs)) log) is.same_finishes (log_left_lem end);
      }

-- Where the call `verdict` returns 20 and the call `replay` returns 22, the script was served in time.
pub served_in_time_at_host_calls : ServedInTimeAtHostCalls
served_in_time_at_host_calls table script fine fine' lent written feasible log answer after left leaves = by_eq (length answer) answer_length
    (λ sixteen.
    let told = (replay_of_sixteen table script log answer 22 after left sixteen).0 leaves in
    let said = call_said_feasible table lent written feasible in
    rw told.its_log (served_in_time table script fine fine' said log (ends_in_22 table script (length log) (sym told.its_number))))
    (λ other. absurd (let thirteen : ◌≡◌ {A = ℕ} 22 13 = sym leaves.0 ∙ (replay_of_another_size table script log answer other).0 in omega arith))
