-- The promises at work: the proofs.
use Prim.Native.Nat.{ℕ, ◌≤◌}
use mathlib.Core.Path.{◌≡◌, refl}
use mathlib.Core.Bool.{false}
use mathlib.Core.List.{List, flatten, Memᴰ}
use native.Mathlib.Omega.{arith}
use borrow.Author.Tests.{leb-true}
use Rattle.numbers.specs.SpelledNumbers.{Bytes}
use Rattle.numbers.specs.Reading as reading
use Rattle.numbers.specs.Spelling as spelling
use Rattle.theory.specs.Lists.{total}
use Rattle.theory.specs.Jobs.{Job, weighed}
use Rattle.theory.specs.Demand.{row_jobs, row_demand, row_growth}
use Rattle.theory.specs.Sources.{own, in_turn}
use Rattle.theory.specs.Trace.{units}
use Rattle.theory.specs.DueTimes.{due_time}
use Rattle.theory.specs.Servers.{ticks_for, server_due, server_demand}
use Rattle.table.specs.Tables.{read_rows}
use Rattle.table.specs.Servers as servers
use Rattle.table.specs.Period.{first_multiple, least_common_multiple}
use Rattle.due.specs.Kept.{due_of, kept_with, kept_sound}
use Rattle.due.specs.OddJobs.{odd_due_of}
use Rattle.jobs.specs.Places.{put, taken_out}
use Rattle.jobs.specs.Units.{after}
use Rattle.jobs.specs.Late.{late_count}
use Rattle.jobs.specs.Choice.{goes_before}
use Rattle.run.specs.Sound.{sound_of, job_fits, job_sound}
use Rattle.run.specs.Release.{released}
use Rattle.run.specs.Ticking.{ticked}
use Rattle.run.specs.Ending.{ended}
use Rattle.verdict.specs.declared.Verdict.TheVariants.{Feasible, Overloaded}
use Rattle.verdict.specs.Demand.{table_demand, table_growth, largest_of}
use Rattle.verdict.specs.Verdict.{Judged}
use Rattle.promise.specs.Traces.{Call, Event, run_at, trace, told, clock_of, jobs_of_trace, units_of, was_ended}
use Rattle.promise.specs.NoOrder.{first_jobs, kept_after, units_by}
use Rattle.promise.specs.Examples.{v3, v4, t6, s4}
use Rattle.promise.specs.Instances.{calls, answers, AnswersAreThese, job, ThreeJobs, AllThreeInTime, ShareIsReached}
use Rattle.promise.specs.Instances.{NamedByV4, NobodyServesV4, SomebodyServesV4Later, NamedByT6, NobodyServesT6, SomebodyServesT6Later}
use Rattle.promise.specs.Instances.{r2, timed_calls, TimedAnswers, TimedInTime, LateInATakenTick}
use Rattle.promise.specs.Instances.{OddAnswers, OddShareIsReached, NamedByS4, NobodyServesS4, NamedPastTheLimit, NamedNoneOfZero}
use Rattle.promise.specs.Instances.{EndingAnswers}
use Rattle.promise.proofs.InTime.{in_time}
use Rattle.promise.proofs.NoOrder.{no_order}
use Rattle.promise.proofs.Examples.{are_bytes, feasible_by_look, judged_so, v3_is_feasible, v4_is_overloaded, t6_is_overloaded, s4_is_overloaded}

pub answers_are_these : AnswersAreThese
unfolding
    run_at trace released ticked sound_of job_fits job_sound put taken_out after late_count goes_before due_of kept_with kept_sound due_time read_rows servers.read_servers
    least_common_multiple first_multiple reading.spelt spelling.groups_of flatten
answers_are_these = refl

pub three_jobs : ThreeJobs
unfolding told
three_jobs = (refl, refl)

-- *In time*, where the answers are known: on a feasible table, a job that was accepted, was not ended and is due by the clock has had its
-- cost.
had_its_cost : (bytes : List ℕ) → Bytes bytes → Judged bytes Feasible → (calls : List Call) (es : List Event) → trace bytes calls ≡ es
    → (j : Job) → Memᴰ j (jobs_of_trace es) → was_ended es j ≡ false → j.due ≤ clock_of es → units_of j.name (trace bytes calls) ≡ j.cost
had_its_cost bytes fine feasible calls es same j accepted stays due =
    in_time bytes fine (record { answer = Feasible; judged = feasible; feasible = refl }) calls j (rw same accepted) (rw same stays) (rw same due)

-- The table V3 is made of bytes.
v3_in_bytes : Bytes v3
unfolding spelling.groups_of flatten
v3_in_bytes = are_bytes v3 refl

-- By *In time*, each of the three jobs has had its cost.
pub all_three_in_time : AllThreeInTime
unfolding told
all_three_in_time =
    let had_it = had_its_cost v3 v3_in_bytes v3_is_feasible calls answers answers_are_these in (
      had_it (job 0 0 0 4 2) (Memᴰ.tail (Memᴰ.tail (Memᴰ.head refl))) refl (omega arith),
      had_it (job 1 1 0 6 3) (Memᴰ.tail (Memᴰ.head refl)) refl (omega arith),
      had_it (job 2 0 4 8 2) (Memᴰ.head refl) refl (omega arith),
    )

-- What row 0 consumes is worked out from the answers.
pub share_is_reached : ShareIsReached
unfolding told units own weighed total
share_is_reached = rw answers_are_these (refl, refl)

pub named_by_v4 : NamedByV4
unfolding
    first_jobs kept_after in_turn row_jobs due_of kept_with due_time read_rows servers.read_servers least_common_multiple first_multiple reading.spelt spelling.groups_of
    flatten
named_by_v4 = refl

-- The table V4 is made of bytes.
v4_in_bytes : Bytes v4
unfolding spelling.groups_of flatten
v4_in_bytes = are_bytes v4 refl

-- By *No order*, nobody serves the jobs that the witness of V4 names.
pub nobody_serves_v4 : NobodyServesV4
nobody_serves_v4 who =
    rw named_by_v4 at
    (no_order v4 v4_in_bytes (Overloaded (record { length = 11; demand = 12 })) v4_is_overloaded 11 12 refl who)

-- The units of this order are counted, and they serve the same jobs where each is due one tick later.
pub somebody_serves_v4_later : SomebodyServesV4Later
unfolding units_by read_rows servers.read_servers least_common_multiple first_multiple reading.spelt spelling.groups_of flatten
somebody_serves_v4_later = rw named_by_v4
    (leb-true _ _ refl, (leb-true _ _ refl, (leb-true _ _ refl, (leb-true _ _ refl, (leb-true _ _ refl, tt)))))

-- ---- with a timer

pub named_by_t6 : NamedByT6
unfolding
    first_jobs kept_after in_turn row_jobs due_of kept_with due_time read_rows servers.read_servers least_common_multiple first_multiple reading.spelt spelling.groups_of
    flatten
named_by_t6 = refl

-- The table T6 is made of bytes.
t6_in_bytes : Bytes t6
unfolding spelling.groups_of flatten
t6_in_bytes = are_bytes t6 refl

-- By *No order*, nobody serves the job that the witness of T6 names.
pub nobody_serves_t6 : NobodyServesT6
nobody_serves_t6 who =
    rw named_by_t6 at (no_order t6 t6_in_bytes (Overloaded (record { length = 7; demand = 8 })) t6_is_overloaded 7 8 refl who)

-- Four of the first 8 ticks of T6 are counted as free.
pub somebody_serves_t6_later : SomebodyServesT6Later
unfolding units_by read_rows servers.read_servers least_common_multiple first_multiple reading.spelt spelling.groups_of flatten
somebody_serves_t6_later = (leb-true _ _ refl, tt)

pub timed_answers : TimedAnswers
unfolding
    run_at trace released ticked sound_of job_fits job_sound put taken_out after late_count goes_before due_of kept_with kept_sound due_time read_rows servers.read_servers
    least_common_multiple first_multiple reading.spelt spelling.groups_of flatten
timed_answers = refl

-- The table of R2 is feasible, by a look at its lengths.
r2_is_feasible : Judged r2 Feasible
unfolding
    table_demand table_growth largest_of total row_demand row_jobs row_growth read_rows servers.read_servers least_common_multiple first_multiple reading.spelt
r2_is_feasible = judged_so r2 Feasible (feasible_by_look r2 8 refl refl refl refl)

-- By *In time*, both jobs have had their cost.
pub timed_in_time : TimedInTime
unfolding told
timed_in_time =
    let had_it = had_its_cost r2 (are_bytes r2 refl) r2_is_feasible timed_calls _ timed_answers in (
      had_it (job 0 0 0 6 2) (Memᴰ.tail (Memᴰ.head refl)) refl (omega arith),
      had_it (job 1 1 0 8 3) (Memᴰ.head refl) refl (omega arith),
    )

pub late_in_a_taken_tick : LateInATakenTick
unfolding
    run_at trace released ticked sound_of job_fits job_sound put taken_out after late_count goes_before due_of kept_with kept_sound due_time read_rows servers.read_servers
    least_common_multiple first_multiple reading.spelt spelling.groups_of flatten
late_in_a_taken_tick = refl

-- ---- with servers

pub odd_answers : OddAnswers
unfolding
    run_at trace released ticked sound_of job_fits job_sound put taken_out after late_count goes_before due_of kept_with kept_sound due_time odd_due_of server_due ticks_for
    read_rows servers.read_servers least_common_multiple first_multiple reading.spelt
odd_answers = refl

-- What the server consumes is worked out from the answers.
pub odd_share_is_reached : OddShareIsReached
unfolding told units own weighed total
odd_share_is_reached = rw odd_answers (refl, refl)

pub named_by_s4 : NamedByS4
unfolding
    first_jobs kept_after in_turn row_jobs due_of kept_with due_time server_demand server_due ticks_for read_rows servers.read_servers least_common_multiple first_multiple
    reading.spelt spelling.groups_of flatten
named_by_s4 = refl

-- The table S4 is made of bytes.
s4_in_bytes : Bytes s4
unfolding spelling.groups_of flatten
s4_in_bytes = are_bytes s4 refl

-- By *No order*, nobody serves the jobs that the witness of S4 names.
pub nobody_serves_s4 : NobodyServesS4
nobody_serves_s4 who =
    rw named_by_s4 at (no_order s4 s4_in_bytes (Overloaded (record { length = 12; demand = 13 })) s4_is_overloaded 12 13 refl who)

pub named_past_the_limit : NamedPastTheLimit
unfolding
    first_jobs kept_after in_turn row_jobs due_of kept_with due_time server_demand server_due ticks_for read_rows servers.read_servers least_common_multiple first_multiple
    reading.spelt flatten
named_past_the_limit = refl

pub named_none_of_zero : NamedNoneOfZero
unfolding
    first_jobs kept_after in_turn row_jobs due_of kept_with due_time server_demand server_due ticks_for read_rows servers.read_servers least_common_multiple first_multiple
    reading.spelt flatten
named_none_of_zero = refl

-- ---- with an end

pub ending_answers : EndingAnswers
unfolding
    run_at trace released ticked ended sound_of job_fits job_sound put taken_out after late_count goes_before due_of kept_with kept_sound due_time read_rows
    servers.read_servers least_common_multiple first_multiple reading.spelt spelling.groups_of flatten
ending_answers = refl
