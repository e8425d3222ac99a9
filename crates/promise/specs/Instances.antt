-- The promises at work. The first instance is a feasible table of two rows, with a trace of releases, refusals and ticks to which *In time* and *Share*
-- apply. The second is an overloaded table, with the jobs that its witness names. The third is a feasible table with a timer, the fourth a table on which a
-- job becomes late in a taken tick, the fifth a feasible table with a server, the next two are what a witness names of servers, and the last is a job that is
-- ended early. This page promises nothing new: it shows that the promises are not empty.
use Rattle.std.specs.Prelude.{ℕ, zero, suc, ◌+◌, ◌≡◌, true, false, List, [], ◌∷◌, map}
use Rattle.std.proofs.Math.Option.{Option, none, some}
use Rattle.theory.specs.Jobs.{Job}
use Rattle.table.specs.Tables.{table_read}
use Rattle.run.specs.Answers.{accepted, idle, ran, taken, ended_with}
use Rattle.run.specs.Answers as says
use Rattle.promise.specs.Traces.{Call, Event, trace, clock_of, jobs_of_trace, units_of}
use Rattle.promise.specs.Share.{costs_in, consumed_in}
use Rattle.promise.specs.Link.{taken_on}
use Rattle.promise.specs.NoOrder.{named_jobs, Serves}
use Rattle.promise.specs.Examples.{v3, v4, t6, s4}

-- The calls on V3 are a release of each row, two releases that are refused, four ticks, one more release, and four ticks. Like every list of calls they stand
-- newest first.
abbrev pub calls : List Call
calls =
    Call.tick ∷ Call.tick ∷ Call.tick ∷ Call.tick
    ∷ Call.release 0 2
    ∷ Call.tick ∷ Call.tick ∷ Call.tick ∷ Call.tick
    ∷ Call.release 0 3 ∷ Call.release 2 1 ∷ Call.release 1 3 ∷ Call.release 0 2
    ∷ []

-- The calls get these answers. A row number that is not in use is refused with 6, and a cost above the row's c with 7. Every tick goes to the job with the
-- earliest due time. (6.8, 6.11)
abbrev pub answers : List Event
answers =
    Event.tick idle 0 ∷ Event.tick (ran 2 true) 0 ∷ Event.tick (ran 2 false) 0 ∷ Event.tick (ran 1 true) 0
    ∷ Event.release 0 2 (accepted 2 8)
    ∷ Event.tick (ran 1 false) 0 ∷ Event.tick (ran 1 false) 0 ∷ Event.tick (ran 0 true) 0 ∷ Event.tick (ran 0 false) 0
    ∷ Event.release 0 3 (says.ReleaseSays.refused 7 0) ∷ Event.release 2 1 (says.ReleaseSays.refused 6 0)
    ∷ Event.release 1 3 (accepted 1 6) ∷ Event.release 0 2 (accepted 0 4)
    ∷ []

-- The trace of these calls on V3 is this list of answers.
abbrev pub AnswersAreThese : Type 0
AnswersAreThese = trace v3 calls ≡ answers

-- `job` makes a job of its five numbers.
abbrev pub job : (serial row release due cost : ℕ) → Job
job serial row release due cost = record { name = serial; source = row; release = release; due = due; cost = cost }

-- Three jobs were accepted, and the clock is at 8, the latest of their due times.
abbrev pub ThreeJobs : Type 0
ThreeJobs = (jobs_of_trace answers ≡ job 2 0 4 8 2 ∷ job 1 1 0 6 3 ∷ job 0 0 0 4 2 ∷ []) × (clock_of answers ≡ 8)

-- Each of the three jobs has had exactly its stated cost, as *In time* says. (6.26)
abbrev pub AllThreeInTime : Type 0
AllThreeInTime = (units_of 0 (trace v3 calls) ≡ 2) × (units_of 1 (trace v3 calls) ≡ 3) × (units_of 2 (trace v3 calls) ≡ 2)

-- In the window from 0 to 8 the two jobs of row 0 consume all of that row's demand, which is 4. *Share* allows no more. (5.12)
abbrev pub ShareIsReached : Type 0
ShareIsReached = (costs_in 0 8 0 (trace v3 calls) ≡ 4) × (consumed_in 0 8 0 (trace v3 calls) ≡ 4)

-- The witness of V4 has length 11 and demand 12. It names three jobs of row 0 and two of row 1. (5.10)
abbrev pub NamedByV4 : Type 0
NamedByV4 = named_jobs (table_read v4).table 11
    ≡ job 2 0 0 11 2 ∷ job 1 0 0 7 2 ∷ job 0 0 0 3 2 ∷ job 4 1 0 11 3 ∷ job 3 1 0 5 3 ∷ []

-- The five jobs that the witness of V4 names cost 12 units in 11 ticks, so nobody can serve them. (5.11)
abbrev pub NobodyServesV4 : Type 0
NobodyServesV4 = (who : ℕ → Option ℕ)
    → ¬ Serves (taken_on (table_read v4).table) who (job 2 0 0 11 2 ∷ job 1 0 0 7 2 ∷ job 0 0 0 3 2 ∷ job 4 1 0 11 3 ∷ job 3 1 0 5 3 ∷ [])

-- `one_later` is a job that is due one tick later, and else the same.
abbrev pub one_later : Job → Job
one_later j = record { name = j.name; source = j.source; release = j.release; due = j.due + 1; cost = j.cost }

-- This assignment gives the ticks from 0 on to the jobs of a list, one tick to each entry.
abbrev pub in_this_order : List ℕ → ℕ → Option ℕ
in_this_order [] t = none
in_this_order (n ∷ ns) zero = some n
in_this_order (n ∷ ns) (suc t) = in_this_order ns t

-- If each of the five jobs were due one tick later, this order would serve them all. So it is not the way of counting units that makes V4 impossible.
abbrev pub SomebodyServesV4Later : Type 0
SomebodyServesV4Later =
    Serves (taken_on (table_read v4).table) (in_this_order (0 ∷ 0 ∷ 3 ∷ 3 ∷ 3 ∷ 1 ∷ 1 ∷ 2 ∷ 2 ∷ 4 ∷ 4 ∷ 4 ∷ []))
    (map one_later (named_jobs (table_read v4).table 11))

-- ---- with a timer

-- The witness of T6 has length 7 and demand 8: one job of 4 units, and the 4 ticks that the timer takes. (5.10, 5.15)
abbrev pub NamedByT6 : Type 0
NamedByT6 = named_jobs (table_read t6).table 7 ≡ job 0 0 0 7 4 ∷ []

-- Of the first 7 ticks of T6 the timer leaves three free, so nobody can serve a job of 4 units that is due at 7. (5.11)
abbrev pub NobodyServesT6 : Type 0
NobodyServesT6 = (who : ℕ → Option ℕ) → ¬ Serves (taken_on (table_read t6).table) who (job 0 0 0 7 4 ∷ [])

-- If the job were due one tick later, whoever gives it every tick would serve it: four of the first 8 ticks are free. (5.11)
abbrev pub SomebodyServesT6Later : Type 0
SomebodyServesT6Later = Serves (taken_on (table_read t6).table) (λ t. some 0) (job 0 0 0 8 4 ∷ [])

-- The table of R2 has s = 1 and p = 4, and the rows (1, 8, 6, 2) and (1, 8, 8, 3). (8.19)
abbrev pub r2 : List ℕ
r2 = 0x01 ∷ 0x04 ∷ 0x02 ∷ 0x01 ∷ 0x08 ∷ 0x06 ∷ 0x02 ∷ 0x01 ∷ 0x08 ∷ 0x08 ∷ 0x03 ∷ 0x00 ∷ []

-- The calls on the table of R2 are a release of each row and eight ticks, newest first.
abbrev pub timed_calls : List Call
timed_calls =
    Call.tick ∷ Call.tick ∷ Call.tick ∷ Call.tick ∷ Call.tick ∷ Call.tick ∷ Call.tick ∷ Call.tick
    ∷ Call.release 1 3 ∷ Call.release 0 2
    ∷ []

-- The ticks at 0 and 4 are taken, though jobs wait. The tick at 7 is idle: it is free, and nothing waits. (6.12, 8.19)
abbrev pub TimedAnswers : Type 0
TimedAnswers = trace r2 timed_calls
    ≡ Event.tick idle 0 ∷ Event.tick (ran 1 true) 0 ∷ Event.tick (ran 1 false) 0 ∷ Event.tick taken 0
    ∷ Event.tick (ran 1 false) 0 ∷ Event.tick (ran 0 true) 0 ∷ Event.tick (ran 0 false) 0 ∷ Event.tick taken 0
    ∷ Event.release 1 3 (accepted 1 8) ∷ Event.release 0 2 (accepted 0 6)
    ∷ []

-- The table of R2 is feasible, so *In time* applies to these calls: with the clock at 8, both jobs have had their cost. (6.26)
abbrev pub TimedInTime : Type 0
TimedInTime = (units_of 0 (trace r2 timed_calls) ≡ 2) × (units_of 1 (trace r2 timed_calls) ≡ 3)

-- This table has s = 2 and p = 4, and the row (1, 4, 5, 3). It is overloaded.
abbrev pub due_in_a_taken_stretch : List ℕ
due_in_a_taken_stretch = 0x02 ∷ 0x04 ∷ 0x01 ∷ 0x01 ∷ 0x04 ∷ 0x05 ∷ 0x03 ∷ 0x00 ∷ []

-- The calls on that table are a release and seven ticks, newest first.
abbrev pub late_calls : List Call
late_calls =
    Call.tick ∷ Call.tick ∷ Call.tick ∷ Call.tick ∷ Call.tick ∷ Call.tick ∷ Call.tick
    ∷ Call.release 0 3
    ∷ []

-- The job is due at 5, inside a taken stretch. The taken tick that takes the clock to 5 counts it as late. (6.14)
abbrev pub LateInATakenTick : Type 0
LateInATakenTick = trace due_in_a_taken_stretch late_calls
    ≡ Event.tick (ran 0 true) 0 ∷ Event.tick taken 0 ∷ Event.tick taken 1
    ∷ Event.tick (ran 0 false) 0 ∷ Event.tick (ran 0 false) 0 ∷ Event.tick taken 0 ∷ Event.tick taken 0
    ∷ Event.release 0 3 (accepted 0 5)
    ∷ []

-- ---- with servers

-- The table of R3 has the row (1, 4, 4, 2) and the server (1, 4). The server has the row number 1. (8.20)
abbrev pub r3 : List ℕ
r3 = 0x00 ∷ 0x01 ∷ 0x01 ∷ 0x01 ∷ 0x04 ∷ 0x04 ∷ 0x02 ∷ 0x01 ∷ 0x01 ∷ 0x04 ∷ []

-- The calls on the table of R3, newest first, are a release of the row and one of the server, a tick, an odd job of a cost that none may have, a row number
-- that is not in use, one more odd job, and four ticks.
abbrev pub odd_calls : List Call
odd_calls =
    Call.tick ∷ Call.tick ∷ Call.tick ∷ Call.tick
    ∷ Call.release 1 2 ∷ Call.release 2 1 ∷ Call.release 1 4097
    ∷ Call.tick
    ∷ Call.release 1 1 ∷ Call.release 0 2
    ∷ []

-- The second odd job is released at 1, when the server's last due time is 4. So it is due at 4 + 8, and the refused one in between counts for nothing. (4.9,
-- 8.20)
abbrev pub OddAnswers : Type 0
OddAnswers = trace r3 odd_calls
    ≡ Event.tick (ran 2 true) 0 ∷ Event.tick (ran 2 false) 0 ∷ Event.tick (ran 1 true) 0 ∷ Event.tick (ran 0 true) 0
    ∷ Event.release 1 2 (accepted 2 12) ∷ Event.release 2 1 (says.ReleaseSays.refused 6 0) ∷ Event.release 1 4097 (says.ReleaseSays.refused 7 0)
    ∷ Event.tick (ran 0 false) 0
    ∷ Event.release 1 1 (accepted 1 4) ∷ Event.release 0 2 (accepted 0 4)
    ∷ []

-- In the window from 0 to 12 the two odd jobs consume all of the server's demand, floor(12 / 4) = 3. *Share* allows no more. (5.12, 5.16)
abbrev pub OddShareIsReached : Type 0
OddShareIsReached = (costs_in 0 12 1 (trace r3 odd_calls) ≡ 3) × (consumed_in 0 12 1 (trace r3 odd_calls) ≡ 3)

-- The witness of S4 has length 12 and demand 13. It names five jobs of the rows, and one odd job of cost 1, which is due at 12. (5.17, 5.19)
abbrev pub NamedByS4 : Type 0
NamedByS4 = named_jobs (table_read s4).table 12
    ≡ job 2 0 0 12 2 ∷ job 1 0 0 8 2 ∷ job 0 0 0 4 2 ∷ job 4 1 0 12 3 ∷ job 3 1 0 6 3 ∷ job 5 2 0 12 1 ∷ []

-- Nobody can serve these jobs: they cost 13 units in 12 ticks. (5.11)
abbrev pub NobodyServesS4 : Type 0
NobodyServesS4 = (who : ℕ → Option ℕ) → ¬ Serves (taken_on (table_read s4).table) who
    (job 2 0 0 12 2 ∷ job 1 0 0 8 2 ∷ job 0 0 0 4 2 ∷ job 4 1 0 12 3 ∷ job 3 1 0 6 3 ∷ job 5 2 0 12 1 ∷ [])

-- This table has the row (1, 1, 5000, 1) and the servers (1, 1) and (1, 4096). In 5,000 ticks its demand is 1 + 5000 + 1.
abbrev pub long_odd_jobs : List ℕ
long_odd_jobs = 0x00 ∷ 0x01 ∷ 0x01 ∷ 0x01 ∷ 0x01 ∷ 0x88 ∷ 0x27 ∷ 0x01 ∷ 0x02 ∷ 0x01 ∷ 0x01 ∷ 0x01 ∷ 0x80 ∷ 0x20 ∷ []

-- A length of 5,000 names one job of the row, one odd job of 5,000 units, which is more than any release may ask for, and one of a single unit. (5.17)
abbrev pub NamedPastTheLimit : Type 0
NamedPastTheLimit = named_jobs (table_read long_odd_jobs).table 5000 ≡ job 0 0 0 5000 1 ∷ job 1 1 0 5000 5000 ∷ job 2 2 0 4096 1 ∷ []

-- A length of 4,000 names an odd job of the first server alone: neither the row nor the second server has any demand in it. (5.17)
abbrev pub NamedNoneOfZero : Type 0
NamedNoneOfZero = named_jobs (table_read long_odd_jobs).table 4000 ≡ job 0 1 0 4000 4000 ∷ []

-- ---- with an end

-- The calls on V3, newest first, are a release of each row, a tick, an end of job 0, an end with a serial that was never given out, one more end of job 0, and
-- a tick.
abbrev pub ending_calls : List Call
ending_calls = Call.tick ∷ Call.end 0 ∷ Call.end 9 ∷ Call.end 0 ∷ Call.tick ∷ Call.release 1 3 ∷ Call.release 0 2 ∷ []

-- Job 0 has had one of its two units when it is ended, and the end answers this 1. The other two ends are refused with 17, and the last tick goes to job 1.
-- (6.27, 6.30)
abbrev pub EndingAnswers : Type 0
EndingAnswers = trace v3 ending_calls
    ≡ Event.tick (ran 1 false) 0
    ∷ Event.end 0 (says.EndingSays.refused 17 0) ∷ Event.end 9 (says.EndingSays.refused 17 0) ∷ Event.end 0 (ended_with 1)
    ∷ Event.tick (ran 0 false) 0
    ∷ Event.release 1 3 (accepted 1 6) ∷ Event.release 0 2 (accepted 0 4)
    ∷ []
