-- What a tick answers, and the run after it. (docs/RULES.md, sections 6.5 and 6.10 to 6.17.)
use Rattle.std.specs.Prelude.{ℕ, ◌+◌, Bool, cond, ltb, eqb}
use Rattle.kinds.specs.Numbering.{max_time}
use Rattle.kinds.specs.declared.Refusal.{Refusal}
use Rattle.kinds.specs.declared.Refusal.TheVariants.{RunNotSound, TimeTooLate}
use Rattle.theory.specs.Ticks.{timer}
use Rattle.jobs.specs.declared.Pending.{Pending}
use Rattle.jobs.specs.Places.{jobs_of}
use Rattle.jobs.specs.Units.{ran_of}
use Rattle.jobs.specs.Late.{late_count}
use Rattle.jobs.specs.Turns.{first_job, one_tick}
use Rattle.run.specs.declared.Run.{Run}
use Rattle.run.specs.declared.TickStep.{TickStep}
use Rattle.run.specs.declared.Ticked.TheVariants as answer
use Rattle.run.specs.Sound.{sound_of}

-- A refused tick leaves the run unchanged, and its late count is 0. (6.14, 6.18)
abbrev pub refused_tick : Run → Refusal → TickStep
refused_tick run r = record { run = run; answer = answer.Refused r; late = 0 }

-- The run with another clock and other pending jobs. The timer, the rows, the servers, the next serial, the kept due times, the last due times and the number
-- of ended jobs stay as they were: due times are kept after a finish, through idle time and through taken ticks. (4.5, 4.9, 6.17)
abbrev pub run_with : Run → (clock : ℕ) → Pending → Run
run_with run clock p = record {
  table = run.table;
  clock = record { 0 = clock };
  pending = p;
  next = run.next;
  kept = run.kept;
  last = run.last;
  ended = run.ended;
}

-- The timer takes the tick at the run's clock t when t mod p < s. (6.5)
abbrev pub is_taken : Run → Bool
is_taken run = timer run.table.s run.table.p run.clock.0

-- A tick that the timer takes answers taken, whether or not a job is pending. No job gets a unit, and the jobs that became late are counted. The clock goes up
-- by one, and nothing else changes. (6.5, 6.10, 6.12, 6.14, 6.17)
abbrev pub taken_tick : Run → TickStep
taken_tick run = record {
  run = run_with run (run.clock.0 + 1) run.pending;
  answer = answer.Taken;
  late = late_count (run.clock.0 + 1) (jobs_of run.pending);
}

-- A free tick with nothing pending answers idle, with a late count of 0. The clock goes up by one, and nothing else changes. (6.10, 6.12, 6.14)
abbrev pub idle_tick : Run → TickStep
idle_tick run = record { run = run_with run (run.clock.0 + 1) run.pending; answer = answer.Idle; late = 0 }

-- A free tick with a job pending gives one unit to the chosen job, and answers that job's serial, whether it finished, and how many jobs became late. The clock
-- goes up by one. (6.10 to 6.14)
abbrev pub busy_tick : Run → TickStep
busy_tick run = record {
  run = run_with run (run.clock.0 + 1) (one_tick run.pending);
  answer = answer.Ran (ran_of (first_job run.pending));
  late = late_count (run.clock.0 + 1) (jobs_of (one_tick run.pending));
}

-- A tick that the timer does not take is free for jobs. It is idle exactly with nothing pending. (6.5, 6.12)
abbrev pub free_tick : Run → TickStep
free_tick run = cond (eqb run.pending.count 0) (idle_tick run) (busy_tick run)

-- What a tick answers, and the run after it. The tests are 11 and then 10. Every other tick is taken or free. (6.5, 6.10, 6.12, 6.16)
unfoldable pub ticked : Run → TickStep
ticked run =
    cond (sound_of run)
    (cond (ltb run.clock.0 max_time) (cond (is_taken run) (taken_tick run) (free_tick run)) (refused_tick run TimeTooLate))
    (refused_tick run RunNotSound)
