-- What ending a job early answers, and the run after it. (docs/RULES.md, sections 6.27 to 6.30.)
use Rattle.std.specs.Prelude.{ℕ, ◌+◌, ◌-◌, cond, ltb, get_or, Option, Some, None, Ok, Err}
use Rattle.kinds.specs.declared.Refusal.{Refusal}
use Rattle.kinds.specs.declared.Refusal.TheVariants.{RunNotSound, NotPending, TooManyEnded}
use Rattle.jobs.specs.declared.Job.{Job}
use Rattle.jobs.specs.Places.{no_job, jobs_of, taken_out}
use Rattle.jobs.specs.Serials.{place_of}
use Rattle.run.specs.declared.Run.{Run}
use Rattle.run.specs.declared.EndStep.{EndStep}
use Rattle.run.specs.Sound.{sound_of, max_ended}

-- A refused end leaves the run unchanged. (6.18)
abbrev pub refused_end : Run → Refusal → EndStep
refused_end run r = record { run = run; answer = Err r }

-- The units that a job was given so far: its stated cost less its units left. (1.7, 6.27)
abbrev pub units_given : Job → ℕ
units_given j = j.cost - j.left

-- The run after the job at a place was ended. The job is taken out, as one that finishes is, and one more job was ended early. The clock, the table, the next
-- serial, the kept due times and the last due times stay as they were. (6.27, 6.28)
abbrev pub with_ended : Run → (at : ℕ) → Run
with_ended run at = record {
  table = run.table;
  clock = run.clock;
  pending = taken_out run.pending at;
  next = run.next;
  kept = run.kept;
  last = run.last;
  ended = run.ended + 1;
}

-- An end of a sound run, by the place of the job that has the serial. Where nobody has it, that is refusal 17. After that, 2^40 ended jobs are refusal 18.
-- Otherwise the job is ended, and the units that it was given are answered. (6.27, 6.30)
abbrev pub at_place : Run → Option ℕ → EndStep
at_place run (Some at) =
    cond (ltb run.ended max_ended)
    (record { run = with_ended run at; answer = Ok (units_given (get_or (jobs_of run.pending) at no_job)) })
    (refused_end run TooManyEnded)
at_place run None = refused_end run NotPending

-- What ending the job with a serial answers, and the run after it. The tests come in this order: 11, 17, 18. (6.27, 6.30)
unfoldable pub ended : Run → (serial : ℕ) → EndStep
ended run serial = cond (sound_of run) (at_place run (place_of serial (jobs_of run.pending))) (refused_end run RunNotSound)
