-- Ticks on pending jobs until one of them finishes, and what such ticks make of columns, in which the first job goes first. (docs/RULES.md, section 6.)
use Rattle.std.specs.Prelude.{ℕ, zero, suc, ◌+◌, ◌-◌, cond, ◌||◌, List, [], ◌∷◌, eqb, leb, ltb, length, get_or, set, Option, Some, None}
use Rattle.kinds.specs.declared.Finish.{Finish}
use Rattle.jobs.specs.declared.Job.{Job}
use Rattle.jobs.specs.Places.{no_job}
use Rattle.jobs.specs.Choice.{first_place}
use Rattle.jobs.specs.Units.{last_unit}
use Rattle.jobs.specs.Turns.{finish_at}
use Rattle.jobs.specs.JobChanges.{unit_at}
use Rattle.columns.specs.declared.Worked.{Worked}
use Rattle.columns.specs.declared.Columns.{Columns}
use Rattle.columns.specs.Columns.{columns, used_in, start_in, settled}

-- What some ticks have led to: the jobs that are pending, the clock, and the job that finished, if one did.
pub record Reached : Type 0 where
  pub jobs : List Job
  pub clock : ℕ
  pub answer : Option Finish

-- At this clock these jobs are pending, and no job has finished.
abbrev pub nobody_at : (clock : ℕ) → List Job → Reached
nobody_at clock js = record { jobs = js; clock = clock; answer = None }

-- A job finished at this clock, and these jobs are still pending. (6.13)
abbrev pub finished_at : (clock : ℕ) → Job → List Job → Reached
finished_at clock j js = record { jobs = js; clock = clock; answer = Some (finish_at clock j) }

-- The job that the next tick chooses: the earliest due time, and the lowest serial among equal due times. (6.11)
abbrev pub first_of : List Job → Job
first_of js = get_or js (first_place js) no_job

-- The pending jobs after one tick: the chosen job has had a unit, and is taken out if that was its last. (6.10, 6.13)
abbrev pub after_tick : List Job → List Job
after_tick js = unit_at js (first_place js)

-- Single ticks, one after another, until a job finishes, until nothing is pending, or until n ticks have gone by. (6.10 to 6.13)
unfoldable pub worked_for : (n clock : ℕ) → List Job → Reached
worked_for zero clock js = nobody_at clock js
worked_for (suc n) clock js =
    cond (eqb (length js) 0) (nobody_at clock js)
    (cond (last_unit (first_of js)) (finished_at (clock + 1) (first_of js) (after_tick js)) (worked_for n (clock + 1) (after_tick js)))

-- The units that a job gets before it finishes: its units left, and at least one. (6.13)
abbrev pub units_to_go : (left : ℕ) → ℕ
units_to_go left = cond (leb left 1) 1 left

-- The job with n fewer units left. (1.7)
abbrev pub worked_by : (n : ℕ) → Job → Job
worked_by n j = record { serial = j.serial; row = j.row; release = j.release; due = j.due; cost = j.cost; left = j.left - n }

-- ---- the first job gets the ticks

-- n ticks on jobs that stand in the order in which they are chosen: the first job gets all of them until it finishes. (6.10 to 6.13)
abbrev pub worked_first : (n clock : ℕ) → List Job → Reached
worked_first n clock [] = nobody_at clock []
worked_first n clock (j ∷ js) =
    cond (eqb n 0) (nobody_at clock (j ∷ js))
    (cond (ltb n (units_to_go j.left)) (nobody_at (clock + n) (worked_by n j ∷ js)) (finished_at (clock + units_to_go j.left) j js))

-- ---- on columns

-- The units that the first job gets before it finishes. (6.13)
abbrev pub units_of_first : Columns → ℕ
units_of_first c = units_to_go (get_or c.left (start_in c) 0)

-- The record of the first job, with a finish. (6.13)
abbrev pub first_finish : Columns → (finish : ℕ) → Finish
first_finish c finish = record {
  serial = record { 0 = get_or c.serials (start_in c) 0 };
  row = record { 0 = get_or c.rows (start_in c) 0 };
  release = record { 0 = get_or c.releases (start_in c) 0 };
  due = record { 0 = get_or c.dues (start_in c) 0 };
  finish = record { 0 = finish };
}

-- The columns after ticks from `clock` up to `until`. With nothing pending or no tick to give nothing changes. Otherwise the first job has fewer units left, or
-- leaves at the front. (6.10 to 6.13)
unfoldable pub work_on : Columns → (clock until : ℕ) → Columns
work_on c clock until =
    cond (eqb (used_in c) 0 || leb until clock) (settled c)
    (cond (ltb (until - clock) (units_of_first c))
    (columns c.serials c.rows c.releases c.dues (set c.left (start_in c) (get_or c.left (start_in c) 0 - (until - clock))) (start_in c) (used_in c))
    (columns c.serials c.rows c.releases c.dues c.left (start_in c + 1) (used_in c - 1)))

-- The clock and the job that finished, if one did, after ticks from `clock` up to `until`. (6.10 to 6.13)
unfoldable pub work_answer : Columns → (clock until : ℕ) → Worked
work_answer c clock until =
    cond (eqb (used_in c) 0 || leb until clock)
    (record { clock = record { 0 = clock }; finished = None })
    (cond (ltb (until - clock) (units_of_first c))
    (record { clock = record { 0 = until }; finished = None })
    (record { clock = record { 0 = clock + units_of_first c }; finished = Some (first_finish c (clock + units_of_first c)) }))
