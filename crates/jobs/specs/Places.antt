-- The places of pending jobs: which of them are in use, how a job is put in, and how one is taken out. (docs/RULES.md, section 6.)
use Rattle.std.specs.Prelude.{ℕ, zero, suc, ◌+◌, ◌-◌, cond, List, [], ◌∷◌, ◌++◌, ltb, length, take, drop, set, get_or, replicate, Some, None, Ok, Err}
use Rattle.kinds.specs.declared.Refusal.TheVariants.{PlacesFull}
use Rattle.jobs.specs.declared.Job.{Job}
use Rattle.jobs.specs.declared.Pending.{Pending}
use Rattle.jobs.specs.declared.PutStep.{PutStep}
use Rattle.jobs.specs.declared.TakeStep.{TakeStep}

-- At most so many jobs are pending: the limit of pending jobs. (6.2)
abbrev pub max_places : ℕ
max_places = 256

-- An unused place holds zeros. (6.13)
abbrev pub no_job : Job
no_job = record { serial = record { 0 = 0 }; row = record { 0 = 0 }; release = record { 0 = 0 }; due = record { 0 = 0 }; cost = 0; left = 0 }

-- No job is pending, and every place holds zeros. (6.3)
abbrev pub empty_pending : Pending
empty_pending = record { places = replicate max_places no_job; count = 0 }

-- The pending jobs are those in the first `count` places, in that order. (6.1)
abbrev pub jobs_of : Pending → List Job
jobs_of p = take p.count p.places

-- `used` is the number of pending jobs, which is the number of places in use. (6.1)
abbrev pub used : Pending → ℕ
used p = length (jobs_of p)

-- `without` leaves out what stands at a place of a list, and all that comes later moves down by one place. (6.13)
abbrev pub without : {A : Type 0} → List A → ℕ → List A
without [] i = []
without (a ∷ l) zero = l
without (a ∷ l) (suc i) = a ∷ without l i

-- A job is put into the first unused place. If there is none, nothing changes. (6.7)
unfoldable pub put : Pending → Job → Pending
put p j = cond (ltb p.count max_places) (record { places = set p.places p.count j; count = p.count + 1 }) p

-- A job is put in if a place is unused, and otherwise that is refusal 8. (6.7, 6.8)
unfoldable pub put_step : Pending → Job → PutStep
put_step p j = record { pending = put p j; answer = cond (ltb p.count max_places) (Ok tt) (Err PlacesFull) }

-- The job at a place is taken out. The jobs in later places move down one place, and the place that this frees holds zeros. If nobody is pending at the place,
-- nothing changes. (6.13)
unfoldable pub taken_out : Pending → (at : ℕ) → Pending
taken_out p at =
    cond (ltb at (used p))
    (record { places = without (jobs_of p) at ++ (no_job ∷ drop (used p) p.places); count = used p - 1 })
    p

-- Taking a job out answers that job, or that nobody is pending at the place. (6.13, 10.7)
unfoldable pub take_step : Pending → (at : ℕ) → TakeStep
take_step p at =
    record { pending = taken_out p at; answer = cond (ltb at (used p)) (Some (get_or p.places at no_job)) None }
