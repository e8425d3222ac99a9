-- Ended jobs. A job that was ended early was accepted, has had exactly the units that the end answered, and is not pending. An accepted job takes the serial of
-- no ended one. All of this follows from the theory's account of the jobs that left early. (6.27, 6.29)
use Prim.Native.Nat.{ℕ, ◌+◌, ◌-◌, ◌≤◌, ◌<◌}
use mathlib.Core.Path.{◌≡◌, refl, sym, ap, ◌∙◌}
use mathlib.Core.Logic.{◌≢◌}
use mathlib.Core.Bool.{Bool, true, false}
use mathlib.Core.List.Memᴰ
use mathlib.Core.List.{List, [], ◌∷◌, map, Memᴰ}
use native.Mathlib.Omega.{arith}
use lib.Dec.{eqb}
use lib.ListN.{length}
use borrow.Author.Tests.{eq-eqb, ne_eqb}
use Rattle.kinds.proofs.Apart.{impossible}
use Rattle.theory.specs.Lists.{All}
use Rattle.theory.specs.Jobs.{Job, DistinctNames, named}
use Rattle.theory.specs.Trace.{Waiting, Accounted, units_left}
use Rattle.theory.proofs.Cases.{by_eq, by_test}
use Rattle.theory.proofs.Lists.{all_at, taken_out}
use Rattle.theory.proofs.Jobs.{own_cost}
use Rattle.theory.proofs.Trace.{units_left_put_in, conserved, waiting_are_accounted, left_early_are_accounted}
use Rattle.table.specs.declared.Table.{Table}
use Rattle.jobs.specs.declared.Job.{Job as PendingJob}
use Rattle.jobs.specs.Places.{jobs_of}
use Rattle.run.specs.declared.Run.{Run}
use Rattle.promise.specs.Traces.{Event, EndedJob, job_of_serial, jobs_of_trace, ticks_of, units_of, ended_in, is_among_ended, was_ended}
use Rattle.promise.specs.Link.{job_of, waiting_of, waiting_in, left_early}
use Rattle.promise.specs.InTime.{EndedWith}
use Rattle.promise.proofs.RunAndTrace.{Bridge}

-- ---- the job with a serial

-- A job that is found for a serial and costs something has that serial, and stands in the list.
pub found_has_it : (s : ℕ) (js : List Job) → 1 ≤ (job_of_serial s js).cost → ((job_of_serial s js).name ≡ s) × Memᴰ (job_of_serial s js) js
found_has_it s [] = λ h. absurd (omega arith)
found_has_it s (j ∷ js) = by_eq j.name s
    (λ e. rw (eq-eqb j.name s e) (λ h. (e, Memᴰ.head refl)))
    (λ n. rw (ne_eqb j.name s n) (λ h. let rest = found_has_it s js h in (rest.0, Memᴰ.tail rest.1)))

-- Where names are distinct, the job with a serial is the one that is found for it.
pub finds_the_job : {j : Job} {js : List Job} → DistinctNames js → Memᴰ j js → job_of_serial j.name js ≡ j
finds_the_job {j = j} {js = []} apart none = elim none [ ]
finds_the_job {j = j} {js = i ∷ js} apart (Memᴰ.head e) = rw (eq-eqb i.name j.name (sym (ap (λ (k : Job). k.name) e))) (sym e)
finds_the_job {j = j} {js = i ∷ js} apart (Memᴰ.tail m) =
    let other = all_at (λ (k : Job). k.name ≢ i.name) apart.0 m in
    rw (ne_eqb i.name j.name (λ e. other (sym e))) (finds_the_job apart.1 m)

-- ---- among the ended jobs

-- Where a serial is among the ended jobs, one of them has it.
pub among_means : (s : ℕ) (l : List EndedJob) → is_among_ended s l ≡ true → (e : EndedJob) × Memᴰ e l × (e.serial ≡ s)
among_means s [] = λ h. impossible cc
among_means s (e ∷ l) = by_eq e.serial s
    (λ q h. (e, Memᴰ.head refl, q))
    (λ n. rw (ne_eqb e.serial s n) (λ h. let rest = among_means s l h in (rest.0, Memᴰ.tail rest.1, rest.2)))

-- The serial of one of the ended jobs is among them.
pub is_among : {e : EndedJob} {l : List EndedJob} (s : ℕ) → Memᴰ e l → e.serial ≡ s → is_among_ended s l ≡ true
is_among {e = e} {l = []} s none h = elim none [ ]
is_among {e = e} {l = d ∷ l} s (Memᴰ.head q) h = let same : d.serial ≡ s = sym (ap (λ (k : EndedJob). k.serial) q) ∙ h in rw (eq-eqb d.serial s same)
is_among {e = e} {l = d ∷ l} s (Memᴰ.tail m) h = by_test (eqb d.serial s) (λ q. rw q) (λ q. rw q (is_among s m h))

-- ---- what is known at one point

-- A job among those that wait or left early, of a kind, has no more units left than all of that kind together.
left_at_most : (kind : Job → Bool) (w : Waiting) (ws : List Waiting) → Memᴰ w ws → kind w.job ≡ true → w.left ≤ units_left kind ws
left_at_most kind w ws m is =
    let rest = taken_out m in
    let all : units_left kind ws ≡ w.left + units_left kind rest.0 = rw is at (units_left_put_in kind rest.1) in
    omega arith

module _ {t : Table} {run : Run} {es : List Event} (b : Bridge t run es) where
  -- `leaver` is an ended job in the theory's terms.
  abbrev leaver : EndedJob → Waiting
  leaver e = let j = job_of_serial e.serial (jobs_of_trace es) in record { job = j; left = j.cost - e.units }

  -- An ended job is accounted for as one that left early.
  accounted : (e : EndedJob) → Memᴰ e (ended_in es) → Accounted (jobs_of_trace es) (ticks_of es) (leaver e)
  accounted e m = all_at (Accounted (jobs_of_trace es) (ticks_of es)) (left_early_are_accounted b.follows.events b.distinct) (Memᴰ.map leaver m)

  -- The job that is found for an ended job's serial has that serial.
  leaver_has_it : (e : EndedJob) → Memᴰ e (ended_in es) → (leaver e).job.name ≡ e.serial
  leaver_has_it e m =
      let lacks : 1 ≤ (leaver e).left = (accounted e m).some_left in
      (found_has_it e.serial (jobs_of_trace es) (omega arith)).0

  -- An ended job was accepted, has had what the end answered, and less than its cost.
  pub ended_is_known : (e : EndedJob) → Memᴰ e (ended_in es) → EndedWith es e
  ended_is_known e m =
      let a = accounted e m in
      let j = job_of_serial e.serial (jobs_of_trace es) in
      let lacks : 1 ≤ j.cost - e.units = a.some_left in
      let its : j.name ≡ e.serial = leaver_has_it e m in
      let had : units_of j.name es ≡ e.units = omega (arith, a.had_the_rest) in
      record { job = j; was_accepted = a.was_accepted; its_serial = its; had_these = rw its at had; not_all = omega arith }

  -- An ended job's serial was given out.
  pub ended_below : (e : EndedJob) → Memᴰ e (ended_in es) → e.serial < length (jobs_of_trace es)
  ended_below e m =
      let known = ended_is_known e m in
      omega (arith, all_at (λ (j : Job). j.name < length (jobs_of_trace es)) b.names_below known.was_accepted, known.its_serial)

  -- A job that left early was ended.
  pub left_early_was_ended : (j : Job) (left : ℕ) → Memᴰ (record { job = j; left = left }) (left_early es) → was_ended es j ≡ true
  left_early_was_ended j left m =
      let found = Memᴰ.of_map leaver (ended_in es) m in
      let same : (leaver found.0).job.name ≡ j.name = ap (λ (w : Waiting). w.job.name) found.2 in
      is_among j.name found.1 (sym (leaver_has_it found.0 found.1) ∙ same)

  -- A pending job was not ended.
  pub pending_not_ended : (p : PendingJob) → Memᴰ p (jobs_of run.pending) → was_ended es (job_of p) ≡ false
  pending_not_ended p m = by_test (was_ended es (job_of p))
      (λ h.
      let n = p.serial.0 in
      let found = among_means n (ended_in es) h in
      let e = found.0 in
      let waits = all_at (Accounted (jobs_of_trace es) (ticks_of es)) (waiting_are_accounted b.follows.events b.distinct) (Memᴰ.map waiting_of m) in
      let left = accounted e found.1 in
      let its : (leaver e).job.name ≡ n = leaver_has_it e found.1 ∙ found.2 in
      let waiting_left : p.left ≤ units_left (named n) (waiting_in run) =
      left_at_most (named n) (waiting_of p) (waiting_in run) (Memᴰ.map waiting_of m) (eq-eqb n n refl) in
      let gone_left : (leaver e).left ≤ units_left (named n) (left_early es) =
      left_at_most (named n) (leaver e) (left_early es) (Memᴰ.map leaver found.1) (eq-eqb (leaver e).job.name n its) in
      let its_cost = own_cost (jobs_of_trace es) b.distinct waits.was_accepted in
      absurd (omega (arith, conserved b.follows.events n, its_cost, waits.had_the_rest, left.some_left)))
      (λ h. h)

  -- The jobs that left early are the same after a job with the next serial was accepted.
  pub leavers_stay : (j : Job) → j.name ≡ length (jobs_of_trace es) → (l : List EndedJob) → All (λ e. e.serial < length (jobs_of_trace es)) l
      → map (λ (e : EndedJob). let i = job_of_serial e.serial (j ∷ jobs_of_trace es) in record { job = i; left = i.cost - e.units }) l ≡ map leaver l
  leavers_stay j next [] h = refl
  leavers_stay j next (e ∷ l) h = rw (ne_eqb j.name e.serial (λ q. omega (arith, h.0)), leavers_stay j next l h.1)
