-- Units. An accepted job that has had fewer units than its cost and was not ended early is a pending one, and conversely. So a sum over the unfinished accepted
-- jobs is the same sum over the pending ones. (1.7, 6.29)
use Prim.Native.Nat.{ℕ, ◌+◌, ◌≤◌}
use mathlib.Core.Path.{◌≡◌, refl, sym, ap, subst, ◌∙◌}
use mathlib.Core.Logic.{◌≢◌}
use mathlib.Core.Bool.{Bool, true, false, not}
use mathlib.Core.List.Memᴰ
use mathlib.Core.List.{List, [], ◌∷◌, Memᴰ}
use native.Mathlib.Omega.{arith}
use lib.Dec.{eqb, ltb}
use borrow.Author.Tests.{ltb-true, ltb-false, lt-ltb, eq-eqb, ne_eqb, eqb-false, not-true}
use Rattle.kinds.proofs.Apart.{impossible}
use Rattle.theory.specs.Lists.{All, total, weight_if}
use Rattle.theory.specs.Jobs.{Job, named, weighed}
use Rattle.theory.specs.Trace.{Waiting, Accounted, Fate, waits, over, served, ended}
use Rattle.theory.proofs.Cases.{by_eq, by_test}
use Rattle.theory.proofs.Lists.{all_of, all_of_members, all_at, total-plus, total_zero, weight_if_lem, weight_unless, none_passes, the_only_one}
use Rattle.theory.proofs.Jobs.{at_most_one_named, one_job_a_name}
use Rattle.theory.proofs.Trace.{every_job_has_its_fate, waiting_are_accounted, never_more_than_its_cost}
use Rattle.table.specs.declared.Table.{Table}
use Rattle.table.proofs.Ranges.{both_true}
use Rattle.jobs.specs.declared.Job.{Job as PendingJob}
use Rattle.jobs.specs.Places.{jobs_of}
use Rattle.jobs.specs.Serials.{has_not, distinct_serials}
use Rattle.jobs.proofs.Changes.{distinct_means}
use Rattle.run.specs.declared.Run.{Run}
use Rattle.run.specs.Sound.{Sound}
use Rattle.run.proofs.Ticking.{facts}
use Rattle.promise.specs.Traces.{Event, jobs_of_trace, ticks_of, units_of, was_ended, unfinished}
use Rattle.promise.specs.Link.{job_of, waiting_of, waiting_in, left_early}
use Rattle.promise.proofs.RunAndTrace.{Bridge}
use Rattle.promise.proofs.Ended.{left_early_was_ended, pending_not_ended}

-- ---- sums

-- A sum of sums can be taken in either order.
sums_either_way : {A B : Type 0} (f : A → B → ℕ) (l : List A) (m : List B) → total (λ a. total (f a) m) l ≡ total (λ b. total (λ a. f a b) l) m
unfolding total
sums_either_way f [] m = sym (total_zero (λ b. 0) m (all_of (λ b. refl) m))
sums_either_way f (a ∷ l) m = omega (arith, sums_either_way f l m, total-plus (f a) (λ b. total (λ c. f c b) l) m)

-- Where each member weighs the same by v and by w, the sums are the same.
pub total_same : {A : Type 0} (v w : A → ℕ) (l : List A) → All (λ a. v a ≡ w a) l → total v l ≡ total w l
unfolding total
total_same v w [] h = refl
total_same v w (a ∷ l) h = omega (arith, total_same v w l h.1)

-- ---- pending jobs

-- Where no pending job has the serial s, none passes the test for it.
none_of_a_serial : (s : ℕ) (ps : List PendingJob) → has_not s ps ≡ true → All (λ p. eqb s p.serial.0 ≡ false) ps
none_of_a_serial s [] h = tt
none_of_a_serial s (p ∷ ps) h =
    let apart = both_true (not (eqb p.serial.0 s)) (has_not s ps) h in
    (ne_eqb s p.serial.0 (λ e. eqb-false p.serial.0 s (not-true (eqb p.serial.0 s) apart.0) (sym e)), none_of_a_serial s ps apart.1)

-- Of pending jobs with distinct serials at most one has the serial s.
at_most_one_pending : (s : ℕ) (ps : List PendingJob) → distinct_serials ps ≡ true → total (weight_if (λ p. eqb s p.serial.0) (λ _. 1)) ps ≤ 1
unfolding total
at_most_one_pending s [] h = omega arith
at_most_one_pending s (p ∷ ps) h =
    let apart = both_true (has_not p.serial.0 ps) (distinct_serials ps) h in
    let has_it : PendingJob → Bool = λ q. eqb s q.serial.0 in
    by_eq s p.serial.0
    (λ e.
    let others = none_passes has_it (λ _. 1) ps (rw (← e) at (none_of_a_serial p.serial.0 ps apart.0)) in
    omega (arith, weight_if_lem has_it (λ _. 1) p (eq-eqb s p.serial.0 e), others))
    (λ e. omega (arith, weight_unless has_it (λ _. 1) p (ne_eqb s p.serial.0 e), at_most_one_pending s ps apart.1))

-- ---- what waits is unfinished

-- A pending job was accepted, and has had its cost in units except for those that it has left, which are at least one.
pub record Owed (es : List Event) (p : PendingJob) : Type 0 where
  pub was_accepted : Memᴰ (job_of p) (jobs_of_trace es)
  pub some_left : 1 ≤ p.left
  pub had_the_rest : units_of p.serial.0 es + p.left ≡ p.cost

-- An accepted job is pending.
pub record IsPending (run : Run) (j : Job) : Type 0 where
  pub place : PendingJob
  pub pending : Memᴰ place (jobs_of run.pending)
  pub its_own : job_of place ≡ j

module _ {t : Table} {run : Run} {es : List Event} (b : Bridge t run es) where
  -- The facts of a sound run hold at every point.
  pub sound_facts : Sound run
  sound_facts = facts run (b.sound, b.whole)

  -- No accepted job has had more than its cost.
  pub never_more_units : (j : Job) → Memᴰ j (jobs_of_trace es) → units_of j.name es ≤ j.cost
  never_more_units j m =
      all_at (λ (i : Job). units_of i.name es ≤ i.cost) (never_more_than_its_cost b.follows.events b.distinct) m

  -- Every pending job was accepted and has units left.
  pub pending_is_owed : (p : PendingJob) → Memᴰ p (jobs_of run.pending) → Owed es p
  pending_is_owed p m =
      let a = all_at (Accounted (jobs_of_trace es) (ticks_of es)) (waiting_are_accounted b.follows.events b.distinct) (Memᴰ.map waiting_of m) in
      record { was_accepted = a.was_accepted; some_left = a.some_left; had_the_rest = a.had_the_rest }

  -- A pending job is unfinished.
  pub pending_is_unfinished : (p : PendingJob) → Memᴰ p (jobs_of run.pending) → unfinished es (job_of p) ≡ true
  pending_is_unfinished p m = let o = pending_is_owed p m in rw (pending_not_ended b p m) (lt-ltb (units_of p.serial.0 es) p.cost (omega arith))

  -- An unfinished accepted job is pending.
  pub unfinished_is_pending : (j : Job) → Memᴰ j (jobs_of_trace es) → unfinished es j ≡ true → IsPending run j
  unfinished_is_pending j m h = by_fate (all_at _ (every_job_has_its_fate b.follows.events b.distinct) m)
    where
      -- The job was not ended, and has had fewer units than its cost.
      parts : (not (was_ended es j) ≡ true) × (ltb (units_of j.name es) j.cost ≡ true)
      parts = both_true (not (was_ended es j)) (ltb (units_of j.name es) j.cost) h

      by_fate : Fate j (waiting_in run) (ticks_of es) (left_early es) → IsPending run j
      by_fate (waits u) =
          let found = Memᴰ.of_map waiting_of (jobs_of run.pending) u.among in
          record { place = found.0; pending = found.1; its_own = ap (λ (w : Waiting). w.job) found.2 }
      by_fate (over (served e)) = absurd (omega (arith, e, ltb-true (units_of j.name es) j.cost parts.1))
      by_fate (over (ended u)) =
          let gone : was_ended es j ≡ true = left_early_was_ended b j u.left u.among in
          let stays : was_ended es j ≡ false = not-true (was_ended es j) parts.0 in
          impossible cc

  -- An accepted job that is not unfinished and was not ended has had exactly its cost.
  pub finished_had_its_cost : (j : Job) → Memᴰ j (jobs_of_trace es) → was_ended es j ≡ false → unfinished es j ≡ false → units_of j.name es ≡ j.cost
  finished_had_its_cost j m stays h = omega (arith, never_more_units j m, ltb-false (units_of j.name es) j.cost (rw stays at h))

  -- ---- sums over the unfinished

  -- The pending jobs have distinct serials.
  serials_apart : distinct_serials (jobs_of run.pending) ≡ true
  serials_apart = (distinct_means (jobs_of run.pending)).1 sound_facts.apart

  -- No pending job has the serial of a finished one.
  not_its : (j : Job) → Memᴰ j (jobs_of_trace es) → unfinished es j ≡ false → (p : PendingJob) → Memᴰ p (jobs_of run.pending) → j.name ≢ p.serial.0
  not_its j m h p k e =
      let same : job_of p ≡ j = one_job_a_name b.distinct (pending_is_owed p k).was_accepted m (sym e) in
      let open_still : unfinished es j ≡ true = subst (λ i. unfinished es i ≡ true) same (pending_is_unfinished p k) in
      impossible cc

  module _ (w : Job → ℕ) where
    -- `shared` is the weight of an accepted job where the pending job has its serial, and else 0.
    abbrev shared : Job → PendingJob → ℕ
    shared j p = weight_if (λ q. eqb j.name q.serial.0) (λ _. w j) p

    -- Summed over the pending jobs, an accepted job weighs its weight where it is unfinished, and else nothing.
    weight_of_accepted : (j : Job) → Memᴰ j (jobs_of_trace es) → weight_if (unfinished es) w j ≡ total (shared j) (jobs_of run.pending)
    weight_of_accepted j m =
        let its : PendingJob → Bool = λ p. eqb j.name p.serial.0 in
        by_test (unfinished es j)
        (λ h.
        let found = unfinished_is_pending j m h in
        let same : j.name ≡ found.place.serial.0 = ap (λ (i : Job). i.name) (sym found.its_own) in
        let one = at_most_one_pending j.name (jobs_of run.pending) serials_apart in
        weight_if_lem (unfinished es) w j h ∙ sym (the_only_one its (λ _. w j) one found.pending (eq-eqb j.name found.place.serial.0 same)))
        (λ h. weight_unless (unfinished es) w j h ∙ sym (none_passes its (λ _. w j) (jobs_of run.pending)
        (all_of_members (jobs_of run.pending) (λ p k. ne_eqb j.name p.serial.0 (not_its j m h p k)))))

    -- Summed over the accepted jobs, a pending job weighs its weight.
    weight_of_pending : (p : PendingJob) → Memᴰ p (jobs_of run.pending) → total (λ j. shared j p) (jobs_of_trace es) ≡ w (job_of p)
    unfolding weighed
    weight_of_pending p m =
        the_only_one (named p.serial.0) w (at_most_one_named p.serial.0 (jobs_of_trace es) b.distinct) (pending_is_owed p m).was_accepted
        (eq-eqb p.serial.0 p.serial.0 refl)

    -- The unfinished accepted jobs weigh as much as the pending ones.
    pub unfinished_weigh_as_pending : total (weight_if (unfinished es) w) (jobs_of_trace es) ≡ total (λ p. w (job_of p)) (jobs_of run.pending)
    unfinished_weigh_as_pending =
        total_same _ _ (jobs_of_trace es) (all_of_members (jobs_of_trace es) weight_of_accepted)
        ∙ sums_either_way shared (jobs_of_trace es) (jobs_of run.pending)
        ∙ total_same _ _ (jobs_of run.pending) (all_of_members (jobs_of run.pending) weight_of_pending)
