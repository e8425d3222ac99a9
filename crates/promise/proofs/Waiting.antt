-- Waiting jobs: the pending jobs in the theory's terms, and the theory's trace one event longer. A job that is put in comes last. A job that gets a unit leaves
-- its place, or goes back to it with one unit less to get. In a taken tick every job stays where it is. A job that is ended leaves its place and stands among
-- the jobs that left early. (6.5, 6.7, 6.10, 6.13, 6.27)
use Prim.Native.Nat.{ℕ, zero, suc, ◌-◌, ◌≤◌, ◌<◌, suc-le-suc}
use mathlib.Core.Path.{◌≡◌, refl, sym, subst}
use mathlib.Core.Bool.{Bool, true, false}
use mathlib.Core.Option.{Option}
use mathlib.Core.List.{List, [], ◌∷◌, ◌++◌, map, map-append, Memᴰ}
use native.Mathlib.Nat.{not-suc-le-zero, le_of_suc-le-suc}
use native.Mathlib.Omega.{arith}
use native.Mathlib.Decide.{dec_le}
use lib.ListN.{length, set, get_or}
use borrow.Author.Tests.{le-leb, lt-leb}
use Rattle.kinds.specs.declared.Tick.{Tick}
use Rattle.theory.specs.Lists.{All, Insert, here, there}
use Rattle.theory.specs.Jobs.{Job}
use Rattle.theory.specs.Trace.{Waiting, Onward, done, on, Trace, accept, lost, serve, leave, ServesEarliestDue, NeverIdlesInVain}
use Rattle.theory.specs.Trace as theory
use Rattle.jobs.specs.declared.Job.{Job as PendingJob}
use Rattle.jobs.specs.declared.Pending.{Pending}
use Rattle.jobs.specs.Places.{no_job, jobs_of, without}
use Rattle.jobs.specs.Units.{worked}
use Rattle.jobs.specs.JobChanges.{IsFirst, unit_at}
use Rattle.run.specs.declared.Run.{Run}
use Rattle.run.specs.Release.{new_job, with_job}
use Rattle.run.specs.Ticking.{run_with}
use Rattle.run.specs.Ending.{with_ended}
use Rattle.run.specs.Answers.{accepted, idle, ran, taken, ended_with}
use Rattle.run.specs.Answers as says
use Rattle.promise.specs.Traces.{Event, told, clock_of}
use Rattle.promise.specs.Link.{waiting_of, waiting_in, taken_on, left_early, Follows}

-- ---- an element and its place

module _ {A : Type 0} where
  -- A list with an element behind it is the list with that element put in.
  insert_last : (a : A) (l : List A) → Insert a l (l ++ (a ∷ []))
  insert_last a [] = here
  insert_last a (b ∷ l) = there (insert_last a l)

  -- The element at a place is put into the list without it.
  insert_at : (d : A) (l : List A) (i : ℕ) → i < length l → Insert (get_or l i d) (without l i) l
  insert_at d [] i h = absurd (not-suc-le-zero h)
  insert_at d (a ∷ l) zero h = here
  insert_at d (a ∷ l) (suc i) h = there (insert_at d l i (le_of_suc-le-suc h))

  -- The element at a place stands in the list.
  pub member_at : (d : A) (l : List A) (i : ℕ) → i < length l → Memᴰ (get_or l i d) l
  member_at d [] i h = absurd (not-suc-le-zero h)
  member_at d (a ∷ l) zero h = Memᴰ.head refl
  member_at d (a ∷ l) (suc i) h = Memᴰ.tail (member_at d l i (le_of_suc-le-suc h))

  -- An element that replaces the one at a place is put into the list without that one.
  Insert-set : (a : A) (l : List A) (i : ℕ) → i < length l → Insert a (without l i) (set l i a)
  Insert-set a [] i h = absurd (not-suc-le-zero h)
  Insert-set a (b ∷ l) zero h = here
  Insert-set a (b ∷ l) (suc i) h = there (Insert-set a l i (le_of_suc-le-suc h))

  -- What holds at every place of a list holds for every element.
  all_of_places : (P : A → Type 0) (d : A) (l : List A) → ((i : ℕ) → i < length l → P (get_or l i d)) → All P l
  all_of_places P d [] f = tt
  all_of_places P d (a ∷ l) f = (f 0 (omega arith), all_of_places P d l (λ i h. f (suc i) (suc-le-suc h)))

module _ {A B : Type 0} (f : A → B) where
  -- An element that is put into a list is put in after both are mapped.
  Insert-map : {a : A} {l m : List A} → Insert a l m → Insert (f a) (map f l) (map f m)
  Insert-map here = here
  Insert-map (there i) = there (Insert-map i)

  -- What holds for the image of every element holds for every element of the mapped list.
  All-map : (P : B → Type 0) (l : List A) → All (λ a. P (f a)) l → All P (map f l)
  All-map P [] h = tt
  All-map P (a ∷ l) h = (h.0, All-map P l h.1)

-- ---- what waits

-- A pending job that is put in comes last among the jobs that wait.
waits_last : (js : List PendingJob) (j : PendingJob) → Insert (waiting_of j) (map waiting_of js) (map waiting_of (js ++ (j ∷ [])))
waits_last js j = rw map-append (insert_last (waiting_of j) (map waiting_of js))

-- A job that has units left after it got one waits on.
waits_on : {j : Job} {rest after : List Waiting} (left : ℕ) → 1 ≤ left → Insert (record { job = j; left = left }) rest after → Onward j left rest after
waits_on zero h put = absurd (not-suc-le-zero h)
waits_on (suc left) h put = on put

-- In this module the job at a place gets a unit.
module _ (js : List PendingJob) (at : ℕ) where
  -- `its` is the job at the place.
  abbrev its : PendingJob
  its = get_or js at no_job

  -- `left` is the units that the job has left after this unit.
  abbrev left : ℕ
  left = its.left - 1

  module _ (inside : at < length js) (some_left : 1 ≤ its.left) where
    -- The job waited among the rest.
    waited : Insert (record { job = (waiting_of its).job; left = suc left }) (map waiting_of (without js at)) (map waiting_of js)
    waited = let q : suc left ≡ its.left = omega arith in rw q (Insert-map waiting_of (insert_at no_job js at inside))

    -- The job is gone after its last unit, and else it waits on.
    onward : Onward (waiting_of its).job left (map waiting_of (without js at)) (map waiting_of (unit_at js at))
    onward = elim (dec_le its.left 1) [
      | yes l ↦ let q : left ≡ 0 = omega arith in rw (le-leb its.left 1 l, q) done
      | no l ↦
          rw (lt-leb its.left 1 (omega arith)) (waits_on left (omega arith) (Insert-map waiting_of (Insert-set (worked its) js at inside)))
    ]

  -- Where the job comes after none of the others, it is due no later than any job that waited.
  due_first : IsFirst js at → All (λ w. its.due.0 ≤ w.job.due) (map waiting_of js)
  due_first first =
      All-map waiting_of (λ w. its.due.0 ≤ w.job.due) js (all_of_places (λ j. its.due.0 ≤ j.due.0) no_job js (λ i h. (first.first i h).due))

-- ---- the theory's trace, one event longer

-- A trace that follows the rules of choice is one with any list of leavers that is equal to its own.
same_leavers : {takes : ℕ → Bool} {t : ℕ} {waiting : List Waiting} {jobs : List Job} {ticks : List (Option ℕ)} {l m : List Waiting}
    → l ≡ m → (r : Trace takes t waiting jobs ticks l) → ServesEarliestDue r → NeverIdlesInVain r
    → (q : Trace takes t waiting jobs ticks m) × ServesEarliestDue q × NeverIdlesInVain q
same_leavers {takes = takes} {t = t} {waiting = waiting} {jobs = jobs} {ticks = ticks} same r earliest busy =
    subst (λ k. (q : Trace takes t waiting jobs ticks k) × ServesEarliestDue q × NeverIdlesInVain q) same (r, earliest, busy)

module _ {run : Run} {es : List Event} (f : Follows run es) where
  -- A refused release is no event of the theory's trace.
  pub follows_refused_release : (row cost number place : ℕ) → Follows run (Event.release row cost (says.ReleaseSays.refused number place) ∷ es)
  unfolding told
  follows_refused_release row cost number place = record { events = f.events; earliest_due = f.earliest_due; never_idle = f.never_idle }

  -- A refused tick is no event of the theory's trace.
  pub follows_refused_tick : (number place late : ℕ) → Follows run (Event.tick (says.TickSays.refused number place) late ∷ es)
  unfolding told
  follows_refused_tick number place late = record { events = f.events; earliest_due = f.earliest_due; never_idle = f.never_idle }

  -- A refused end is no event of the theory's trace.
  pub follows_refused_end : (serial number place : ℕ) → Follows run (Event.end serial (says.EndingSays.refused number place) ∷ es)
  unfolding told
  follows_refused_end serial number place = record { events = f.events; earliest_due = f.earliest_due; never_idle = f.never_idle }

  -- The job at a place that is ended waits no more. It stands in front of the jobs that left early before it.
  pub follows_ended : (serial units at : ℕ) → at < length (jobs_of run.pending)
      → jobs_of (with_ended run at).pending ≡ without (jobs_of run.pending) at
      → left_early (Event.end serial (ended_with units) ∷ es) ≡ waiting_of (get_or (jobs_of run.pending) at no_job) ∷ left_early es
      → Follows (with_ended run at) (Event.end serial (ended_with units) ∷ es)
  unfolding told ServesEarliestDue NeverIdlesInVain
  follows_ended serial units at inside others leavers =
      let js = jobs_of run.pending in
      let gone : Insert (waiting_of (get_or js at no_job)) (waiting_in (with_ended run at)) (waiting_in run) =
      rw others (Insert-map waiting_of (insert_at no_job js at inside)) in
      let longer = same_leavers (sym leavers) (leave f.events (waiting_of (get_or js at no_job)) gone) f.earliest_due f.never_idle in
      record { events = longer.0; earliest_due = longer.1; never_idle = longer.2 }

  -- An accepted job is put behind the pending jobs, released at the clock, with all of its cost left. The jobs that left early are those that had left before.
  pub follows_accepted : (row cost : ℕ) (due : Tick) → 1 ≤ cost → run.clock.0 ≡ clock_of es
      → jobs_of (with_job run row cost due).pending ≡ jobs_of run.pending ++ (new_job run row cost due ∷ [])
      → left_early (Event.release row cost (accepted run.next.0 due.0) ∷ es) ≡ left_early es
      → Follows (with_job run row cost due) (Event.release row cost (accepted run.next.0 due.0) ∷ es)
  unfolding told ServesEarliestDue NeverIdlesInVain
  follows_accepted row cost due some_cost clock jobs leavers =
      let job : Job = record { name = run.next.0; source = row; release = clock_of es; due = due.0; cost = cost } in
      let put : Insert (record { job = job; left = cost }) (waiting_in run) (waiting_in (with_job run row cost due)) =
      rw (jobs, ← clock) (waits_last (jobs_of run.pending) (new_job run row cost due)) in
      let longer = same_leavers (sym leavers) (accept f.events job refl some_cost put) f.earliest_due f.never_idle in
      record { events = longer.0; earliest_due = longer.1; never_idle = longer.2 }

  module _ (clock late : ℕ) where
    -- A tick that the timer takes is lost, and what waits waits on.
    pub follows_taken : taken_on run.table (clock_of es) ≡ true → Follows (run_with run clock run.pending) (Event.tick taken late ∷ es)
    unfolding told ServesEarliestDue NeverIdlesInVain
    follows_taken takes = record { events = lost f.events takes; earliest_due = f.earliest_due; never_idle = f.never_idle }

    module _ (free : taken_on run.table (clock_of es) ≡ false) where
      -- A free tick idles where nothing waits.
      pub follows_idle : waiting_in run ≡ [] → Follows (run_with run clock run.pending) (Event.tick idle late ∷ es)
      unfolding told ServesEarliestDue NeverIdlesInVain
      follows_idle none = record { events = theory.Trace.idle f.events free; earliest_due = f.earliest_due; never_idle = (none, f.never_idle) }

      -- A free tick goes to the job at a place that comes after none of the others.
      pub follows_ran : (p : Pending) (at : ℕ) (finished : Bool) → IsFirst (jobs_of run.pending) at → 1 ≤ (get_or (jobs_of run.pending) at no_job).left
          → jobs_of p ≡ unit_at (jobs_of run.pending) at
          → Follows (run_with run clock p) (Event.tick (ran (get_or (jobs_of run.pending) at no_job).serial.0 finished) late ∷ es)
      unfolding told ServesEarliestDue NeverIdlesInVain
      follows_ran p at finished first some_left jobs =
          let js = jobs_of run.pending in
          let goes : Onward (waiting_of (its js at)).job (left js at) (map waiting_of (without js at)) (map waiting_of (jobs_of p)) =
          rw jobs (onward js at first.inside some_left) in
          record {
            events = serve f.events free (waiting_of (its js at)).job (left js at) (waited js at first.inside some_left) goes;
            earliest_due = (due_first js at first, f.earliest_due);
            never_idle = f.never_idle;
          }
