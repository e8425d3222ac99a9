-- Each answer of a release follows from the tests that lead to it. A refused release changes nothing. An accepted one adds a sound job with a serial above all
-- others, and keeps a due time of at most 2^40. (docs/RULES.md, sections 6.6 to 6.9 and 6.25.)
use Rattle.std.specs.Prelude.{Option, Result, Ok, Err}
use Prim.Native.Nat.{ℕ, ◌+◌, ◌-◌, ◌≤◌, ◌<◌}
use mathlib.Core.Path.{◌≡◌, refl, sym, ap, subst, ◌∙◌}
use mathlib.Core.Logic.{◌≢◌}
use mathlib.Core.Bool.{true, false}
use mathlib.Core.List.{List, [], ◌∷◌, ◌++◌}
use native.Mathlib.Omega.{arith}
use lib.ListN.{length, take, set, get_or, length-set, get_or-replicate}
use lib.Seq.{get_or-set_same, get_or-set_other}
use borrow.Author.Tests.{leb-true, lt-ltb, le-ltb, eq-eqb, ne_eqb}
use Rattle.kinds.specs.Numbering.{max_time}
use Rattle.kinds.specs.declared.Refusal.{Refusal}
use Rattle.kinds.specs.declared.Refusal.TheVariants.{RunNotSound, PlacesFull}
use Rattle.kinds.specs.declared.Tick.{Tick}
use Rattle.kinds.proofs.Apart.{impossible}
use Rattle.theory.proofs.Cases.{by_lt, by_eq, by_test}
use Rattle.theory.specs.Servers.{server_due, last_due}
use Rattle.table.specs.declared.Row.{Row}
use Rattle.table.specs.Limits.{max_rows, max_servers}
use Rattle.table.specs.Rows.{row_in_range}
use Rattle.table.specs.Timer.{timer_in_range}
use Rattle.table.specs.Costs.{cost_limits, held_limits, limit_of, cost_answer}
use Rattle.table.proofs.CostLimits.{one_limit_for_each}
use Rattle.table.proofs.Ranges.{both_true}
use Rattle.due.specs.declared.Kept.{Kept}
use Rattle.due.specs.Kept.{nothing_kept, due_of, kept_with}
use Rattle.due.specs.OddJobs.{odd_due_of, GivenOddDue}
use Rattle.due.specs.KeptTimes.{SoundKept, GivenDue, KeepsNewest}
use Rattle.due.proofs.NewestKept.{due_given, starts_empty, keeps_on_keeping, due_is_the_papers, stays_sound, kept_sound_means as kept_means}
use Rattle.due.proofs.OddJobs.{odd_due_given}
use Rattle.jobs.specs.declared.Job.{Job}
use Rattle.jobs.specs.Places.{max_places, jobs_of, put}
use Rattle.jobs.specs.Serials.{distinct_serials}
use Rattle.jobs.specs.JobChanges.{WellFormed}
use Rattle.jobs.proofs.Serials.{one_more}
use Rattle.jobs.proofs.Changes.{put_adds_one, put_keeps_form, put_keeps_serials, distinct_means}
use Rattle.run.specs.declared.Run.{Run}
use Rattle.run.specs.declared.ReleaseStep.{ReleaseStep}
use Rattle.run.specs.Runs.{row_at, server_at, cost_limit, kept_of, last_of}
use Rattle.run.specs.Sound.{max_ended, serial_bound, allows, sound_of, SoundJob, Sound, Whole}
use Rattle.run.specs.Release.{refused_release, new_job, kept_by_release, last_by_release, with_job, at_due, due_next, released}
use Rattle.run.specs.Answers.{ReleaseSays, accepted, release_says}
use Rattle.run.specs.History.{KeepsHistory, with_due, due_by_history, GaveDue}
use Rattle.run.specs.RunLaws.{OneTestMeans, ReleaseKeepsSound, SerialsGrow, RefusedReleaseChangesNothing, FreshHasNoHistory, DueByWholeHistory}
use Rattle.run.proofs.Sound.{no_time, sound_means, allowed_means, in_use_where, limits_lent, limit_at}

-- ---- the numbers of a sound run

-- The limits that a sound run keeps, whatever its arrays hold. They keep the next serial far below what its type can hold.
pub record Bounded (run : Run) : Type 0 where
  pub few_rows : run.table.count ≤ max_rows
  pub few_servers : run.table.serving ≤ max_servers
  pub clock_in_time : run.clock.0 ≤ max_time
  pub few_pending : run.pending.count ≤ max_places
  pub few_ended : run.ended ≤ max_ended
  pub serials : run.next.0 ≤ serial_bound run

pub bounded : (run : Run) → sound_of run ≡ true → Bounded run
unfolding sound_of
bounded run e =
    let serials = both_true _ _ e in
    let rows = both_true _ _ (both_true _ _ (both_true _ _ (both_true _ _ serials.0).0).0).0 in
    let ended = both_true _ _ rows.0 in
    let places = both_true _ _ ended.0 in
    let clock = both_true _ _ places.0 in
    let serving = both_true _ _ clock.0 in
    record {
      few_rows = leb-true _ _ (both_true (timer_in_range run.table.s run.table.p) _ serving.0).1;
      few_servers = leb-true _ _ serving.1;
      clock_in_time = leb-true _ _ clock.1;
      few_pending = leb-true _ _ places.1;
      few_ended = leb-true _ _ ended.1;
      serials = leb-true _ _ serials.1;
    }

-- ---- each answer, by the tests that lead to it

module _ (run : Run) (row cost : ℕ) where
  -- What the test of the row number and the cost answers.
  abbrev pub tested : Result (Unit {0}) Refusal
  tested = cost_answer (limit_of (cost_limits run.table) row) cost

  -- A release of a run that is not sound is refused with 11.
  pub not_sound : sound_of run ≡ false → refused_release run RunNotSound ≡ released run row cost
  unfolding released
  not_sound e = simp e

  module _ (sound : sound_of run ≡ true) where
    -- A release whose row number is not in use is refused with 6, and one whose cost is 0 or above its limit with 7.
    pub not_allowed : (r : Refusal) → tested ≡ Err r → refused_release run r ≡ released run row cost
    unfolding released
    not_allowed r e = simp (sound, e)

    -- A release with every place in use is refused with 8.
    pub places_full : tested ≡ (Ok tt) → max_places ≤ run.pending.count → refused_release run PlacesFull ≡ released run row cost
    unfolding released
    places_full e h = simp (sound, e, le-ltb run.pending.count max_places h)

-- The facts about a release that none of the tests before 9 refused. That the cost is within its limit is a fact of a run that has all its places.
pub record Passed (run : Run) (row cost : ℕ) : Type 0 where
  pub sound : sound_of run ≡ true
  pub is_allowed : tested run row cost ≡ Ok tt
  pub in_use : row < run.table.count + run.table.serving
  pub some_cost : 1 ≤ cost
  pub allowed : Whole run → cost ≤ cost_limit run.table row
  pub room : run.pending.count < max_places

-- A release of a sound run passes the tests before 9, where its row number and cost are allowed and a place is unused.
pub passes : (run : Run) (row cost : ℕ) → sound_of run ≡ true → tested run row cost ≡ (Ok tt) → run.pending.count < max_places
    → Passed run row cost
passes run row cost sound e room =
    let ok = allowed_means (cost_limits run.table) row cost (ap allows e) in
    let in_use = in_use_where run.table row ok.0 in
    record {
      sound = sound;
      is_allowed = e;
      in_use = in_use;
      some_cost = ok.1;
      allowed = λ whole. rw (limit_at run.table (bounded run sound).few_rows whole.all_rows row in_use) at ok.2;
      room = room;
    }

-- A row number that is allowed is in use.
pub inside : (run : Run) (row cost : ℕ) → tested run row cost ≡ (Ok tt) → row < run.table.count + run.table.serving
inside run row cost e = in_use_where run.table row (allowed_means (cost_limits run.table) row cost (ap allows e)).0

-- The test of the row number and the cost as the code makes it, with a lent list of limits, answers the same.
pub tested_as : (run : Run) (row cost : ℕ) → Whole run → sound_of run ≡ true → (all : List ℕ) → all ≡ held_limits run.table
    → (l : Option ℕ) → l ≡ limit_of (take (run.table.count + run.table.serving) all) row → (a : Result (Unit {0}) Refusal) → a ≡ cost_answer l cost
    → tested run row cost ≡ a
tested_as run row cost whole sound all e l h a k =
    let few = bounded run sound in
    let same = limits_lent run.table few.few_rows whole.all_rows few.few_servers all e in
    ap (λ limits. cost_answer (limit_of limits row) cost) (sym same) ∙ ap (λ limit. cost_answer limit cost) (sym h) ∙ sym k

-- A row's job is due by the kept due times of its row.
pub due_of_row : (run : Run) (row cost : ℕ) → row < run.table.count
    → due_next run row cost ≡ due_of (kept_of run row) (row_at run.table row) run.clock.0 cost
due_of_row run row cost h = rw (lt-ltb row run.table.count h)

-- A server's job is due by the last due time of its server.
pub due_of_server : (run : Run) (row cost : ℕ) → run.table.count ≤ row
    → due_next run row cost ≡ odd_due_of (server_at run.table row) (last_of run row).0 run.clock.0 cost
due_of_server run row cost h = rw (le-ltb row run.table.count h)

-- A release that passed the tests before 9 is settled by its due time: it is accepted with it, or refused with 9.
pub due_settles : (run : Run) (row cost : ℕ) → Passed run row cost → (d : Result Tick Refusal) → due_next run row cost ≡ d
    → at_due run row cost d ≡ released run row cost
unfolding released
due_settles run row cost p d e = simp (p.sound, p.is_allowed, lt-ltb run.pending.count max_places p.room, e)

-- A property of all refused and of all accepted releases is a property of every release.
module _ (run : Run) (row cost : ℕ) (P : ReleaseStep → Type 0)
    (refused : (r : Refusal) → P (refused_release run r))
    (accepted : (t : Tick) → Passed run row cost → due_next run row cost ≡ Ok t → P (at_due run row cost (Ok t))) where
  -- The due time decides whether the release is accepted or refused with 9.
  by_due : Passed run row cost → (d : Result Tick Refusal) → due_next run row cost ≡ d → P (at_due run row cost d)
  by_due p (Ok t) e = accepted t p e
  by_due p (Err r) e = refused r

  -- A release that passed the tests before 9 is accepted or refused with 9.
  tests_passed : Passed run row cost → P (released run row cost)
  tests_passed p = subst P (due_settles run row cost p _ refl) (by_due p _ refl)

  -- A release of a sound run is refused with 6, 7 or 8, or it has passed the tests before 9.
  by_cost : sound_of run ≡ true → (a : Result (Unit {0}) Refusal) → tested run row cost ≡ a → P (released run row cost)
  by_cost sound (Ok done) e =
      by_lt run.pending.count max_places
      (λ room. tests_passed (passes run row cost sound e room))
      (λ full. subst P (places_full run row cost sound e full) (refused PlacesFull))
  by_cost sound (Err r) e = subst P (not_allowed run row cost sound r e) (refused r)

  -- Any release is refused with 11, or is a release of a sound run.
  pub each_release : P (released run row cost)
  each_release =
      by_test (sound_of run)
      (λ sound. by_cost sound _ refl)
      (λ unsound. subst P (not_sound run row cost unsound) (refused RunNotSound))

-- ---- an accepted release keeps a run sound

-- Kept due times stay sound with one more of at most 2^40: at most x are kept, and each is at most 2^40.
kept_stays_sound : (k : Kept) (r : Row) (t : Tick) → row_in_range r ≡ true → t.0 ≤ max_time → SoundKept k r.x → SoundKept (kept_with k r t) r.x
kept_stays_sound k r t fine in_time sound =
    (kept_means (kept_with k r t) r).0 (stays_sound k r t fine in_time ((kept_means k r).1 sound))

-- In this part, a job of the row number is given the due time t.
module _ (run : Run) (row cost : ℕ) (t : Tick) (given : due_next run row cost ≡ Ok t) where
  -- A row's due time is the one that the rule gives.
  row_given : row < run.table.count → GivenDue (kept_of run row) (row_at run.table row) run.clock.0 t.0
  row_given h = (due_given (kept_of run row) (row_at run.table row) run.clock.0 cost t).0 (sym (due_of_row run row cost h) ∙ given)

  -- A server's due time is the one that the rule gives.
  server_given : run.table.count ≤ row → GivenOddDue (server_at run.table row) (last_of run row).0 run.clock.0 cost t.0
  server_given h =
      (odd_due_given (server_at run.table row) (last_of run row).0 run.clock.0 cost t).0 (sym (due_of_server run row cost h) ∙ given)

  -- A due time that is given is at most 2^40.
  pub given_in_time : t.0 ≤ max_time
  given_in_time = by_lt row run.table.count (λ of_row. (row_given of_row).in_time) (λ of_server. (server_given of_server).in_time)

-- In this part, what a run keeps of due times takes in t for the row number.
module _ (run : Run) (row : ℕ) (t : Tick) where
  -- A row's due time is kept for its row.
  pub kept_by_row : row < run.table.count → kept_by_release run row t ≡ set run.kept row (kept_with (kept_of run row) (row_at run.table row) t)
  kept_by_row h = rw (lt-ltb row run.table.count h)

  -- A server's due time is kept for no row.
  pub kept_by_server : run.table.count ≤ row → kept_by_release run row t ≡ run.kept
  kept_by_server h = rw (le-ltb row run.table.count h)

  -- A row's due time leaves the last due times of the servers alone.
  pub last_by_row : row < run.table.count → last_by_release run row t ≡ run.last
  last_by_row h = rw (lt-ltb row run.table.count h)

  -- A server's due time becomes its last due time.
  pub last_by_server : run.table.count ≤ row → last_by_release run row t ≡ set run.last (row - run.table.count) t
  last_by_server h = rw (le-ltb row run.table.count h)

-- In this part, a release is accepted with the due time t.
module _ {run : Run} {row cost : ℕ} (t : Tick) (whole : Whole run) (p : Passed run row cost) (given : due_next run row cost ≡ Ok t) where
  -- The row of the new job.
  abbrev its : Row
  its = row_at run.table row

  -- The new job.
  abbrev job : Job
  job = new_job run row cost t

  -- The run after the release.
  abbrev next : Run
  next = with_job run row cost t

  -- The run before the release is sound.
  sound_before : Sound run
  sound_before = (sound_means run whole).0 p.sound

  -- The pending jobs are well formed before the release.
  well_formed : WellFormed run.pending
  well_formed = record { all_places = whole.all_places; in_places = sound_before.few_pending }

  -- The new job comes after all other pending jobs.
  jobs_after : jobs_of next.pending ≡ jobs_of run.pending ++ (job ∷ [])
  jobs_after = put_adds_one run.pending job well_formed p.room

  -- One job more is pending.
  count_after : next.pending.count ≡ run.pending.count + 1
  unfolding put
  count_after = simp (lt-ltb run.pending.count max_places p.room)

  -- The new job is sound.
  job_sound : SoundJob run.table run.clock.0 next.next.0 job
  job_sound = record {
    row_in_use = p.in_use;
    released = omega arith;
    some_cost = p.some_cost;
    cost_allowed = p.allowed whole;
    some_left = p.some_cost;
    left_of_cost = omega arith;
    due_in_time = given_in_time run row cost t given;
    serial_given = omega arith;
  }

  -- A job that was pending before is still sound.
  still_sound : (j : Job) → SoundJob run.table run.clock.0 run.next.0 j → SoundJob run.table run.clock.0 next.next.0 j
  still_sound j f = record {
    row_in_use = f.row_in_use;
    released = f.released;
    some_cost = f.some_cost;
    cost_allowed = f.cost_allowed;
    some_left = f.some_left;
    left_of_cost = f.left_of_cost;
    due_in_time = f.due_in_time;
    serial_given = omega arith;
  }

  -- No two pending jobs have the same serial, since the new job's serial is above all others.
  apart_after : distinct_serials (jobs_of next.pending) ≡ true
  apart_after =
      (put_keeps_serials run.pending job well_formed (λ i h. (sound_before.jobs i h).serial_given)).distinct
      ((distinct_means (jobs_of run.pending)).1 sound_before.apart)

  -- The kept due times have all their places.
  all_kept_after : length next.kept ≡ max_rows
  all_kept_after =
      by_lt row run.table.count
      (λ h. rw (kept_by_row run row t h) (length-set run.kept row _ ∙ whole.all_kept))
      (λ h. rw (kept_by_server run row t h) whole.all_kept)

  -- The last due times have all their places.
  all_last_after : length next.last ≡ max_servers
  all_last_after =
      by_lt row run.table.count
      (λ h. rw (last_by_row run row t h) whole.all_last)
      (λ h. rw (last_by_server run row t h) (length-set run.last (row - run.table.count) t ∙ whole.all_last))

  -- In this part, the new job is a row's.
  module _ (h : row < run.table.count) where
    -- The row of the new job has its due time kept.
    kept_here : kept_of next row ≡ kept_with (kept_of run row) its t
    kept_here = rw (kept_by_row run row t h) (get_or-set_same run.kept row _ _ (omega (arith, sound_before.few_rows, whole.all_kept)))

    -- The kept due times of the other rows stay as they were.
    kept_elsewhere : (i : ℕ) → i ≢ row → kept_of next i ≡ kept_of run i
    kept_elsewhere i n = rw (kept_by_row run row t h) (get_or-set_other run.kept row i _ _ n)

    -- The last due times of the servers stay as they were.
    last_stays : (i : ℕ) → last_of next i ≡ last_of run i
    last_stays i = rw (last_by_row run row t h)

  -- In this part, the new job is a server's.
  module _ (h : run.table.count ≤ row) where
    -- The kept due times of the rows stay as they were.
    kept_stays : (i : ℕ) → kept_of next i ≡ kept_of run i
    kept_stays i = rw (kept_by_server run row t h)

    -- The place of the server is one of the run's.
    place_there : row - run.table.count < length run.last
    place_there = omega (arith, p.in_use, sound_before.few_servers, whole.all_last)

    -- The new due time is the last due time of its server.
    last_here : last_of next row ≡ t
    last_here = rw (last_by_server run row t h) (get_or-set_same run.last (row - run.table.count) t _ place_there)

    -- The last due times of the other servers stay as they were.
    last_elsewhere : (k : ℕ) → k ≢ row - run.table.count → get_or next.last k no_time ≡ get_or run.last k no_time
    last_elsewhere k n = rw (last_by_server run row t h) (get_or-set_other run.last (row - run.table.count) k t _ n)

  -- The kept due times of every row are sound after the release.
  kept_after : (i : ℕ) → i < run.table.count → SoundKept (kept_of next i) (row_at run.table i).x
  kept_after i h =
      by_lt row run.table.count
      (λ of_row.
      let its_due = row_given run row cost t given of_row in
      by_eq i row
      (λ e. rw (e, kept_here of_row) (kept_stays_sound (kept_of run row) its t its_due.row_is_in_range its_due.in_time (sound_before.kept row of_row)))
      (λ n. rw (kept_elsewhere of_row i n) (sound_before.kept i h)))
      (λ of_server. rw (kept_stays of_server i) (sound_before.kept i h))

  -- The last due time of every server is at most 2^40 after the release.
  last_after : (k : ℕ) → k < run.table.serving → (get_or next.last k no_time).0 ≤ max_time
  last_after k h =
      by_lt row run.table.count
      (λ of_row. rw (last_by_row run row t of_row) (sound_before.last k h))
      (λ of_server.
      by_eq k (row - run.table.count)
      (λ e. rw (e, last_here of_server) (given_in_time run row cost t given))
      (λ n. rw (last_elsewhere of_server k n) (sound_before.last k h)))

  -- The arrays of the run have all their places after the release.
  whole_after : Whole next
  whole_after = record {
    all_rows = whole.all_rows;
    all_kept = all_kept_after;
    all_servers = whole.all_servers;
    all_last = all_last_after;
    all_places = (put_keeps_form run.pending job well_formed).all_places;
  }

  -- The run is sound after the release.
  sound_after : sound_of next ≡ true
  sound_after = (sound_means next whole_after).1 record {
    good_timer = sound_before.good_timer;
    few_rows = sound_before.few_rows;
    few_servers = sound_before.few_servers;
    clock_in_time = sound_before.clock_in_time;
    few_pending = (put_keeps_form run.pending job well_formed).in_places;
    few_ended = sound_before.few_ended;
    rows = sound_before.rows;
    c_within_d = sound_before.c_within_d;
    kept = kept_after;
    servers = sound_before.servers;
    last = last_after;
    jobs = rw jobs_after
        (one_more (SoundJob run.table run.clock.0 next.next.0) (jobs_of run.pending) job
        (λ i h. still_sound _ (sound_before.jobs i h)) job_sound);
    apart = (distinct_means (jobs_of next.pending)).0 apart_after;
    serials = omega (arith, count_after, sound_before.serials);
  }

  -- In this part, the run keeps a history before the release.
  module _ (history : ℕ → List ℕ) (keeps : KeepsHistory run history) where
    -- The due time is the rule's over the whole history.
    by_whole_history : t.0 ≡ due_by_history run history row cost
    by_whole_history =
        by_lt row run.table.count
        (λ of_row.
        let its_due = row_given run row cost t given of_row in
        rw (lt-ltb row run.table.count of_row)
        (sym its_due.by_rule ∙ due_is_the_papers (kept_of run row) its (history row) run.clock.0 its_due.row_is_in_range (keeps.newest row of_row)))
        (λ of_server.
        let v = server_at run.table row in
        rw (le-ltb row run.table.count of_server)
        (sym (server_given run row cost t given of_server).by_rule
        ∙ ap (λ last. server_due v.a v.b last run.clock.0 cost) (keeps.last row of_server p.in_use)))

    -- The run keeps the newest x due times of each row's history with the new one.
    newest_after : (i : ℕ) → i < run.table.count → KeepsNewest (kept_of next i) (row_at run.table i).x (with_due history row t.0 i)
    newest_after i h =
        by_lt row run.table.count
        (λ of_row.
        by_eq i row
        (λ e. rw (eq-eqb i row e, e, kept_here of_row)
        (keeps_on_keeping (kept_of run row) its (history row) t (row_given run row cost t given of_row).row_is_in_range (keeps.newest row of_row)))
        (λ n. rw (ne_eqb i row n, kept_elsewhere of_row i n) (keeps.newest i h)))
        (λ of_server. rw (ne_eqb i row (λ e. omega arith), kept_stays of_server i) (keeps.newest i h))

    -- The run keeps the newest due time of each server's history with the new one.
    last_of_history : (i : ℕ) → run.table.count ≤ i → i < run.table.count + run.table.serving
        → (last_of next i).0 ≡ last_due (with_due history row t.0 i)
    last_of_history i l h =
        by_lt row run.table.count
        (λ of_row. rw (ne_eqb i row (λ e. omega arith), last_stays of_row i) (keeps.last i l h))
        (λ of_server.
        by_eq i row
        (λ e. rw (eq-eqb i row e, e, last_here of_server))
        (λ n. rw (ne_eqb i row n, last_elsewhere of_server (i - run.table.count) (λ e. n (omega arith))) (keeps.last i l h)))

    -- The release gave the due time of the rule, and the run keeps what the rule needs of the history with it.
    due_by_history_lem : GaveDue run history row cost t.0 next
    due_by_history_lem = record { by_rule = by_whole_history; keeps_history = record { newest = newest_after; last = last_of_history } }

-- ---- the laws

pub one_test_means : OneTestMeans
one_test_means t few rows row cost =
    let many : length (cost_limits t) ≡ t.count + t.serving = one_limit_for_each t few rows in
    by_lt row (t.count + t.serving)
    (λ in_use. rw (
      lt-ltb row (length (cost_limits t)) (omega arith),
      lt-ltb row (t.count + t.serving) in_use,
      limit_at t few rows row in_use,
    ))
    (λ unused. rw (le-ltb row (length (cost_limits t)) (omega arith), le-ltb row (t.count + t.serving) unused))

pub release_keeps_sound : ReleaseKeepsSound
release_keeps_sound run row cost whole sound =
    each_release run row cost (λ step. (sound_of step.run ≡ true) × Whole step.run)
    (λ r. (sound, whole))
    (λ t p given. (sound_after t whole p given, whole_after t whole p given))

pub serials_grow : SerialsGrow
serials_grow run row cost = each_release run row cost (λ step. run.next.0 ≤ step.run.next.0) (λ r. omega arith) (λ t p given. omega arith)

pub refused_release_changes_nothing : RefusedReleaseChangesNothing
refused_release_changes_nothing run row cost number place =
    each_release run row cost (λ step. release_says step.answer ≡ ReleaseSays.refused number place → step.run ≡ run) (λ q e. refl)
    (λ t p given e. impossible cc)

pub fresh_has_no_history : FreshHasNoHistory
fresh_has_no_history t few serving = record {
  newest = λ i h. subst (λ k. KeepsNewest k (row_at t i).x []) (sym (get_or-replicate max_rows i nothing_kept _ (omega arith))) (starts_empty (row_at t i).x);
  last = λ i l h. ap (λ (k : Tick). k.0) (get_or-replicate max_servers (i - t.count) no_time _ (omega arith));
}

pub due_by_whole_history : DueByWholeHistory
due_by_whole_history run history row cost serial due whole keeps =
    each_release run row cost (λ step. release_says step.answer ≡ accepted serial due → GaveDue run history row cost due step.run)
    (λ r e. impossible cc)
    (λ t p given e. let same : t.0 ≡ due = cc in rw (← same) (due_by_history_lem t whole p given history keeps))
