-- A play as it is seen from outside, and the three moves that change it: a tick that finishes no job, a tick that finishes one, and an accepted release. What
-- all moves keep, a whole play keeps. (docs/RULES.md, sections 6.6 to 6.17 and 8.1 to 8.7.)
use Rattle.std.specs.Prelude.{Ok}
use Prim.Native.Nat.{ℕ, ◌+◌, ◌-◌, ◌≤◌, ◌<◌}
use mathlib.Core.Path.{◌≡◌, refl, sym, ◌∙◌}
use mathlib.Core.Bool.{true, false}
use mathlib.Core.List.{List, [], ◌∷◌, ◌++◌, append-nil}
use native.Mathlib.Nat.{add-zero, le_refl, not-suc-le-zero}
use native.Mathlib.Omega.{arith}
use lib.ListN.{length, set, get_or}
use lib.Seq.{set_out}
use borrow.Author.Tests.{le-leb, lt-leb, lt-ltb, le-ltb}
use Rattle.kinds.specs.Numbering.{max_time}
use Rattle.kinds.specs.declared.Finish.{Finish}
use Rattle.kinds.specs.declared.Tick.{Tick}
use Rattle.kinds.proofs.Apart.{impossible}
use Rattle.numbers.specs.SpelledNumbers.{Bytes}
use Rattle.theory.proofs.Cases.{by_lt, by_test}
use Rattle.theory.proofs.DueTimes.{due_time_at_least_d}
use Rattle.theory.proofs.Servers.{odd_due_after_release}
use Rattle.table.specs.declared.Table.{Table}
use Rattle.due.specs.Kept.{earlier}
use Rattle.due.proofs.NewestKept.{due_given}
use Rattle.due.proofs.OddJobs.{odd_due_given}
use Rattle.jobs.specs.declared.Job.{Job}
use Rattle.jobs.specs.Places.{no_job, jobs_of, without}
use Rattle.jobs.specs.Choice.{first_place}
use Rattle.jobs.specs.Units.{worked}
use Rattle.jobs.specs.Late.{late_count}
use Rattle.jobs.specs.Turns.{first_job, finish_at}
use Rattle.jobs.proofs.Changes.{first_is_there, place_holds_job, after_a_unit, put_adds_one}
use Rattle.run.specs.declared.Run.{Run}
use Rattle.run.specs.declared.Accepted.{Accepted}
use Rattle.run.specs.declared.ReleaseStep.{ReleaseStep}
use Rattle.run.specs.Runs.{row_at, server_at, kept_of, last_of}
use Rattle.run.specs.Sound.{SoundJob}
use Rattle.run.specs.Release.{new_job, with_job, due_next, released}
use Rattle.run.specs.Ticking.{is_taken}
use Rattle.run.proofs.Ticking.{Good, facts, counted, tick_taken, tick_idle, tick_busy}
use Rattle.run.proofs.Release.{Passed, due_of_row, due_of_server, each_release}
use Rattle.play.specs.Play.{Progress, whole, played}
use Rattle.play.proofs.KeptThroughout.{tick_more, release_more, Keeps, kept_through}

-- ---- what is seen

-- A play as it is seen: its table, clock, next serial, pending jobs in their order, late count, finished jobs and accepted jobs.
pub record Seen : Type 0 where
  pub table : Table
  pub clock : ℕ
  pub next : ℕ
  pub pending : List Job
  pub late : ℕ
  pub finishes : List Finish
  pub accepted : List Job

abbrev pub seen_of : Progress → Seen
seen_of p = let run = p.so_far.run in record {
  table = run.table;
  clock = run.clock.0;
  next = run.next.0;
  pending = jobs_of run.pending;
  late = p.so_far.late;
  finishes = p.so_far.finishes;
  accepted = p.accepted;
}

-- A play as it is seen at its start, before any tick or release.
abbrev pub at_start : Table → Seen
at_start t = record { table = t; clock = 0; next = 0; pending = []; late = 0; finishes = []; accepted = [] }

-- ---- the moves

-- A tick on a play, given the jobs that are pending after it and the jobs that have finished by then.
abbrev pub ticked_on : Seen → (after : List Job) → (finished : List Finish) → Seen
ticked_on s after finished = record {
  table = s.table;
  clock = s.clock + 1;
  next = s.next;
  pending = after;
  late = s.late + late_count (s.clock + 1) after;
  finishes = finished;
  accepted = s.accepted;
}

-- A tick that finishes no job: the job at a place, if there is one, gets a unit that is not its last.
abbrev pub quiet_tick : Seen → (at : ℕ) → Seen
quiet_tick s at = ticked_on s (set s.pending at (worked (get_or s.pending at no_job))) s.finishes

-- A tick that finishes a job: the job at a place gets its last unit.
abbrev pub finish_tick : Seen → (at : ℕ) → Seen
finish_tick s at = ticked_on s (without s.pending at) (s.finishes ++ (finish_at (s.clock + 1) (get_or s.pending at no_job) ∷ []))

-- An accepted release adds a job.
abbrev pub with_new : Seen → Job → Seen
with_new s j = record {
  table = s.table;
  clock = s.clock;
  next = s.next + 1;
  pending = s.pending ++ (j ∷ []);
  late = s.late;
  finishes = s.finishes;
  accepted = s.accepted ++ (j ∷ []);
}

-- Every pending job is as a sound run demands.
abbrev pub AllSound : Seen → Type 0
AllSound s = (i : ℕ) → i < length s.pending → SoundJob s.table s.clock s.next (get_or s.pending i no_job)

-- A property holds at the start and is kept by every move.
pub record Moves (Q : Seen → Type 0) : Type 0 where
  pub start : (t : Table) → Q (at_start t)
  pub quiet : (s : Seen) (at : ℕ) → AllSound s → (at < length s.pending → 1 < (get_or s.pending at no_job).left) → Q s → Q (quiet_tick s at)
  pub finish : (s : Seen) (at : ℕ) → AllSound s → at < length s.pending → Q s → Q (finish_tick s at)
  pub release : (s : Seen) (j : Job) → j.serial.0 ≡ s.next → s.clock < j.due.0 → Q s → Q (with_new s j)

-- ---- every tick and every release is one of the moves

-- Where the run has no pending job, none is seen.
none_pending : (p : Progress) → p.so_far.run.pending.count ≡ 0 → (seen_of p).pending ≡ []
none_pending p e = rw e

module _ (p : Progress) (good : Good p.so_far.run) where
  -- `run` is the play's run, `js` are its pending jobs, and `at` is the place of the job that goes first.
  abbrev run : Run
  run = p.so_far.run

  abbrev js : List Job
  js = jobs_of run.pending

  abbrev at : ℕ
  at = first_place js

  module _ (in_time : run.clock.0 < max_time) where
    -- A taken tick finishes no job, and no pending job gets a unit.
    taken_is_quiet : is_taken run ≡ true → seen_of (tick_more p) ≡ quiet_tick (seen_of p) (length js)
    taken_is_quiet e = rw (tick_taken run good.0 in_time e, e, set_out js (length js) (worked (get_or js (length js) no_job)) (le_refl (length js)), append-nil)

    -- A free tick with nothing pending finishes no job.
    idle_is_quiet : is_taken run ≡ false → run.pending.count ≡ 0 → seen_of (tick_more p) ≡ quiet_tick (seen_of p) 0
    unfolding late_count
    idle_is_quiet free e =
        rw (tick_idle run good.0 in_time free e, free, le-ltb 0 run.pending.count (omega arith), none_pending p e, append-nil, add-zero)

    module _ (free : is_taken run ≡ false) (h : 1 ≤ run.pending.count) where
      -- The job that goes first stands among the pending ones.
      there : at < length js
      there = first_is_there run.pending (omega (arith, counted run good))

      first_here : first_job run.pending ≡ get_or js at no_job
      first_here = place_holds_job run.pending at there

      -- A tick that does not give a job its last unit finishes no job.
      unit_is_quiet : 1 < (get_or js at no_job).left → seen_of (tick_more p) ≡ quiet_tick (seen_of p) at
      unit_is_quiet l = rw (
        tick_busy run good.0 in_time free h,
        free,
        after_a_unit run.pending at there,
        first_here,
        lt-leb (get_or js at no_job).left 1 l,
        lt-ltb 0 run.pending.count h,
        append-nil,
      )

      -- A tick that gives a job's last unit finishes that job.
      last_finishes : (get_or js at no_job).left ≤ 1 → seen_of (tick_more p) ≡ finish_tick (seen_of p) at
      last_finishes l = rw (
        tick_busy run good.0 in_time free h,
        free,
        after_a_unit run.pending at there,
        first_here,
        le-leb (get_or js at no_job).left 1 l,
        lt-ltb 0 run.pending.count h,
      )

-- An accepted release adds a job with the next serial that is due after the clock.
module _ (p : Progress) (row cost : ℕ) (a : Accepted) (good : Good p.so_far.run) where
  abbrev before : Run
  before = p.so_far.run

  -- What is seen after a step of the run.
  abbrev seen_after : ReleaseStep → Seen
  seen_after step = seen_of (record {
    so_far = record { run = step.run; late = p.so_far.late; finishes = p.so_far.finishes };
    accepted = p.accepted ++ (new_job before row cost a.due ∷ []);
  })

  module _ (t : Tick) (passed : Passed before row cost) (given : due_next before row cost ≡ Ok t) where
    -- A row's d is at least 1.
    row_due_later : row < before.table.count → before.clock.0 < t.0
    row_due_later h =
        let its = row_at before.table row in
        let rule = (due_given (kept_of before row) its before.clock.0 cost t).0 (sym (due_of_row before row cost h) ∙ given) in
        let least = due_time_at_least_d its.x its.y its.d (earlier (kept_of before row)) before.clock.0 in
        omega (arith, least, rule.by_rule, ((facts before good).rows row h).some_d)

    -- A server's job costs at least 1, and takes at least one tick.
    odd_due_later : before.table.count ≤ row → before.clock.0 < t.0
    odd_due_later h =
        let its = server_at before.table row in
        let last = (last_of before row).0 in
        let rule = (odd_due_given its last before.clock.0 cost t).0 (sym (due_of_server before row cost h) ∙ given) in
        let fine = (facts before good).servers (row - before.table.count) (omega (arith, passed.in_use)) in
        let later = odd_due_after_release its.a its.b last before.clock.0 cost fine.some_a (omega (arith, fine.some_a, fine.a_within_b))
        passed.some_cost in
        omega (arith, later, rule.by_rule)

    -- A job is due after its release.
    due_later : before.clock.0 < t.0
    due_later = by_lt row before.table.count row_due_later odd_due_later

    one_pending_more : jobs_of (with_job before row cost t).pending ≡ jobs_of before.pending ++ (new_job before row cost t ∷ [])
    one_pending_more =
        put_adds_one before.pending (new_job before row cost t)
        (record { all_places = good.1.all_places; in_places = (facts before good).few_pending }) passed.room

  release_moves : (Q : Seen → Type 0) → Moves Q → Q (seen_of p)
      → (released before row cost).answer ≡ Ok a → Q (seen_of (release_more p row cost a.due))
  release_moves Q moves q =
      each_release before row cost (λ step. step.answer ≡ Ok a → Q (seen_after step))
      (λ r e. impossible cc)
      (λ t passed given e.
      let same : t ≡ a.due = cc in
      rw (one_pending_more t passed given, ← same) (moves.release (seen_of p) (new_job before row cost t) refl (due_later t passed given) q))

-- ---- what the moves keep, a whole replay keeps

module _ (Q : Seen → Type 0) (moves : Moves Q) where
  moves_keep : Keeps (λ p. Q (seen_of p))
  moves_keep = record {
    tick = λ p good in_time q.
        let s = seen_of p in
        let place = first_place s.pending in
        let sound = (facts p.so_far.run good).jobs in
        by_test (is_taken p.so_far.run)
        (λ taken. rw (taken_is_quiet p good in_time taken) (moves.quiet s (length s.pending) sound (λ k. absurd (omega arith)) q))
        (λ free. by_lt 0 p.so_far.run.pending.count
        (λ h. by_lt 1 (get_or s.pending place no_job).left
        (λ l. rw (unit_is_quiet p good in_time free h l) (moves.quiet s place sound (λ k. l) q))
        (λ l. rw (last_finishes p good in_time free h l) (moves.finish s place sound (there p good in_time free h) q)))
        (λ h.
        let none = none_pending p (omega arith) in
        rw (idle_is_quiet p good in_time free (omega arith)) (moves.quiet s 0 sound (λ k. absurd (not-suc-le-zero (rw none at k))) q)));
    release = λ p row cost a good e q. release_moves p row cost a good Q moves q e;
  }

  -- What the moves keep holds at the end of a play that comes to its end, and nothing is pending there.
  pub kept_by_moves : (t s : List ℕ) (p : Progress) → Bytes t → played t s ≡ whole p → Q (seen_of p) × ((seen_of p).pending ≡ [])
  kept_by_moves t s p bytes e =
      let end = kept_through (λ p. Q (seen_of p)) moves_keep t s p bytes (moves.start _) e in
      (end.kept, none_pending p end.nothing_pending)
