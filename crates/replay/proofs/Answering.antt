-- What a replay answers and leaves in the log buffer, case by case: how the play ended, whether its log fits, and whether a job is late.
-- (docs/RULES.md, sections 8.8 to 8.17, 9.5 and 10.)
use Rattle.std.specs.Prelude.{Ok}
use Prim.Native.Nat.{ℕ, ◌-◌, ◌≤◌, ◌<◌}
use mathlib.Core.Path.{◌≡◌, refl, sym, ap, ap₂, subst, ◌∙◌}
use mathlib.Core.Logic.{◌⊎◌, ◌≢◌, ◌↔◌, inl, inr, ⊎_elim}
use mathlib.Core.List.{List, [], ◌++◌, flatten}
use native.Mathlib.Omega.{arith}
use lib.ListN.{length, drop, get_or, length-append, length-drop, length-replicate, get_or-replicate}
use lib.Seq.{take_at, drop_at}
use borrow.Author.Tests.{le-leb, lt-leb, eq-eqb, ne_eqb}
use Rattle.kinds.specs.Numbering.{Said, max_time, refusal_number}
use Rattle.kinds.specs.declared.Refusal.TheVariants.{NoRoom}
use Rattle.kinds.specs.declared.RefusedAt.{RefusedAt}
use Rattle.kinds.proofs.Numbering.{numbers_differ, never_zero, no_answer}
use Rattle.numbers.specs.SpelledNumbers.{Bytes}
use Rattle.theory.proofs.Cases.{by_lt}
use Rattle.table.specs.Tables.{table_read}
use Rattle.table.proofs.Answers.{tables_said_apart}
use Rattle.run.specs.Runs.{started}
use Rattle.logs.specs.SpelledLogs.{spelled_log}
use Rattle.replay.specs.declared.LateJobs.{LateJobs}
use Rattle.replay.specs.declared.Replayed.{Replayed}
use Rattle.replay.specs.declared.Replayed.TheVariants as replayed
use Rattle.play.specs.Play.{Progress, begun}
use Rattle.play.specs.Play.{Played, whole, stopped, final_ticks, played_from, played}
use Rattle.play.specs.Late.{late_finishes, AllInTime}
use Rattle.replay.specs.Outcome.{replay_of, replay_says, log_left}
use Rattle.replay.specs.ReplayLaws.{ReplayInTimeMeans, InTimeSays, ReplayLateMeans, LateSays, LogAfterInTime, LogAfterLate, LogAfterRefusal, ReplayNeverSaysZero, NoJobs, NoRoomMeans, ReplayRefusedMeans, ReplayRefusedSays, ReplaysSaidApart}
use Rattle.replay.specs.Endings.{Ended, LogHolds}
use Rattle.play.proofs.SingleTicks.{no_more}
use Rattle.play.proofs.Late.{none_late_means}
use Rattle.play.proofs.WholePlays.{log_reads_back}
use Rattle.play.proofs.Stopping.{stopped_by}

-- ---- what a replay says

pub replay_never_says_zero : ReplayNeverSaysZero
replay_never_says_zero (replayed.InTime n) = omega arith
replay_never_says_zero (replayed.Late l) = omega arith
replay_never_says_zero (replayed.Refused r) = never_zero r.refusal

-- Two outcomes that say the same three numbers are the same.
same_said : (r q : Replayed) → (replay_says r).number ≡ (replay_says q).number → (replay_says r).first ≡ (replay_says q).first
    → (replay_says r).second ≡ (replay_says q).second → r ≡ q
same_said (replayed.InTime n) (replayed.InTime m) k f s = ap replayed.InTime f
same_said (replayed.InTime n) (replayed.Late l) k f s = absurd (omega arith)
same_said (replayed.InTime n) (replayed.Refused r) k f s = absurd (no_answer r.refusal (omega arith) (omega arith))
same_said (replayed.Late l) (replayed.InTime m) k f s = absurd (omega arith)
same_said (replayed.Late l) (replayed.Late m) k f s = ap₂ (λ length late. replayed.Late (record { length = length; late = late })) f s
same_said (replayed.Late l) (replayed.Refused r) k f s = absurd (no_answer r.refusal (omega arith) (omega arith))
same_said (replayed.Refused r) (replayed.InTime m) k f s = absurd (no_answer r.refusal (omega arith) (omega arith))
same_said (replayed.Refused r) (replayed.Late m) k f s = absurd (no_answer r.refusal (omega arith) (omega arith))
same_said (replayed.Refused r) (replayed.Refused q) k f s =
    ap₂ (λ kind place. replayed.Refused (record { refusal = kind; place = place })) (numbers_differ r.refusal q.refusal k) f

pub replays_said_apart : ReplaysSaidApart
replays_said_apart r q e = same_said r q (ap (λ (s : Said). s.number) e) (ap (λ (s : Said). s.first) e) (ap (λ (s : Said). s.second) e)

-- ---- when the answer is which

module _ (t s : List ℕ) (room : ℕ) where
  -- `size` is the length of a play's log, and `late` is its number of jobs late.
  abbrev size : Progress → ℕ
  size p = length (spelled_log p.so_far.finishes)

  abbrev late : Progress → ℕ
  late p = late_finishes p.so_far.finishes

  -- What is known about the play, given what the replay answers.
  abbrev Means : Replayed → Type 0
  Means (replayed.InTime n) = (p : Progress) × Ended t s n p × (n ≤ room) × AllInTime p.so_far.finishes
  Means (replayed.Late l) = (p : Progress) × Ended t s l.length p × (l.length ≤ room) × (l.late ≡ late p) × (1 ≤ l.late)
  Means (replayed.Refused r) =
      (played t s ≡ stopped r) ⊎ ((p : Progress) × (n : ℕ) × Ended t s n p × (room < n) × (r ≡ record { refusal = NoRoom; place = length s }))

  -- A play that was stopped is answered with its refusal.
  was_stopped : (r : RefusedAt) → played t s ≡ stopped r → replay_of t s room ≡ replayed.Refused r
  was_stopped r e = rw e

  module _ (p : Progress) (e : played t s ≡ whole p) where
    to_its_end : Ended t s (size p) p
    to_its_end = record { came_to_its_end = e; log_length = refl }

    -- A play whose log is longer than the room is answered with 12.
    too_long : room < size p → replay_of t s room ≡ replayed.Refused (record { refusal = NoRoom; place = length s })
    too_long long = rw (e, lt-leb (size p) room long)

    -- A play whose log fits, with no job late, is answered with 22.
    fits_in_time : size p ≤ room → late p ≡ 0 → replay_of t s room ≡ replayed.InTime (size p)
    fits_in_time fits none = rw (e, le-leb (size p) room fits, eq-eqb (late p) 0 none)

    -- A play whose log fits, with some jobs late, is answered with 23.
    fits_late : size p ≤ room → 1 ≤ late p → replay_of t s room ≡ replayed.Late (record { length = size p; late = late p })
    fits_late fits some = rw (e, le-leb (size p) room fits, ne_eqb (late p) 0 (λ none. omega arith))

  -- The answer is one of these, and each means what is said for it.
  answer_means : Means (replay_of t s room)
  answer_means = by_played (played t s) refl
    where
      by_played : (how : Played) → played t s ≡ how → Means (replay_of t s room)
      by_played (stopped r) e = subst Means (sym (was_stopped r e)) (inl e)
      by_played (whole p) e = by_lt room (size p)
          (λ long. subst Means (sym (too_long p e long)) (inr (p, size p, to_its_end p e, long, refl)))
          (λ fits. by_lt 0 (late p)
          (λ some. subst Means (sym (fits_late p e fits some)) (p, to_its_end p e, fits, refl, some))
          (λ least.
          let none : late p ≡ 0 = omega arith in
          subst Means (sym (fits_in_time p e fits none)) (p, to_its_end p e, fits, (none_late_means p.so_far.finishes).0 none)))

  said_means : {v : Replayed} → replay_of t s room ≡ v → Means v
  said_means said = subst Means said answer_means

-- 12, any other refusal, 22 and 23 are each answered exactly where the play says so.
pub no_room_answered : (t s : List ℕ) (room place : ℕ) → Bytes t → Bytes s
    → (replay_of t s room ≡ replayed.Refused (record { refusal = NoRoom; place = place }))
    ↔ ((p : Progress) × (n : ℕ) × Ended t s n p × (room < n) × (place ≡ length s))
no_room_answered t s room place table script = (
  λ said. ⊎_elim (λ e. absurd (⊎_elim (λ h. omega arith) (⊎_elim (λ h. omega arith) (λ h. omega arith)) (stopped_by t s _ table script e)))
      (λ w. (w.0, w.1, w.2, w.3, ap (λ (r : RefusedAt). r.place) w.4)) (said_means t s room said),
  λ w. rw w.4 (too_long t s room w.0 w.2.came_to_its_end (rw w.2.log_length at w.3)),
)

pub refused_answered : (t s : List ℕ) (room : ℕ) (r : RefusedAt) → r.refusal ≢ NoRoom → (replay_of t s room ≡ replayed.Refused r) ↔ (played t s ≡ stopped r)
refused_answered t s room r not_room = (
  λ said. ⊎_elim (λ e. e) (λ w. absurd (not_room (ap (λ (q : RefusedAt). q.refusal) w.4))) (said_means t s room said),
  was_stopped t s room r,
)

pub in_time_answered : (t s : List ℕ) (room n : ℕ)
    → (replay_of t s room ≡ replayed.InTime n) ↔ ((p : Progress) × Ended t s n p × (n ≤ room) × AllInTime p.so_far.finishes)
in_time_answered t s room n = (
  said_means t s room,
  λ w.
      let long = w.1.log_length in
      rw long (fits_in_time t s room w.0 w.1.came_to_its_end (rw (← long) w.2) ((none_late_means _).1 w.3)),
)

pub late_answered : (t s : List ℕ) (room : ℕ) (l : LateJobs)
    → (replay_of t s room ≡ replayed.Late l)
    ↔ ((p : Progress) × Ended t s l.length p × (l.length ≤ room) × (l.late ≡ late_finishes p.so_far.finishes) × (1 ≤ l.late))
late_answered t s room l = (
  said_means t s room,
  λ w.
      let ended = w.1 in
      fits_late t s room w.0 ended.came_to_its_end (rw ended.log_length at w.2) (rw w.3 at w.4)
      ∙ ap₂ (λ length late. replayed.Late (record { length = length; late = late })) (sym ended.log_length) (sym w.3),
)

-- Since different outcomes say different things, when an outcome is answered settles when it is said.
by_said : {G : Type 0} (t s : List ℕ) (room : ℕ) (r : Replayed) → (replay_of t s room ≡ r) ↔ G → (replay_says (replay_of t s room) ≡ replay_says r) ↔ G
by_said t s room r means = (λ e. means.0 (replays_said_apart (replay_of t s room) r e), λ g. ap replay_says (means.1 g))

pub no_room_means : NoRoomMeans
no_room_means t s room place table script = by_said t s room (replayed.Refused (record { refusal = NoRoom; place = place })) (no_room_answered t s room place table script)

pub replay_refused_means : ReplayRefusedMeans
replay_refused_means t s room r not_room =
    by_said t s room (replayed.Refused r) (refused_answered t s room r (λ e. not_room (ap refusal_number e)))

pub replay_in_time_means : ReplayInTimeMeans
replay_in_time_means t s room n = by_said t s room (replayed.InTime n) (in_time_answered t s room n)

pub replay_late_means : ReplayLateMeans
replay_late_means t s room n late = by_said t s room (replayed.Late (record { length = n; late = late })) (late_answered t s room (record { length = n; late = late }))

-- ---- the log buffer

-- A play comes to its end in one way only.
one_end : {p q : Progress} → whole p ≡ whole q → p ≡ q
one_end e = cc

-- Where the log is not longer than its buffer, the buffer with the log at its start holds the records.
log_put : (t s log : List ℕ) (n : ℕ) (p : Progress) → Bytes t → Bytes s → played t s ≡ whole p → n ≡ length (spelled_log p.so_far.finishes)
    → n ≤ length log → LogHolds p.so_far.finishes n log (spelled_log p.so_far.finishes ++ drop n log)
log_put t s log n p table script e long fits =
    let written = spelled_log p.so_far.finishes in
    record {
      same_length = length-append written (drop n log) ∙ omega (arith, length-drop n log);
      within = fits;
      reads_as = rw (take_at written (drop n log) n (sym long)) (log_reads_back t s p table script e).1;
      rest_kept = drop_at written (drop n log) n (sym long);
    }

pub log_after_in_time : LogAfterInTime
log_after_in_time t s log n p table script e says =
    let said = replays_said_apart (replay_of t s (length log)) (replayed.InTime n) says in
    let w = (in_time_answered t s (length log) n).0 said in
    let same = one_end (sym w.1.came_to_its_end ∙ e) in
    rw (said, e) (log_put t s log n p table script e (rw same at w.1.log_length) w.2)

pub log_after_late : LogAfterLate
log_after_late t s log n late p table script e says =
    let jobs : LateJobs = record { length = n; late = late } in
    let said = replays_said_apart (replay_of t s (length log)) (replayed.Late jobs) says in
    let w = (late_answered t s (length log) jobs).0 said in
    let same = one_end (sym w.1.came_to_its_end ∙ e) in
    rw (said, e) (log_put t s log n p table script e (rw same at w.1.log_length) w.2)

-- After a refusal every byte of the log buffer is 0.
zeros_left : (t s log : List ℕ) (r : RefusedAt) → replay_of t s (length log) ≡ replayed.Refused r
    → (length (log_left t s log) ≡ length log) × ((i : ℕ) → i < length log → get_or (log_left t s log) i 0 ≡ 0)
zeros_left t s log r said = rw said (length-replicate (length log) 0, λ i h. get_or-replicate (length log) i 0 0 h)

pub log_after_refusal : LogAfterRefusal
log_after_refusal t s log not_in_time not_late = by_answer (replay_of t s (length log)) refl
  where
    by_answer : (v : Replayed) → replay_of t s (length log) ≡ v
        → (length (log_left t s log) ≡ length log) × ((i : ℕ) → i < length log → get_or (log_left t s log) i 0 ≡ 0)
    by_answer (replayed.InTime n) e = absurd (not_in_time (ap (λ (v : Replayed). (replay_says v).number) e))
    by_answer (replayed.Late l) e = absurd (not_late (ap (λ (v : Replayed). (replay_says v).number) e))
    by_answer (replayed.Refused r) e = zeros_left t s log r e

-- Where nothing is pending, the play ends without a final tick.
ends_at_once : (end : ℕ) (p : Progress) → p.so_far.run.pending.count ≡ 0 → final_ticks end p ≡ whole p
unfolding final_ticks
ends_at_once end p none =
    rw (no_more (max_time - p.so_far.run.clock.0) p.so_far none, eq-eqb p.so_far.run.pending.count 0 none)

-- The play of an empty script on an accepted table ends at once, with the fresh run.
nothing_played : (t : List ℕ) (period : ℕ) → (table_read t).answer ≡ Ok period → played t [] ≡ whole (begun (started t).run)
unfolding played played_from
nothing_played t period e = rw e (ends_at_once 0 (begun (started t).run) refl)

pub no_jobs : NoJobs
unfolding late_finishes flatten
no_jobs t log period e = rw (nothing_played t period (tables_said_apart (table_read t).answer (Ok period) e), le-leb 0 (length log) (omega arith)) (refl, refl)

-- ---- what is said outside

pub in_time_says : InTimeSays
in_time_says n = refl

pub late_says : LateSays
late_says l = refl

pub replay_refused_says : ReplayRefusedSays
replay_refused_says r = refl
