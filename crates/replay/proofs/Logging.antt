-- What is known about a log as it is written: it holds all records while they fit, and is full from the first record on that does not. (docs/RULES.md, sections
-- 8.8 to 8.16.)
use Prim.Native.Nat.{ℕ, ◌+◌, ◌-◌, ◌≤◌, ◌<◌}
use mathlib.Core.Path.{◌≡◌, refl, sym, ◌∙◌}
use mathlib.Core.Bool.{true, false, cond}
use mathlib.Core.List.{List, [], ◌∷◌, ◌++◌, flatten}
use native.Mathlib.Omega.{arith}
use lib.ListN.{length, length-append, take-append-drop}
use borrow.Author.Tests.{le-leb, lt-leb, eq-eqb, ne_eqb}
use Rattle.kinds.proofs.Apart.{impossible}
use Rattle.theory.proofs.Cases.{by_lt, by_test}
use Rattle.kinds.specs.declared.Finish.{Finish}
use Rattle.kinds.specs.declared.Refusal.TheVariants.{NoRoom}
use Rattle.logs.specs.Log.{values_of, spelled_finish, all_in_range}
use Rattle.logs.specs.SpelledLogs.{spelled_log, HoldsRecords}
use Rattle.logs.proofs.Records.{answers_no_room, answers_length}
use Rattle.logs.proofs.Logs.{log_grows}
use Rattle.replay.specs.declared.Logged.{Logged}
use Rattle.replay.specs.declared.Replayed.TheVariants as replayed
use Rattle.play.specs.Play.{Progress, whole}
use Rattle.play.specs.Late.{finished_late, late_finishes}
use Rattle.replay.specs.Outcome.{replay_outcome}
use Rattle.replay.specs.Arrays.{one_logged, with_one_written, Logs}
use Rattle.play.proofs.Lateness.{late_finishes_more}

-- Before the first job has finished, the log is empty.
pub logs_none : (log : List ℕ) → Logs [] log log (record { length = 0; late = 0; full = false })
unfolding late_finishes flatten
logs_none log = record {
  late = refl;
  within = omega arith;
  same_length = refl;
  holds = λ e. record { up_to = refl; within = omega arith; same_length = refl; stands = refl };
  no_room = λ e. impossible cc;
}

-- The number of jobs late is at most the number of finished jobs.
pub late_are_few : (fs : List Finish) → late_finishes fs ≤ length fs
unfolding late_finishes
late_are_few [] = omega arith
late_are_few (f ∷ fs) =
    let one : cond (finished_late f) 1 0 ≤ 1 = by_test (finished_late f) (λ late. rw late (omega arith)) (λ not_late. rw not_late (omega arith)) in
    omega (arith, late_are_few fs)

-- ---- one more

-- One more record makes the log longer by the record's length.
length_of_one_more : (fs : List Finish) (f : Finish) → length (spelled_log (fs ++ (f ∷ []))) ≡ length (spelled_log fs) + length (spelled_finish f)
unfolding flatten
length_of_one_more [] f = omega (arith, length-append (spelled_finish f) [])
length_of_one_more (g ∷ fs) f =
    let shorter = length-append (spelled_finish g) (spelled_log fs) in
    let longer = length-append (spelled_finish g) (spelled_log (fs ++ (f ∷ []))) in
    omega (arith, length_of_one_more fs f)

module _ {fs : List Finish} {log₀ log : List ℕ} {l : Logged} (w : Logs fs log₀ log l) (f : Finish) (in_range : all_in_range (values_of f) ≡ true) where
  -- A full log stays full, and is not written to.
  logs_full : l.full ≡ true → Logs (fs ++ (f ∷ [])) log₀ (with_one_written l f log) (one_logged (length log) l f)
  logs_full full = rw full (record {
    late = rw (late_finishes_more fs f, w.late);
    within = w.within;
    same_length = w.same_length;
    holds = λ e. impossible cc;
    no_room = λ e. omega (arith, w.no_room full, length_of_one_more fs f);
  })

  module _ (not_full : l.full ≡ false) where
    -- Where the record fits, the log holds it too.
    logs_fits : length (spelled_finish f) ≤ length log - l.length → Logs (fs ++ (f ∷ [])) log₀ (with_one_written l f log) (one_logged (length log) l f)
    logs_fits h =
        let fits = answers_length f (length log - l.length) in_range h in
        let more = log_grows fs log₀ log l.length (w.holds not_full) f (length (spelled_finish f)) _ (record { answered = sym fits; whole = refl }) in
        rw (not_full, fits) (record {
          late = rw (late_finishes_more fs f, w.late);
          within = more.within;
          same_length = more.same_length;
          holds = λ e. more;
          no_room = λ e. impossible cc;
        })

    -- Where the record does not fit, the log is full from now on.
    logs_overflows : length log - l.length < length (spelled_finish f) → Logs (fs ++ (f ∷ [])) log₀ (with_one_written l f log) (one_logged (length log) l f)
    logs_overflows h =
        let known = w.holds not_full in
        rw (not_full, answers_no_room f (length log - l.length) in_range h, take-append-drop l.length log) (record {
          late = rw (late_finishes_more fs f, w.late);
          within = w.within;
          same_length = w.same_length;
          holds = λ e. impossible cc;
          no_room = λ e. omega (arith, known.up_to, known.within, known.same_length, length_of_one_more fs f);
        })

  -- One more finished job is logged, whether the log is full, the record fits, or it does not.
  pub logs_one_more : Logs (fs ++ (f ∷ [])) log₀ (with_one_written l f log) (one_logged (length log) l f)
  logs_one_more =
      by_test l.full logs_full λ not_full.
      by_lt (length log - l.length) (length (spelled_finish f)) (logs_overflows not_full) (logs_fits not_full)

-- ---- the answer, once all have finished

module _ {log₀ log : List ℕ} {l : Logged} (p : Progress) (w : Logs p.so_far.finishes log₀ log l) (end : ℕ) where
  -- `all` are the jobs that finished.
  abbrev all : List Finish
  all = p.so_far.finishes

  -- Where the log is full, the answer is 12.
  pub answers_full : l.full ≡ true → replay_outcome (length log₀) end (whole p) ≡ replayed.Refused (record { refusal = NoRoom; place = end })
  answers_full full = rw (lt-leb (length (spelled_log all)) (length log₀) (w.no_room full))

  -- Where the log is not full, all records fit.
  module _ (not_full : l.full ≡ false) where
    -- Where the log is not full, it holds the records of all jobs.
    abbrev held : HoldsRecords all log₀ log l.length
    held = w.holds not_full

    it_fits : length (spelled_log all) ≤ length log₀
    it_fits = omega (arith, held.up_to, held.within, held.same_length)

    -- Where no job is late, the answer is 22.
    pub answers_in_time : l.late ≡ 0 → replay_outcome (length log₀) end (whole p) ≡ replayed.InTime l.length
    answers_in_time none =
        rw (le-leb (length (spelled_log all)) (length log₀) it_fits, eq-eqb (late_finishes all) 0 (sym w.late ∙ none), held.up_to)

    -- Where some job is late, the answer is 23.
    pub answers_late : (l.late ≡ 0 → ⊥) → replay_outcome (length log₀) end (whole p) ≡ replayed.Late (record { length = l.length; late = l.late })
    answers_late some =
        rw (
          le-leb (length (spelled_log all)) (length log₀) it_fits,
          ne_eqb (late_finishes all) 0 (λ e. some (w.late ∙ e)),
          held.up_to,
          w.late,
        )
