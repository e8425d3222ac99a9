-- The record of a job that finished is written into a log, or the log is full. (docs/RULES.md, sections 8.8 to 8.13.)
use Rattle.std.specs.Prelude.{Result, Ok, Err}
use Prim.Native.Nat.{ℕ, ◌+◌, ◌-◌, ◌≤◌, ◌<◌}
use native.Mathlib.Omega.{arith}
use mathlib.Core.Path.{◌≡◌, refl, sym, ap, ◌∙◌}
use mathlib.Core.Bool.{true, false}
use mathlib.Core.List.{List}
use lib.ListN.{length, length-append, length-drop}
use lib.Seq.{length-take-le}
use borrow.Author.Tests.{lt-ltb, le-ltb}
use Rattle.theory.proofs.Cases.{by_test}
use Rattle.kinds.specs.declared.Finish.{Finish}
use Rattle.kinds.specs.declared.Refusal.{Refusal}
use Rattle.logs.specs.Log.{written_record}
use Rattle.logs.specs.SpelledLogs.{RecordBehind}
use Rattle.logs.proofs.Logs.{record_written, log_kept}
use Rattle.play.specs.Late.{finished_late}
use Rattle.replay.specs.declared.Logged.{Logged}
use Rattle.replay.specs.Arrays.{late_or, with_one_written, OneLogged}

-- A job counts as late where it finished after its due time, and does not count otherwise.
pub counted_late : (l : Logged) (f : Finish) → f.due.0 < f.finish.0 → l.late + 1 ≡ late_or l f
counted_late l f h = simp (lt-ltb _ _ h)

pub counted_in_time : (l : Logged) (f : Finish) → f.finish.0 ≤ f.due.0 → l.late ≡ late_or l f
counted_in_time l f h = simp (le-ltb _ _ h) (omega arith)

-- One job adds at most one to the jobs late.
late_at_most : (l : Logged) (f : Finish) → late_or l f ≤ l.late + 1
late_at_most l f = by_test (finished_late f) (λ e. simp e (omega arith)) (λ e. simp e (omega arith))

module _ (l : Logged) (f : Finish) (log : List ℕ) (room : l.length ≤ length log) {late : ℕ} (counted : late ≡ late_or l f) where
  -- Where the log is full, the job is counted and its record is not written.
  pub one_dropped : l.full ≡ true → OneLogged l f log log (record { length = l.length; late = late; full = true })
  one_dropped full = record { says = simp (counted, full); holds = simp full; same_length = refl; within = room; few_late = omega (arith, late_at_most l f) }

  module _ (room_left : l.full ≡ false) {answer : Result ℕ Refusal} {after : List ℕ} (b : RecordBehind log l.length f answer after) where
    -- What the record writer answered and left is what the definition says.
    answers : written_record f (length log - l.length) ≡ answer
    answers = sym b.answered

    leaves : after ≡ with_one_written l f log
    leaves = b.whole ∙ rw (room_left, answers)

    -- Where the record fits, it is written.
    pub one_written : {took : ℕ} → answer ≡ Ok took
        → OneLogged l f log after (record { length = l.length + took; late = late; full = false })
    one_written {took} a =
        let w = record_written f (length log - l.length) took (answers ∙ a) in
        let keeps : length after ≡ length log = rw (b.whole, a, length-append, length-take-le l.length log room, length-append, length-drop, length-drop)
        (omega (arith, w.spelled, w.had_room)) in
        record {
          says = simp (counted, room_left, answers ∙ a);
          holds = leaves;
          same_length = keeps;
          within = omega (arith, w.had_room);
          few_late = omega (arith, late_at_most l f);
        }

    -- Where the record does not fit, the log is full from now on.
    pub one_without_room : {r : Refusal} → answer ≡ Err r
        → OneLogged l f log after (record { length = l.length; late = late; full = true })
    one_without_room {r} a = record {
      says = simp (counted, room_left, answers ∙ a);
      holds = leaves;
      same_length = ap length (log_kept log l.length f r after (rw a at b));
      within = room;
      few_late = omega (arith, late_at_most l f);
    }
