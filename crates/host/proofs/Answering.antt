-- What the two calls return and write, by the length of the answer buffer, and which statuses can come. (docs/RULES.md, sections 9.4 to 9.7.)
use Rattle.std.specs.Prelude.{Result, Ok, Err}
use Rattle.kinds.specs.declared.RefusedAt.{RefusedAt}
use Prim.Native.Nat.{ℕ, zero, suc, ◌+◌, ◌-◌, ◌/◌, ◌%◌, ◌^◌, ◌≤◌, ◌<◌}
use mathlib.Core.Path.{◌≡◌, refl, sym, ap, ◌∙◌}
use mathlib.Core.Logic.{◌≢◌, ◌⊎◌, inl, inr, ⊎_elim}
use mathlib.Core.List.{List}
use native.Mathlib.Nat.{not-suc-le-zero, le_of_suc-le-suc, div-one, div-div-eq-div-mul, pow-succ'}
use native.Mathlib.Omega.{arith}
use lib.ListN.{length, get_or, length-append, get_or-append}
use lib.Seq.{get_or-append-add, ext_get_or}
use borrow.Author.Tests.{eq-eqb, ne_eqb}
use Rattle.kinds.specs.Numbering.{Said, refusal_number}
use Rattle.kinds.specs.declared.Refusal.TheVariants.{NoRoom}
use Rattle.kinds.proofs.Numbering.{numbers_differ}
use Rattle.numbers.specs.SpelledNumbers.{Bytes}
use Rattle.theory.proofs.Cases.{by_lt, by_eq}
use Rattle.table.specs.Tables.{table_read}
use Rattle.table.specs.Refusals.{TableRefusal}
use Rattle.table.proofs.Refusals.{refused_as_a_table}
use Rattle.words.specs.Words.{word_length, lowest_first}
use Rattle.words.proofs.Storing.{length-lowest_first}
use Rattle.verdict.specs.declared.Verdict.{Verdict}
use Rattle.verdict.specs.declared.Verdict.TheVariants as verdict
use Rattle.verdict.specs.Verdict.{RightOfRead, Judged, verdict_says}
use Rattle.replay.specs.declared.Replayed.{Replayed}
use Rattle.replay.specs.declared.Replayed.TheVariants as replayed
use Rattle.replay.specs.Outcome.{replay_of, replay_says}
use Rattle.play.proofs.Stopping.{stopped_by}
use Rattle.replay.proofs.Answering.{no_room_answered as no_room_means, refused_answered as refused_means}
use Rattle.play.proofs.Lengths.{log_is_short}
use Rattle.host.specs.Answer.{answer_length, answer_bytes, wrong_size, said}
use Rattle.host.specs.Buffers.{Filled}
use Rattle.host.specs.HostLaws.{AnswerFilled, VerdictOfAnotherSize, ReplayOfAnotherSize, VerdictOfSixteen, ReplayOfSixteen}
use Rattle.host.specs.HostLaws.{ReplayIs13, ReplayNeverReturns, TenTimesIsRoom, VerdictStatuses, VerdictIs13}

-- ---- what fills the answer buffer

-- Byte i of a number's bytes is its i-th byte, counted from the lowest.
byte_of : (k n i : ℕ) → i < k → get_or (lowest_first k n) i 0 ≡ n / 256 ^ i % 256
unfolding lowest_first
byte_of zero n i h = absurd (not-suc-le-zero h)
byte_of (suc k) n zero h = rw (div-one n)
byte_of (suc k) n (suc i) h = byte_of k (n / 256) i (le_of_suc-le-suc h) ∙ ap (λ m. m % 256) (rw (pow-succ' 256 i, div-div-eq-div-mul n 256 (256 ^ i)))

-- The bytes that the calls write for two numbers hold these numbers.
filled : (s : Said) → Filled s (answer_bytes s)
filled s =
    let one = lowest_first word_length s.first in
    let other = lowest_first word_length s.second in
    let long = length-lowest_first word_length s.first in
    record {
      sixteen = length-append one other ∙ omega (arith, long, length-lowest_first word_length s.second);
      first = λ i h. get_or-append one other 0 i (omega (arith, long)) ∙ byte_of word_length s.first i h;
      second = λ i h. (rw long at (get_or-append-add one other i 0)) ∙ byte_of word_length s.second i h;
    }

-- Two answer buffers that hold the same two numbers have the same bytes.
filled_once : {s : Said} {a b : List ℕ} → Filled s a → Filled s b → a ≡ b
filled_once {s} {a} {b} f g = ext_get_or 0 a b (f.sixteen ∙ sym g.sixteen) λ i h.
    by_lt i 8 (λ low. f.first i low ∙ sym (g.first i low))
    (λ high.
    let at : 8 + (i - 8) ≡ i = omega arith in
    let inside : i - 8 < 8 = omega (arith, f.sixteen) in
    rw at at (f.second (i - 8) inside ∙ sym (g.second (i - 8) inside)))

pub answer_filled : AnswerFilled
answer_filled s after = (λ f. filled_once f (filled s), λ e. rw e (filled s))

-- ---- 13 comes first

pub verdict_of_another_size : VerdictOfAnotherSize
verdict_of_another_size table answer status after other = (
  λ a. elim a [ wrong_size l s k ↦ (s, k) | said l v j s k ↦ absurd (other l) ],
  λ w. wrong_size other w.0 w.1,
)

pub replay_of_another_size : ReplayOfAnotherSize
replay_of_another_size table script log answer other = rw (ne_eqb (length answer) answer_length other) (refl, refl, refl)

-- ---- any other answer

pub verdict_of_sixteen : VerdictOfSixteen
verdict_of_sixteen table answer status after sixteen = (
  λ a. elim a [ wrong_size l s k ↦ absurd (l sixteen) | said l v j s k ↦ (v, j, s, (answer_filled (verdict_says v) after).1 k) ],
  λ w. said sixteen w.0 w.1 w.2 ((answer_filled (verdict_says w.0) after).0 w.3),
)

pub replay_of_sixteen : ReplayOfSixteen
replay_of_sixteen table script log answer status after left sixteen = rw (eq-eqb (length answer) answer_length sixteen) (
  λ w. record { its_number = sym w.0; its_answer = (answer_filled _ after).1 (sym w.1); its_log = sym w.2 },
  λ t. (sym t.its_number, sym ((answer_filled _ after).0 t.its_answer), sym t.its_log),
)

-- ---- numbers that no replay has

-- Of the numbers above 10, a replay says only 12, 14, 16, 22 and 23.
never_said : (table script : List ℕ) (room n : ℕ) → Bytes table → Bytes script → 10 < n → n ≢ 12 → n ≢ 14 → n ≢ 16 → n ≢ 22 → n ≢ 23
    → (replay_says (replay_of table script room)).number ≢ n
never_said table script room n rows records above not_12 not_14 not_16 not_22 not_23 = by_outcome (replay_of table script room) refl
  where
    by_outcome : (v : Replayed) → replay_of table script room ≡ v → (replay_says v).number ≢ n
    by_outcome (replayed.InTime m) e is = not_22 (sym is)
    by_outcome (replayed.Late l) e is = not_23 (sym is)
    by_outcome (replayed.Refused r) e is =
        let stopped = (refused_means table script room r (λ room. not_12 (sym is ∙ ap refusal_number room))).0 e in
        ⊎_elim (λ low. omega arith) (⊎_elim (λ is_14. not_14 (sym is ∙ is_14)) (λ is_16. not_16 (sym is ∙ is_16)))
        (stopped_by table script r rows records stopped)

pub replay_is_13 : ReplayIs13
replay_is_13 table script room size rows records = by_eq size answer_length
    (λ same.
    let never = never_said table script room 13 rows records (omega arith) (λ e. omega arith) (λ e. omega arith) (λ e. omega arith) (λ e. omega arith)
    (λ e. omega arith) in
    rw (eq-eqb size answer_length same) (λ is. absurd (never is), λ other. absurd (other same)))
    (λ other. rw (ne_eqb size answer_length other) (λ is. other, λ o. refl))

pub replay_never_returns : ReplayNeverReturns
replay_never_returns table script room size rows records = by_eq size answer_length
    (λ same. rw (eq-eqb size answer_length same) (
      never_said table script room 11 rows records (omega arith) (λ e. omega arith) (λ e. omega arith) (λ e. omega arith) (λ e. omega arith) (λ e. omega arith),
      never_said table script room 17 rows records (omega arith) (λ e. omega arith) (λ e. omega arith) (λ e. omega arith) (λ e. omega arith) (λ e. omega arith),
      never_said table script room 18 rows records (omega arith) (λ e. omega arith) (λ e. omega arith) (λ e. omega arith) (λ e. omega arith) (λ e. omega arith),
      never_said table script room 25 rows records (omega arith) (λ e. omega arith) (λ e. omega arith) (λ e. omega arith) (λ e. omega arith) (λ e. omega arith),
    ))
    (λ other. rw (ne_eqb size answer_length other) (λ e. omega arith, λ e. omega arith, λ e. omega arith, λ e. omega arith))

-- 12 means that the log is longer than its buffer, and no log is longer than ten times its script.
pub ten_times_is_room : TenTimesIsRoom
ten_times_is_room table script room size rows records enough = by_eq size answer_length
    (λ same. rw (eq-eqb size answer_length same) (by_outcome (replay_of table script room) refl))
    (λ other. rw (ne_eqb size answer_length other) (λ e. omega arith))
  where
    by_outcome : (v : Replayed) → replay_of table script room ≡ v → (replay_says v).number ≢ 12
    by_outcome (replayed.InTime m) e is = omega arith
    by_outcome (replayed.Late l) e is = omega arith
    by_outcome (replayed.Refused r) e is =
        let no_room = ap (λ kind. replayed.Refused (record { refusal = kind; place = r.place })) (numbers_differ r.refusal NoRoom is) in
        let w = (no_room_means table script room r.place rows records).0 (e ∙ no_room) in
        omega (arith, w.2.log_length, w.3, log_is_short table script w.0 rows records w.2.came_to_its_end)

-- ---- numbers that a verdict has

-- A verdict that is right for a table says a refusal of tables where the table is refused, and else 20 or 21.
verdict_says_lem : (table : List ℕ) (v : Verdict) → Bytes table → Judged table v
    → TableRefusal (verdict_says v).number ⊎ ((20 ≤ (verdict_says v).number) × ((verdict_says v).number ≤ 21))
verdict_says_lem table verdict.Feasible bytes j = inr (omega arith, omega arith)
verdict_says_lem table (verdict.Overloaded w) bytes j = inr (omega arith, omega arith)
verdict_says_lem table (verdict.Refused r) bytes j = inl (by_answer (table_read table).answer refl j)
  where
    by_answer : (a : Result ℕ RefusedAt) → (table_read table).answer ≡ a → RightOfRead (table_read table).table a (verdict.Refused r)
        → TableRefusal (refusal_number r.refusal)
    by_answer (Ok period) e right = absurd right
    by_answer (Err q) e right = let same : r ≡ q = cc in rw same (refused_as_a_table table q bytes e)

pub verdict_statuses : VerdictStatuses
verdict_statuses table answer status after bytes (wrong_size l s k) = inr (inl s)
verdict_statuses table answer status after bytes (said l v j s k) =
    rw s (⊎_elim (λ low. inl low) (λ high. inr (inr high)) (verdict_says_lem table v bytes j))

pub verdict_is_13 : VerdictIs13
verdict_is_13 table answer status after bytes (wrong_size l s k) = (λ is. l, λ other. s)
verdict_is_13 table answer status after bytes (said l v j s k) = (
  λ is. absurd (⊎_elim (⊎_elim (λ low. omega arith) (λ sixteen. omega arith)) (λ high. omega arith) (verdict_says_lem table v bytes j)),
  λ other. absurd (other l),
)
