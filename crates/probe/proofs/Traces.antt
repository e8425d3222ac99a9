-- Traces as bytes: each call's answer is written behind the answers before it, until all that have room stand in the buffer. The answers are those of the
-- traces of the promises. (docs/RULES.md, section 6.)
use Prim.Native.Nat.{ℕ, zero, suc, ◌+◌, ◌-◌, ◌*◌, ◌/◌, ◌^◌, ◌≤◌, ◌<◌}
use mathlib.Core.Path.{◌≡◌, refl, sym, ap, ◌∙◌}
use mathlib.Core.Bool.{true, false}
use mathlib.Core.List.{List, [], ◌∷◌, ◌++◌, flatten, map, reverse, reverse_aux, append_assoc, append-nil, reverse-cons}
use native.Mathlib.Nat.{zero-add}
use native.Mathlib.Omega.{arith}
use lib.ListN.{length, take, length-append}
use lib.Seq.{sets, sets-eq, length-sets}
use borrow.Rule.Slice.PartMut.{mid_of, put_mid}
use Rattle.kinds.specs.Numbering.{Says, numbered, values}
use Rattle.run.specs.declared.Run.{Run}
use Rattle.run.specs.Runs.{started}
use Rattle.run.specs.Answers.{start_says}
use Rattle.run.specs.Answers.{accepted, idle, ran}
use Rattle.run.specs.Answers as says
use Rattle.promise.specs.Traces.{Call, Event, run_after, event_of, run_at, trace}
use Rattle.kinds.proofs.Lists.{sets-append}
use Rattle.probe.specs.Words.{most_words, words_bytes}
use Rattle.probe.specs.Traced.{call_length, call_at, calls_from, events_from, start_words, event_words}
use Rattle.probe.specs.Traced.{trace_answer_length, trace_words, answers_after, EventsAreTheTrace}
use Rattle.probe.proofs.Words.{length-words_bytes, stored_from}

-- ---- the promises' traces

-- A trace of earlier and later calls, oldest first, is the trace of the earlier calls and then the answers of the later calls.
then_later : (table : List ℕ) (later earlier : List Call)
    → reverse (trace table (reverse_aux later earlier)) ≡ reverse (trace table earlier) ++ events_from (run_at table earlier) later
unfolding trace run_at events_from
then_later table [] earlier = sym (append-nil _)
then_later table (c ∷ later) earlier = then_later table later (c ∷ earlier) ∙ rw (reverse-cons, append_assoc)

pub events_are_the_trace : EventsAreTheTrace
unfolding trace run_at
events_are_the_trace table calls = sym (then_later table calls [])

-- ---- answers in words

-- The answers of a start and of a call have four words each.
start_is_four : (a : Says) → length (start_words a) ≡ most_words
start_is_four (values vs) = refl
start_is_four (numbered s) = refl

event_is_four : (e : Event) → length (event_words e) ≡ most_words
event_is_four (Event.release row cost (accepted serial due)) = refl
event_is_four (Event.release row cost (says.ReleaseSays.refused n place)) = refl
event_is_four (Event.tick idle late) = refl
event_is_four (Event.tick says.taken late) = refl
event_is_four (Event.tick (ran serial false) late) = refl
event_is_four (Event.tick (ran serial true) late) = refl
event_is_four (Event.tick (says.TickSays.refused n place) late) = refl
event_is_four (Event.end serial (says.EndingSays.ended_with units)) = refl
event_is_four (Event.end serial (says.EndingSays.refused n place)) = refl

-- The four words of an answer take the bytes of an answer.
four_words : (ws : List ℕ) → length ws ≡ most_words → length (words_bytes ws) ≡ trace_answer_length
four_words ws h = omega (arith, length-words_bytes ws)

-- The answers of the calls from a place on, as many as `count` says, in bytes.
abbrev answered : Run → (count : ℕ) (calls : List ℕ) (at : ℕ) → List ℕ
answered run count calls at = flatten (map words_bytes (map event_words (events_from run (calls_from count calls at))))

-- The answers from a place on are the answer of the call there, and then those of the calls after it.
answered_more : (run : Run) (count k : ℕ) (calls : List ℕ) (at : ℕ) → count ≡ suc k
    → (let c = call_at calls at in
    answered run count calls at ≡ words_bytes (event_words (event_of run c)) ++ answered (run_after run c) k calls (at + call_length))
unfolding flatten events_from calls_from
answered_more run count k calls at e = rw e

-- The answers of some calls take as many bytes as that many answers have.
answered_length : (run : Run) (count : ℕ) (calls : List ℕ) (at : ℕ) → length (answered run count calls at) ≡ count * trace_answer_length
unfolding flatten events_from calls_from
answered_length run zero calls at = refl
answered_length run (suc k) calls at =
    let e = event_of run (call_at calls at) in
    length-append (words_bytes (event_words e)) _
    ∙ omega (arith, four_words (event_words e) (event_is_four e), answered_length (run_after run (call_at calls at)) k calls (at + call_length))

-- The first k answers are the answers of the first k calls.
first_answers : (k n : ℕ) (run : Run) (calls : List ℕ) (at : ℕ) → k ≤ n
    → take k (map event_words (events_from run (calls_from n calls at))) ≡ map event_words (events_from run (calls_from k calls at))
unfolding events_from calls_from
first_answers zero n run calls at h = refl
first_answers (suc k) zero run calls at h = absurd (omega arith)
first_answers (suc k) (suc n) run calls at h =
    let c = call_at calls at in
    ap (λ l. event_words (event_of run c) ∷ l) (first_answers k n (run_after run c) calls (at + call_length) (omega arith))

-- Where there are no calls, there are no answers.
answered_none : (run : Run) (calls : List ℕ) (at : ℕ) → answered run 0 calls at ≡ []
unfolding flatten events_from calls_from
answered_none run calls at = refl

-- The answers that are written are that of the start and those of the calls that are played.
shown_answers : (table calls : List ℕ) (shown : ℕ) → 1 ≤ shown → shown ≤ length calls / call_length + 1
    → flatten (map words_bytes (take shown (trace_words table calls)))
    ≡ words_bytes (start_words (start_says (started table).answer)) ++ answered (started table).run (shown - 1) calls 0
unfolding flatten
shown_answers table calls zero h there = absurd (omega arith)
shown_answers table calls (suc k) h there =
    let less : suc k - 1 ≡ k = omega arith in
    rw (less, first_answers k (length calls / call_length) (started table).run calls 0 (omega arith))

-- ---- the loop

-- The first i answers stand in the buffer, and storing the answers of the other calls behind them completes it.
pub record Standing (calls answers₀ : List ℕ) (shown : ℕ) (run₀ : Run) (answers : List ℕ) (run : Run) (i : ℕ) : Type 0 where
  pub begun : 1 ≤ i
  pub not_past : i ≤ shown
  pub countable : shown < 2 ^ 32
  pub has_room : shown * trace_answer_length ≤ length answers₀
  pub same_length : length answers ≡ length answers₀
  pub completes : sets answers (i * trace_answer_length) (answered run (shown - i) calls ((i - 1) * call_length))
      ≡ sets answers₀ trace_answer_length (answered run₀ (shown - 1) calls 0)

-- One turn of the loop writes the answer of one more call into the rest of the buffer behind the answers before it.
module _ {calls answers₀ : List ℕ} {shown : ℕ} {run₀ : Run} {answers : List ℕ} {run : Run} {i : ℕ} (p : Standing calls answers₀ shown run₀ answers run i) where
  pub one_standing : i < shown
      → (let c = call_at calls ((i - 1) * call_length) in
      let place = i * trace_answer_length in
      let room = length answers - place in
      let written = sets (mid_of place room answers) 0 (words_bytes (event_words (event_of run c))) in
      Standing calls answers₀ shown run₀ (put_mid place room answers written) (run_after run c) (i + 1))
  one_standing h =
      let at = (i - 1) * call_length in
      let e = event_of run (call_at calls at) in
      let bytes = words_bytes (event_words e) in
      let four : length bytes ≡ trace_answer_length = four_words (event_words e) (event_is_four e) in
      let stored = stored_from answers bytes (i * trace_answer_length) (omega (arith, four, p.has_room, p.same_length)) in
      let more = answered_more run (shown - i) (shown - (i + 1)) calls at (omega arith) in
      let next : (i + 1) * trace_answer_length ≡ i * trace_answer_length + trace_answer_length = omega arith in
      let after : (i + 1 - 1) * call_length ≡ at + call_length = omega (arith, p.begun) in
      rw stored (record {
        begun = omega arith;
        not_past = omega arith;
        countable = p.countable;
        has_room = p.has_room;
        same_length = simp length-sets p.same_length;
        completes = rw (next, after) (rw (more, sets-append, four) at p.completes);
      })

-- After the loop all answers stand in the buffer, and what comes after them is as it was.
pub all_standing : (table calls answers : List ℕ) (shown : ℕ) {after : List ℕ} {run : Run} {i : ℕ}
    → (let first = sets answers 0 (words_bytes (start_words (start_says (started table).answer))) in
    Standing calls first shown (started table).run after run i) → shown ≤ i → shown ≤ length calls / call_length + 1
    → after ≡ answers_after shown (trace_words table calls) answers
all_standing table calls answers shown {after} {run} {i} p h there =
    let first = start_words (start_says (started table).answer) in
    let four = four_words first (start_is_four (start_says (started table).answer)) in
    let bytes = words_bytes first in
    let later = answered (started table).run (shown - 1) calls 0 in
    let over : shown - i ≡ 0 = omega arith in
    let long : length (bytes ++ later) ≡ shown * trace_answer_length =
    length-append bytes later ∙ omega (arith, four, answered_length (started table).run (shown - 1) calls 0, p.begun, p.not_past) in
    let stored : after ≡ sets answers 0 (bytes ++ later) =
    rw (over, answered_none) at p.completes ∙ rw (sets-append, four, zero-add) in
    let room = rw length-sets at p.has_room in
    let all = shown_answers table calls shown (omega (arith, p.begun, p.not_past)) there in
    stored ∙ sets-eq (bytes ++ later) answers 0 (omega (arith, room)) ∙ rw (zero-add, long, all)
