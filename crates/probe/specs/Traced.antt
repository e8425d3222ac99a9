-- A trace as bytes: each call on a run in three words of eight bytes, and each answer in four. The answers are those of the traces of the promises (crate
-- promise, specs/Traces.antt), listed oldest first. (docs/RULES.md, section 6.)
use Rattle.kinds.specs.declared.RefusedAt.{RefusedAt}
use Rattle.numbers.specs.declared.Number.{Number}
use Rattle.std.specs.Prelude.{ℕ, zero, suc, ◌+◌, ◌-◌, ◌*◌, ◌/◌, ◌^◌, min, ◌≡◌, true, false, cond, eqb, length, take, drop, Result, Ok, Err}
use mathlib.Core.List.{List, [], ◌∷◌, ◌++◌, flatten, map, reverse}
use Rattle.kinds.specs.Numbering.{Says, numbered, values}
use Rattle.run.specs.declared.Run.{Run}
use Rattle.run.specs.Runs.{started}
use Rattle.run.specs.Answers.{start_says}
use Rattle.run.specs.Answers.{ReleaseSays, accepted, TickSays, idle, ran, taken, EndingSays, ended_with}
use Rattle.run.specs.Answers as says
use Rattle.promise.specs.Traces.{Call, Event, run_after, event_of, trace}
use Rattle.words.specs.Words.{word_length, word_at}
use Rattle.probe.specs.declared.Call as code
use Rattle.probe.specs.declared.Call.TheVariants as call
use Rattle.probe.specs.declared.Played.{Played}
use Rattle.probe.specs.Words.{most_words, words_bytes}

-- ---- calls

-- The length of a call in bytes: three words.
abbrev pub call_length : ℕ
call_length = 3 * word_length

-- The value that was read, or 0 where the reading was refused.
abbrev pub value_or_0 : Result Number RefusedAt → ℕ
value_or_0 (Ok n) = n.value
value_or_0 (Err r) = 0

-- The word at a place, or 0 where it is cut off.
abbrev pub word_or_0 : List ℕ → (at : ℕ) → ℕ
word_or_0 s at = value_or_0 (word_at s at)

-- The call of the promises that a call of the code is.
abbrev pub as_call : code.Call → Call
as_call (call.Release row cost) = Call.release row.0 cost
as_call (call.End serial) = Call.end serial.0
as_call call.Tick = Call.tick

-- The call that three words say. It is a release of a row with a cost where the first word is 1, the end of the job with the serial in the second word where
-- the first word is 3, and a tick where it is anything else.
abbrev pub call_of : (kind row cost : ℕ) → Call
call_of kind row cost = cond (eqb kind 1) (Call.release row cost) (cond (eqb kind 3) (Call.end row) Call.tick)

-- The call at a place, from its three words one after another.
abbrev pub call_at : List ℕ → (at : ℕ) → Call
call_at s at = call_of (word_or_0 s at) (word_or_0 s (at + word_length)) (word_or_0 s (at + 2 * word_length))

-- The calls from a place on, as many as `count` says, oldest first.
unfoldable pub calls_from : (count : ℕ) → List ℕ → (at : ℕ) → List Call
calls_from zero s at = []
calls_from (suc count) s at = call_at s at ∷ calls_from count s (at + call_length)

-- All calls that stand whole in the bytes, oldest first. A call that is cut off at the end is left out.
abbrev pub calls_in : List ℕ → List Call
calls_in s = calls_from (length s / call_length) s 0

-- ---- answers

-- Calls with their answers, oldest first, where the calls are played one after another from a run on.
unfoldable pub events_from : Run → List Call → List Event
events_from run [] = []
events_from run (c ∷ later) = event_of run c ∷ events_from (run_after run c) later

-- The words of a refusal: 6, the refusal's number, its place and 0.
abbrev pub refused_words : (refusal place : ℕ) → List ℕ
refused_words refusal place = 6 ∷ refusal ∷ place ∷ 0 ∷ []

-- The words of a start's answer: 1 where the run is ready, or those of its refusal. (6.4)
abbrev pub start_words : Says → List ℕ
start_words (values vs) = 1 ∷ 0 ∷ 0 ∷ 0 ∷ []
start_words (numbered s) = refused_words s.number s.first

-- The words of a release's answer: 2, the job's serial and its due time, or those of its refusal. (6.6, 6.8)
abbrev pub release_words : ReleaseSays → List ℕ
release_words (accepted serial due) = 2 ∷ serial ∷ due ∷ 0 ∷ []
release_words (says.ReleaseSays.refused n place) = refused_words n place

-- The words of a tick's answer, with the late count as the last: 3 for idle, 7 for taken, 4 and the serial for a unit that did not finish its job, 5 and the
-- serial for one that did, or those of its refusal. (6.12, 6.14, 6.16)
abbrev pub tick_words : TickSays → (late : ℕ) → List ℕ
tick_words idle late = 3 ∷ 0 ∷ 0 ∷ late ∷ []
tick_words taken late = 7 ∷ 0 ∷ 0 ∷ late ∷ []
tick_words (ran serial false) late = 4 ∷ serial ∷ 0 ∷ late ∷ []
tick_words (ran serial true) late = 5 ∷ serial ∷ 0 ∷ late ∷ []
tick_words (says.TickSays.refused n place) late = refused_words n place

-- The words of an end's answer: 8 and the units that the job was given, or those of its refusal. (6.27, 6.30)
abbrev pub end_words : EndingSays → List ℕ
end_words (ended_with units) = 8 ∷ units ∷ 0 ∷ 0 ∷ []
end_words (says.EndingSays.refused n place) = refused_words n place

-- The words of a call's answer, be it a release, a tick or an end.
abbrev pub event_words : Event → List ℕ
event_words (Event.release row cost a) = release_words a
event_words (Event.tick a late) = tick_words a late
event_words (Event.end serial a) = end_words a

-- The run after a call, and the words of the call's answer.
abbrev pub after_call : Run → Call → Played
after_call run c = record { run = run_after run c; answer = event_words (event_of run c) }

-- ---- a trace

-- The length of an answer in bytes: four words.
abbrev pub trace_answer_length : ℕ
trace_answer_length = most_words * word_length

-- How many answers are written: one for the start and one for each whole call, but no more than there is room for, and at most 2^32 - 1. `calls` and `room` are
-- the lengths of the two buffers in bytes.
abbrev pub answers_shown : (calls room : ℕ) → ℕ
answers_shown calls room = min (min (calls / call_length + 1) (room / trace_answer_length)) (2 ^ 32 - 1)

-- The words of all answers of a trace: first those of the start on the table, and then those of each call.
abbrev pub trace_words : (table calls : List ℕ) → List (List ℕ)
trace_words table calls = start_words (start_says (started table).answer) ∷ map event_words (events_from (started table).run (calls_in calls))

-- The buffer after a trace: the first answers, as many as `shown` says, and behind them what stood there before.
abbrev pub answers_after : (shown : ℕ) → List (List ℕ) → List ℕ → List ℕ
answers_after shown answers buffer = flatten (map words_bytes (take shown answers)) ++ drop (shown * trace_answer_length) buffer

-- ---- what is proved (proofs/Traces.antt)

-- The calls with their answers, as they are listed here, are the trace that the promises speak of. That trace lists them newest first.
abbrev pub EventsAreTheTrace : Type 0
EventsAreTheTrace = (table : List ℕ) (calls : List Call) → events_from (started table).run calls ≡ reverse (trace table (reverse calls))
