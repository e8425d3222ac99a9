-- What the probe's calls on a lent run answer, and the run afterwards. Runs and answers are those of start, release, tick and end by value. (docs/RULES.md,
-- section 6.)
use Rattle.std.specs.Prelude.{ℕ, ◌≡◌, List}
use Rattle.run.specs.declared.Run.{Run}
use Rattle.run.specs.Runs.{started}
use Rattle.run.specs.Release.{released}
use Rattle.run.specs.Ticking.{ticked}
use Rattle.run.specs.Ending.{ended}
use Rattle.run.specs.Answers.{start_says, release_says, tick_says, end_says}
use Rattle.promise.specs.Traces.{Call, run_after, event_of}
use Rattle.probe.specs.declared.FourWords.{FourWords}
use Rattle.probe.specs.Traced.{start_words, release_words, tick_words, end_words, event_words}

-- A run after a call, and the call's answer in words.
pub record LentStep : Type 0 where
  pub run : Run
  pub answer : FourWords

-- The run after a call, and the call's answer in four words.
abbrev pub in_words : Run → (words : List ℕ) → LentStep
in_words run words = record { run = run; answer = record { words = words } }

-- A start: the run on the table, and the answer of the start. What stood in the run's memory before plays no part. (6.4)
abbrev pub lent_started : (table : List ℕ) → LentStep
lent_started table = let step = started table in in_words step.run (start_words (start_says step.answer))

-- A release in a run: the next run and the answer are those of the release by value, refusals included. (6.6, 6.8, 6.19)
abbrev pub lent_released : Run → (row cost : ℕ) → LentStep
lent_released run row cost = let step = released run row cost in in_words step.run (release_words (release_says step.answer))

-- A tick of a run: the next run, and the answer with its late count, are those of the tick by value, refusals included. (6.12, 6.14, 6.19)
abbrev pub lent_ticked : Run → LentStep
lent_ticked run = let step = ticked run in in_words step.run (tick_words (tick_says step.answer) step.late)

-- An end in a run: the next run and the answer are those of the end by value, refusals included. (6.19, 6.27)
abbrev pub lent_ended : Run → (serial : ℕ) → LentStep
lent_ended run serial = let step = ended run serial in in_words step.run (end_words (end_says step.answer))

-- ---- what is proved (proofs/LentRuns.antt)

-- A call of a trace on a lent run: a release, a tick or an end. (6.19)
abbrev pub lent_played : Run → Call → LentStep
lent_played run (Call.release row cost) = lent_released run row cost
lent_played run Call.tick = lent_ticked run
lent_played run (Call.end serial) = lent_ended run serial

-- The run that is left and the words that are answered are those of the same call in a trace. (6.19)
abbrev pub LentPlaysTheCall : Type 0
LentPlaysTheCall = (run : Run) (c : Call) → lent_played run c ≡ in_words (run_after run c) (event_words (event_of run c))
