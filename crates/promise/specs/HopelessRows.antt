-- Hopeless rows. A row with c above d can never be met. A table that has such a row gets no verdict, no run is started on it, and no script is replayed on it:
-- it is refused with 16, at the start of that row's c. The reverse holds as well: 16 is answered only for a row whose four values are in range and whose c is
-- above its d. A run that holds such a row is not sound, so every call on it is refused with 11. (3.3, 6.21, 10.3)
use Rattle.std.specs.Prelude.{ℕ, ◌≤◌, ◌<◌, ◌≡◌, ◌↔◌, ◌⊎◌, length}
use mathlib.Core.List.{List, ◌++◌, Memᴰ}
use Rattle.kinds.specs.Numbering.{refusal_at, refused_with}
use Rattle.numbers.specs.SpelledNumbers.{Bytes}
use Rattle.table.specs.declared.Row.{Row}
use Rattle.table.specs.Limits.{max_rows}
use Rattle.table.specs.Content.{Content}
use Rattle.table.specs.Timer.{GoodTimer}
use Rattle.table.specs.Tables.{rows_of, table_read}
use Rattle.table.specs.SpelledTables.{WithinLimits, spelled_table}
use Rattle.table.specs.Refusals.{HopelessRowIn}
use Rattle.verdict.specs.declared.Verdict.{Verdict}
use Rattle.verdict.specs.Verdict.{Judged, verdict_says}
use Rattle.run.specs.declared.Run.{Run}
use Rattle.run.specs.Runs.{row_at, started}
use Rattle.run.specs.Sound.{Whole}
use Rattle.run.specs.Release.{released}
use Rattle.run.specs.Ticking.{ticked}
use Rattle.run.specs.Answers.{start_says, release_says, tick_says}
use Rattle.run.specs.Answers as says
use Rattle.replay.specs.Outcome.{replay_of, replay_says}
use Rattle.host.specs.Answer.{VerdictAnswered}
use Rattle.host.specs.Buffers.{Filled, ReplayLeaves}

-- ---- 16 exactly when

-- The verdict says 16 at a place exactly when the c of a hopeless row begins there and no test before it refuses. (3.3, 10.3)
abbrev pub VerdictSaysHopeless : Type 0
VerdictSaysHopeless = (table : List ℕ) (v : Verdict) (place : ℕ) → Bytes table → Judged table v
    → (verdict_says v ≡ refusal_at 16 place) ↔ HopelessRowIn table place

-- A start says 16 at a place exactly when the c of a hopeless row begins there and no test before it refuses. (3.3, 6.4)
abbrev pub StartSaysHopeless : Type 0
StartSaysHopeless = (table : List ℕ) (place : ℕ) → Bytes table → (start_says (started table).answer ≡ refused_with 16 place) ↔ HopelessRowIn table place

-- A replay says 16 at a place exactly when the c of a hopeless row of its table begins there and no test before it refuses, whatever the script is. (3.3, 8.1)
abbrev pub ReplaySaysHopeless : Type 0
ReplaySaysHopeless = (table script : List ℕ) (room place : ℕ) → Bytes table → Bytes script
    → (replay_says (replay_of table script room) ≡ refusal_at 16 place) ↔ HopelessRowIn table place

-- ---- never a verdict

-- Where the timer and the values of all rows are in range and a row's c is above its d, the spelling of the table has a hopeless row before which no test
-- refuses, whatever bytes follow it. So the verdict, a start and a replay all say 16 for these bytes. (3.3)
abbrev pub HopelessIsRefused : Type 0
HopelessIsRefused = (content : Content) (more : List ℕ) → GoodTimer content.s content.p
    → length content.rows ≤ max_rows → ((r : Row) → Memᴰ r content.rows → WithinLimits r)
    → (r : Row) → Memᴰ r content.rows → r.d < r.c → (place : ℕ) × HopelessRowIn (spelled_table content ++ more) place

-- No table that gets a verdict has a row with c above d. (3.3)
abbrev pub NoHopelessRowIsJudged : Type 0
NoHopelessRowIsJudged = (table : List ℕ) (v : Verdict) → Bytes table → Judged table v → ((verdict_says v).number ≡ 20) ⊎ ((verdict_says v).number ≡ 21)
    → (r : Row) → Memᴰ r (rows_of (table_read table).table) → r.c ≤ r.d

-- Every call on a run that holds a row with c above d is refused with 11. (`Whole` holds for every run that a program can hold.) (6.8, 6.16, 6.21)
abbrev pub HopelessRunIsRefused : Type 0
HopelessRunIsRefused = (run : Run) → Whole run → (i : ℕ) → i < run.table.count → (row_at run.table i).d < (row_at run.table i).c
    → ((row cost : ℕ) → release_says (released run row cost).answer ≡ says.ReleaseSays.refused 11 0)
    × (tick_says (ticked run).answer ≡ says.TickSays.refused 11 0)

-- ---- the host's own calls

-- An answer buffer holds the place of the c of a hopeless row, and 0. (9.5)
pub record HopelessAt (table after : List ℕ) : Type 0 where
  pub place : ℕ
  pub hopeless : HopelessRowIn table place
  pub told : Filled (refusal_at 16 place) after

-- Where `verdict` may return 16 for a table, the answer buffer points at the c of a hopeless row. (9.5, 10.3)
abbrev pub VerdictCallHopeless : Type 0
VerdictCallHopeless = (table : List ℕ) → Bytes table → (lent written : List ℕ) → VerdictAnswered table lent 16 written → HopelessAt table written

-- Where `replay` returns 16, the answer buffer points at the c of a hopeless row of the table. (9.5, 10.3)
abbrev pub ReplayCallHopeless : Type 0
ReplayCallHopeless = (table script : List ℕ) → Bytes table → Bytes script → (log answer after left : List ℕ)
    → ReplayLeaves table script log answer 16 after left → HopelessAt table after
