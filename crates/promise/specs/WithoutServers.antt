-- Tables without servers. Where the server count is 0, the table is its timer and its rows, as it was before there were servers. Its verdict is what rows and
-- timer say, a release is what it was, no last due time ever moves, and the witness names the rows' jobs alone. So whoever trusted a table keeps all that was
-- promised for it: the byte `00` is put after its bytes, and nothing else changes. (3.6, 5.18)
use Rattle.std.specs.Prelude.{ℕ, ◌≡◌, ◌↔◌, replicate}
use mathlib.Core.List.{List, [], ◌∷◌, ◌++◌, flatten}
use Rattle.kinds.specs.Numbering.{values}
use Rattle.numbers.specs.Spelling.{spelling}
use Rattle.numbers.specs.SpelledNumbers.{Bytes}
use Rattle.theory.specs.Curves.{EveryLengthFits, SmallestFailing}
use Rattle.theory.specs.Demand.{row_jobs}
use Rattle.theory.specs.Sources.{in_turn}
use Rattle.table.specs.declared.Row.{Row}
use Rattle.table.specs.Limits.{max_servers}
use Rattle.table.specs.Content.{without_servers}
use Rattle.table.specs.Timer.{GoodTimer}
use Rattle.table.specs.Tables.{content_of, table_read}
use Rattle.table.specs.SpelledTables.{GoodRows, spelled_rows}
use Rattle.table.specs.Answers.{table_says}
use Rattle.verdict.specs.declared.Verdict.{Verdict}
use Rattle.verdict.specs.Verdict.{Judged, verdict_says}
use Rattle.verdict.specs.RowsAlone.{demand_of_rows_and_timer}
use Rattle.run.specs.Release.{released}
use Rattle.run.specs.WithoutServers.{released_by_rows}
use Rattle.promise.specs.Traces.{Call, run_at}
use Rattle.promise.specs.NoOrder.{first_jobs, named_jobs}

-- The bytes are accepted, and say this timer and these rows, and no servers. (3.6)
pub record SaysNoServers (bytes : List ℕ) (s p : ℕ) (rows : List Row) : Type 0 where
  pub period : ℕ
  pub accepted : table_says (table_read bytes).answer ≡ values (period ∷ [])
  pub none : content_of (table_read bytes).table ≡ without_servers s p rows

-- The bytes of a table with this timer and these rows as they were before there were servers. (3.6)
abbrev pub spelled_before : (s p : ℕ) → List Row → List ℕ
spelled_before s p rows = spelling s ++ (spelling p ++ spelled_rows rows)

-- Bytes that say no servers are those of before there were servers, and then `00` for a server count of 0. (3.6)
abbrev pub SpelledWithOneByteMore : Type 0
SpelledWithOneByteMore = (bytes : List ℕ) → Bytes bytes → (s p : ℕ) (rows : List Row) → SaysNoServers bytes s p rows
    → bytes ≡ spelled_before s p rows ++ (0x00 ∷ [])

-- The verdict is feasible exactly when the sum of the rows' demands and of the taken ticks is at most the length, for every length. (5.18)
abbrev pub FeasibleWithoutServers : Type 0
FeasibleWithoutServers = (bytes : List ℕ) (s p : ℕ) (rows : List Row) → SaysNoServers bytes s p rows → (v : Verdict) → Judged bytes v
    → ((verdict_says v).number ≡ 20) ↔ EveryLengthFits (demand_of_rows_and_timer s p rows)

-- The verdict is overloaded with a length and a demand exactly when this is the smallest length that the rows' demands and the taken ticks exceed, and the
-- demand is their sum. (5.18)
abbrev pub OverloadedWithoutServers : Type 0
OverloadedWithoutServers = (bytes : List ℕ) (s p : ℕ) (rows : List Row) → SaysNoServers bytes s p rows → (v : Verdict) → Judged bytes v → (L units : ℕ)
    → (verdict_says v ≡ record { number = 21; first = L; second = units })
    ↔ (SmallestFailing (demand_of_rows_and_timer s p rows) L × (units ≡ demand_of_rows_and_timer s p rows L))

-- After any calls, a release is that by the rows alone: 11, 6 from the row count on, 7 by the row's c, 8 and 9. (5.18, 6.8)
abbrev pub ReleasesByTheRows : Type 0
ReleasesByTheRows = (bytes : List ℕ) → Bytes bytes → (s p : ℕ) (rows : List Row) → SaysNoServers bytes s p rows → (calls : List Call) (row cost : ℕ)
    → released (run_at bytes calls) row cost ≡ released_by_rows (run_at bytes calls) row cost

-- After any calls, the run's last due times are what a fresh run has, which is 0 for every server that a table has room for. (5.18, 6.3)
abbrev pub NoLastDueTimeMoves : Type 0
NoLastDueTimeMoves = (bytes : List ℕ) → Bytes bytes → (s p : ℕ) (rows : List Row) → SaysNoServers bytes s p rows → (calls : List Call)
    → (run_at bytes calls).last ≡ replicate max_servers (record { 0 = 0 })

-- The jobs that a length names are those of the rows, and no others. (5.10, 5.18)
abbrev pub NamedOfRowsAlone : Type 0
NamedOfRowsAlone = (bytes : List ℕ) (s p : ℕ) (rows : List Row) → SaysNoServers bytes s p rows → (L : ℕ)
    → named_jobs (table_read bytes).table L
    ≡ flatten (in_turn (λ source first (r : Row). first_jobs source first r (row_jobs r.x r.y r.d L)) 0 0 rows)

-- Such tables exist: of a timer and rows that a table may have, the bytes of before there were servers and the byte `00` say them wherever they are accepted.
-- (3.6)
abbrev pub SpelledSaysNoServers : Type 0
SpelledSaysNoServers = (s p : ℕ) (rows : List Row) (period : ℕ) → GoodTimer s p → GoodRows rows
    → let bytes : List ℕ = spelled_before s p rows ++ (0x00 ∷ []) in
    table_says (table_read bytes).answer ≡ values (period ∷ []) → SaysNoServers bytes s p rows
