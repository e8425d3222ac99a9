-- The cheats, shut out. Each cheat is a program that would look as if it kept the promises. Each law here shows that no program that meets the contracts can be
-- that cheat. docs/CHEATS.md has the whole list. (12.5 to 12.11)
use Rattle.std.specs.Prelude.{ℕ, ◌≤◌, ◌<◌, ◌≡◌, false, List, [], ◌∷◌}
use Rattle.numbers.specs.SpelledNumbers.{Bytes}
use Rattle.table.specs.Tables.{table_read}
use Rattle.verdict.specs.declared.Verdict.{Verdict}
use Rattle.verdict.specs.Demand.{table_demand}
use Rattle.verdict.specs.Verdict.{Judged, verdict_says}
use Rattle.run.specs.Release.{released}
use Rattle.run.specs.Answers.{accepted, idle, ran, release_says}
use Rattle.promise.specs.Traces.{Call, run_at}
use Rattle.promise.specs.Choice.{next_tick}
use Rattle.promise.specs.Examples.{v1, v3, v8}

-- The cheat refuses every table. The only right verdict for V1 is feasible. (12.6)
abbrev pub NotAllRefused : Type 0
NotAllRefused = (v : Verdict) → Judged v1 v → verdict_says v ≡ record { number = 20; first = 0; second = 0 }

-- The cheat refuses every release. On V3 a first job of row 0 with a cost of 2 is accepted, due at 4. (12.6)
abbrev pub NotAllReleasesRefused : Type 0
NotAllReleasesRefused = release_says (released (run_at v3 []) 0 2).answer ≡ accepted 0 4

-- The cheat always answers feasible. The only right verdict for V8 is overloaded, with length 26 and demand 27. (12.7)
abbrev pub NotAlwaysFeasible : Type 0
NotAlwaysFeasible = (v : Verdict) → Judged v8 v → verdict_says v ≡ record { number = 21; first = 26; second = 27 }

-- The cheat answers a blank witness or a made-up demand. An overloaded verdict has a length that fails, and the table's own demand in that
-- length. (12.5, 12.11)
abbrev pub NoBlankWitness : Type 0
NoBlankWitness = (bytes : List ℕ) (v : Verdict) → Judged bytes v → (L units : ℕ) → verdict_says v ≡ record { number = 21; first = L; second = units }
    → (1 ≤ L) × (L < units) × (units ≡ table_demand (table_read bytes).table L)

-- The cheat always answers idle, or spends all of a job's units in one tick. On V3, after a release of row 0 with a cost of 2, a tick runs that job and does
-- not finish it. (12.8, 12.10)
abbrev pub NotAlwaysIdle : Type 0
NotAlwaysIdle = next_tick v3 (Call.release 0 2 ∷ []) ≡ ran 0 false

-- The cheat is a release that changes nothing. The tick after an accepted release is never idle. (12.9)
abbrev pub NotIdleAfterARelease : Type 0
NotIdleAfterARelease = (bytes : List ℕ) → Bytes bytes → (calls : List Call) (row cost serial due : ℕ)
    → release_says (released (run_at bytes calls) row cost).answer ≡ accepted serial due
    → next_tick bytes (Call.release row cost ∷ calls) ≡ idle → ⊥
