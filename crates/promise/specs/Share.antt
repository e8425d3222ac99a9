-- Share. Take any window of time, and the jobs of one row or of one server that are released and due inside it. What they cost, and all the units that ticks
-- ever give them, are at most its demand in the window's length: for a server that is floor(a · L / b). This holds whatever all others release, on any table,
-- feasible or not, and for windows that reach past the clock. (1.20, 5.12)
use Rattle.std.specs.Prelude.{ℕ, ◌+◌, ◌-◌, ◌≤◌, ◌<◌, ◌≡◌, List}
use Rattle.numbers.specs.SpelledNumbers.{Bytes}
use Rattle.theory.specs.Jobs.{Job, within, weighed, costs}
use Rattle.theory.specs.Sources.{own}
use Rattle.table.specs.Tables.{table_read}
use Rattle.promise.specs.Sources.{source_at, source_demand}
use Rattle.promise.specs.Traces.{Call, Event, trace, jobs_of_trace, units_of}

-- `costs_in` is the sum of the stated costs of the jobs with this row number that are released at a or later and due at b or before. (1.6)
abbrev pub costs_in : (a b row : ℕ) → List Event → ℕ
costs_in a b row es = costs (within a b) (own row (jobs_of_trace es))

-- `consumed_in` is the sum of the units that ticks gave to the jobs with this row number that are released at a or later and due at b or before, whenever they
-- were given. (5.12)
abbrev pub consumed_in : (a b row : ℕ) → List Event → ℕ
consumed_in a b row es = weighed (λ (j : Job). units_of j.name es) (within a b) (own row (jobs_of_trace es))

-- In any window from a to b, what the jobs of a row or of a server released and due inside it cost, and what they consume, are at most its demand in b - a.
-- This is the second promise of demand 3. (1.20, 5.12)
abbrev pub Share : Type 0
Share = (bytes : List ℕ) → Bytes bytes → (calls : List Call) (row : ℕ) → row < (table_read bytes).table.count + (table_read bytes).table.serving
    → (a b : ℕ) → a ≤ b
    → (costs_in a b row (trace bytes calls) ≤ source_demand (source_at (table_read bytes).table row) (b - a))
    × (consumed_in a b row (trace bytes calls) ≤ source_demand (source_at (table_read bytes).table row) (b - a))

-- In a window of no length no row and no server has any demand.
abbrev pub NoDemandInNoTime : Type 0
NoDemandInNoTime = (bytes : List ℕ) → Bytes bytes → (row : ℕ) → row < (table_read bytes).table.count + (table_read bytes).table.serving
    → source_demand (source_at (table_read bytes).table row) 0 ≡ 0
