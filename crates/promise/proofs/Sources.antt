-- The sources of a table are numbered as the row numbers in use are, and the table's demand is the sum over them and of the ticks that the timer takes. (1.2,
-- 3.14, 5.3)
use Prim.Native.Nat.{ℕ, zero, suc, ◌+◌, ◌-◌, ◌≤◌, ◌<◌}
use mathlib.Core.Path.{◌≡◌, refl, ap, ◌∙◌}
use mathlib.Core.List.{List, [], ◌∷◌, ◌++◌, map}
use native.Mathlib.Omega.{arith}
use lib.ListN.{length, get_or, length-append, length-map, get_or-append}
use lib.Seq.{get_or-append-add, get_or-take}
use borrow.Author.Tests.{lt-ltb, le-ltb}
use Rattle.theory.specs.Lists.{All, total}
use Rattle.theory.proofs.Cases.{by_lt}
use Rattle.theory.proofs.Lists.{All-append, total-append}
use Rattle.table.specs.declared.Table.{Table}
use Rattle.table.specs.SpelledTables.{WithinLimits}
use Rattle.table.specs.Servers.{GoodServer, no_server}
use Rattle.table.specs.Tables.{no_row, rows_of, servers_of, InRange}
use Rattle.table.proofs.Tables.{rows_used, servers_used}
use Rattle.verdict.specs.Demand.{table_demand}
use Rattle.verdict.proofs.Rows.{rows_within}
use Rattle.verdict.proofs.Servers.{servers_good}
use Rattle.run.specs.Runs.{row_at, server_at}
use Rattle.promise.specs.Sources.{Source, sources_of, source_at, source_demand, SourcesAreNumbered, DemandOverSources}

-- ---- lists that are made of other lists, element by element

module _ {A B : Type 0} (f : A → B) where
  -- The sum over a list made by f is the sum, over the list that it was made of, of what f makes of each element.
  total-map : (w : B → ℕ) (l : List A) → total w (map f l) ≡ total (λ a. w (f a)) l
  unfolding total
  total-map w [] = refl
  total-map w (a ∷ l) = ap (λ (n : ℕ). w (f a) + n) (total-map w l)

  -- What holds for f of each element of a list holds for each element of the list made by f.
  All-map : (P : B → Type 0) (l : List A) → All (λ a. P (f a)) l → All P (map f l)
  All-map P [] h = tt
  All-map P (a ∷ l) h = (h.0, All-map P l h.1)

  -- An element of the list made by f is f of the element at that place.
  at_map : (l : List A) (n : ℕ) (a : A) (b : B) → n < length l → get_or (map f l) n b ≡ f (get_or l n a)
  at_map [] n a b h = absurd (omega arith)
  at_map (x ∷ l) zero a b h = refl
  at_map (x ∷ l) (suc n) a b h = at_map l n a b (omega arith)

-- ---- numbers

-- Where a row number is below the row count, its source is the row.
pub source_of_row : (t : Table) (row : ℕ) → row < t.count → source_at t row ≡ Source.row (row_at t row)
source_of_row t row h = rw (lt-ltb row t.count h)

-- From the row count on, the source of a row number is the server.
pub source_of_server : (t : Table) (row : ℕ) → t.count ≤ row → source_at t row ≡ Source.server (server_at t row)
source_of_server t row h = rw (le-ltb row t.count h)

pub sources_are_numbered : SourcesAreNumbered
sources_are_numbered t in_range =
    let rs = map Source.row (rows_of t) in
    let vs = map Source.server (servers_of t) in
    let rows : length rs ≡ t.count = length-map (rows_of t) Source.row ∙ rows_used in_range in
    let servers : length vs ≡ t.serving = length-map (servers_of t) Source.server ∙ servers_used in_range in (
      omega (arith, length-append rs vs),
      (λ number other in_use. by_lt number t.count
          (λ below.
          rw (source_of_row t number below)
          (get_or-append rs vs other number (omega arith)
          ∙ at_map Source.row (rows_of t) number no_row other (omega (arith, rows_used in_range))
          ∙ ap Source.row (get_or-take t.count t.rows number no_row below)))
          (λ above.
          let k = number - t.count in
          let place : number ≡ length rs + k = omega arith in
          rw (source_of_server t number above)
          (ap (λ (n : ℕ). get_or (rs ++ vs) n other) place
          ∙ get_or-append-add rs vs k other
          ∙ at_map Source.server (servers_of t) k no_server other (omega (arith, servers_used in_range))
          ∙ ap Source.server (get_or-take t.serving t.servers k no_server (omega arith))))),
    )

-- ---- demand

pub demand_over_sources : DemandOverSources
unfolding table_demand
demand_over_sources t L = omega (
  arith,
  total-append (λ source. source_demand source L) (map Source.row (rows_of t)) (map Source.server (servers_of t)),
  total-map Source.row (λ source. source_demand source L) (rows_of t),
  total-map Source.server (λ source. source_demand source L) (servers_of t),
)

-- ---- good sources

-- A table may have this source: its row is within its limits, or its server is one that a table may have.
abbrev pub GoodSource : Source → Type 0
GoodSource (Source.row r) = WithinLimits r
GoodSource (Source.server v) = GoodServer v

-- The sources of a table in range are sources that a table may have.
pub sources_good : (t : Table) → InRange t → All GoodSource (sources_of t)
sources_good t in_range =
    All-append GoodSource (map Source.row (rows_of t)) (map Source.server (servers_of t))
    (All-map Source.row GoodSource (rows_of t) (rows_within in_range t.count (omega arith)))
    (All-map Source.server GoodSource (servers_of t) (servers_good in_range t.serving (omega arith)))
