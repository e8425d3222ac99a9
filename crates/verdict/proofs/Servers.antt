-- The servers of a table in range, one after another. Each is a server that a table may have.
use Prim.Native.Nat.{ℕ, ◌≤◌}
use mathlib.Core.List.{List}
use native.Mathlib.Omega.{arith}
use lib.ListN.{length, take, get_or}
use Rattle.theory.specs.Lists.{All}
use Rattle.theory.specs.Servers.{server_growth}
use Rattle.table.specs.declared.Server.{Server}
use Rattle.table.specs.declared.Table.{Table}
use Rattle.table.specs.Servers.{GoodServer, no_server}
use Rattle.table.specs.Tables.{InRange}
use Rattle.verdict.specs.Demand.{server_demand_of}
use Rattle.verdict.proofs.Sums.{first_all}

-- `server_at` is the server at a place among the servers.
abbrev pub server_at : Table → (k : ℕ) → Server
server_at t k = get_or t.servers k no_server

-- `first_servers` are the servers before a place.
abbrev pub first_servers : Table → (k : ℕ) → List Server
first_servers t k = take k t.servers

-- One weight of a server is its demand in a length. Such weights are summed over the servers.
abbrev pub server_demand_in : (L : ℕ) → Server → ℕ
server_demand_in L v = server_demand_of v L

-- Another weight of a server is the growth of its demand in a period.
abbrev pub server_growth_in : (period : ℕ) → Server → ℕ
server_growth_in period v = server_growth v.a v.b period

module _ {t : Table} (in_range : InRange t) where
  -- A table has a place for each server in use.
  pub server_places : t.serving ≤ length t.servers
  server_places = omega (arith, in_range.few_servers, in_range.all_servers)

  -- All servers before place k are servers that a table may have.
  pub servers_good : (k : ℕ) → k ≤ t.serving → All GoodServer (first_servers t k)
  servers_good k h = first_all no_server t.servers GoodServer k (omega (arith, server_places)) (λ j b. in_range.good_servers j (omega arith))
