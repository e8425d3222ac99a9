-- Servers give odd jobs a share of the processor: the ranges of a server's a and b, and how servers are read from bytes. (docs/RULES.md, 3.18 and 3.19.)
use Rattle.std.specs.Prelude.{ℕ, zero, suc, ◌-◌, ◌≤◌, ◌≡◌, ◌↔◌, Bool, true, cond, ◌&&◌, List, [], ◌∷◌, ◌++◌, leb, length, replicate, Result, Ok, Err}
use Rattle.std.proofs.Math.Option.{Option, none, some}
use Rattle.kinds.specs.declared.Refusal.{Refusal}
use Rattle.kinds.specs.declared.Refusal.TheVariants.{ValueOutOfRange, TooManyRows}
use Rattle.kinds.specs.declared.RefusedAt.{RefusedAt}
use Rattle.numbers.specs.declared.Number.{Number}
use Rattle.numbers.specs.Reading.{read_at}
use Rattle.table.specs.declared.ServersAt.{ServersAt}
use Rattle.table.specs.declared.ServerAt.{ServerAt}
use Rattle.table.specs.declared.Server.{Server}
use Rattle.table.specs.Limits.{max_servers, max_b}
use Rattle.table.specs.Rows.{within_limit, fine, read_value}

-- ---- one server

-- An a is refused unless it is from 1 to its limit. (3.18)
abbrev pub rule_of_a : ℕ → Option Refusal
rule_of_a a = within_limit max_b a

-- A b is refused unless it is from the server's a to its limit. (3.18)
abbrev pub rule_of_b : (a b : ℕ) → Option Refusal
rule_of_b a b = cond (leb a b && leb b max_b) none (some ValueOutOfRange)

-- A server is in range when a is from 1 to its limit and b is from a to its limit. (3.18)
abbrev pub server_in_range : Server → Bool
server_in_range v = fine (rule_of_a v.a) && fine (rule_of_b v.a v.b)

-- A table may have this server: 1 ≤ a ≤ b, and b is at most its limit. (3.18)
pub record GoodServer (v : Server) : Type 0 where
  pub some_a : 1 ≤ v.a
  pub a_within_b : v.a ≤ v.b
  pub most_b : v.b ≤ max_b

-- After a number that was read the server goes on with `k`, and a refusal ends it. (3.7)
abbrev pub after_server_number : Result Number RefusedAt → (Number → Result ServerAt RefusedAt) → Result ServerAt RefusedAt
after_server_number (Ok n) k = k n
after_server_number (Err r) k = Err r

-- A server is read as a and b. Each is tested as it is read, and the rule of b looks at the a that was read before it. (3.6, 3.19)
abbrev pub read_server : List ℕ → (at : ℕ) → Result ServerAt RefusedAt
read_server s at =
    after_server_number (read_value rule_of_a s at) λ a.
    after_server_number (read_value (rule_of_b a.value) s a.next) λ b.
    Ok (record { server = record { a = a.value; b = b.value }; next = b.next })

-- ---- servers after their count

-- An unused server holds zeros. (3.14)
abbrev pub no_server : Server
no_server = record { a = 0; b = 0 }

-- A table holds its servers first, and the unused servers after them hold zeros. (3.14)
abbrev pub held_servers : List Server → List Server
held_servers servers = servers ++ replicate (max_servers - length servers) no_server

-- Reading servers gives the servers and the place right after them, or the refusal that ended the reading. (3.7)
pub data Servers : Type 0 where
  servers : List Server → (next : ℕ) → Servers
  refused : RefusedAt → Servers

-- `in_front_of` puts one server in front of the servers that were read after it. If those were refused, the refusal stays.
abbrev pub in_front_of : Server → Servers → Servers
in_front_of v (servers vs next) = servers (v ∷ vs) next
in_front_of v (refused at) = refused at

-- After a server that was read the servers go on with `k`, and a refusal ends them. (3.7)
abbrev pub after_server : Result ServerAt RefusedAt → (Server → (next : ℕ) → Servers) → Servers
after_server (Ok v) k = k v.server v.next
after_server (Err at) k = refused at

-- `read_servers` reads n servers, one after another, from the place `at` on. (3.6, 3.7)
unfoldable pub read_servers : (n : ℕ) → List ℕ → (at : ℕ) → Servers
read_servers zero s at = servers [] at
read_servers (suc n) s at = after_server (read_server s at) (λ v next. in_front_of v (read_servers n s next))

-- After the server count its servers are read. A count above the limit of servers is refusal 2 at once, at the count's start, and a count that can't be read
-- keeps the reader's refusal. (3.8, 3.9)
abbrev pub after_server_count : List ℕ → (at : ℕ) → Result Number RefusedAt → Servers
after_server_count s at (Ok n) =
    cond (leb n.value max_servers) (read_servers n.value s n.next) (refused (record { refusal = TooManyRows; place = at }))
after_server_count s at (Err r) = refused r

-- `servers_from` reads the server count at a place, and then the servers after it. (3.6, 3.7)
abbrev pub servers_from : List ℕ → (at : ℕ) → Servers
servers_from s at = after_server_count s at (read_at s at)

-- The code holds the servers that were read as a table does. (3.14)
abbrev pub held_servers_as : Servers → Result ServersAt RefusedAt
held_servers_as (servers vs next) = Ok (record { servers = held_servers vs; serving = length vs; next = next })
held_servers_as (refused r) = Err r

-- ---- what is proved (proofs/ReadingServers.antt)

-- A server passes the test `server_in_range` exactly when 1 ≤ a ≤ b and b is at most its limit. (3.18)
abbrev pub ServerInRangeMeans : Type 0
ServerInRangeMeans = (v : Server) → (server_in_range v ≡ true) ↔ GoodServer v
