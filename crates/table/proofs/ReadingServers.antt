-- How servers are read, step by step: a server of two numbers, and the servers after their count. The last part is what is known about servers that were
-- read. (docs/RULES.md, 3.18 and 3.19.)
use Rattle.std.specs.Prelude.{Result, Ok, Err}
use Prim.Native.Nat.{ℕ, zero, suc, ◌+◌, ◌-◌, ◌≤◌, ◌<◌}
use mathlib.Core.Path.{◌≡◌, refl, sym, ap, ◌∙◌}
use mathlib.Core.Bool.{Bool, true, false, cond, ◌&&◌}
use mathlib.Core.Option.{Option, none, some}
use mathlib.Core.List.{List, [], ◌∷◌, ◌++◌}
use native.Mathlib.Numerals.{add-one}
use native.Mathlib.Omega.{arith}
use lib.Dec.{leb}
use lib.ListN.{length, take, drop, set, replicate, length-replicate, length-set, take-append-drop}
use lib.Seq.{length-take-le, take-suc-set}
use borrow.Author.Tests.{leb-true, le-leb}
use Rattle.kinds.specs.declared.Refusal.{Refusal}
use Rattle.kinds.specs.declared.Refusal.TheVariants.{TooManyRows, ValueOutOfRange}
use Rattle.kinds.specs.declared.RefusedAt.{RefusedAt}
use Rattle.kinds.proofs.Apart.{impossible}
use Rattle.numbers.specs.declared.Number.{Number}
use Rattle.numbers.specs.Reading.{read_at}
use Rattle.table.specs.declared.Server.{Server}
use Rattle.table.specs.declared.ServerAt.{ServerAt}
use Rattle.table.specs.Limits.{max_servers, max_b}
use Rattle.table.specs.Rows.{fine, tested_at, tested}
use Rattle.table.specs.Servers.{rule_of_a, rule_of_b, GoodServer, after_server_number, read_server, no_server, held_servers, ServerInRangeMeans}
use Rattle.table.specs.Servers.{Servers, servers, refused, in_front_of, after_server, read_servers, after_server_count, servers_from, held_servers_as}
use Rattle.table.specs.SpelledTables.{GoodServers}
use Rattle.table.proofs.Each.{Each, each_none, Each-cons}
use Rattle.table.proofs.Ranges.{both_true, fine_where, fine_limits, within_fine}
use Rattle.table.proofs.Reading.{ValueAt, unused_more}

-- ---- the ranges of a and b

-- A b is fine exactly when both tests of its range hold.
pub fine_b : (a b : ℕ) → fine (rule_of_b a b) ≡ (leb a b && leb b max_b)
fine_b a b = fine_where (leb a b && leb b max_b) ValueOutOfRange

-- A b that is fine is from a to its limit.
pub b_limits : (a b : ℕ) → fine (rule_of_b a b) ≡ true → (a ≤ b) × (b ≤ max_b)
b_limits a b e =
    let t = both_true (leb a b) (leb b max_b) (sym (fine_b a b) ∙ e) in
    (leb-true a b t.0, leb-true b max_b t.1)

-- A b from a to its limit is fine.
pub b_fine : (a b : ℕ) → a ≤ b → b ≤ max_b → fine (rule_of_b a b) ≡ true
b_fine a b l h = simp (le-leb a b l, le-leb b max_b h)

-- A server whose a and b are both fine is one that a table may have.
good_of : (v : Server) → fine (rule_of_a v.a) ≡ true → fine (rule_of_b v.a v.b) ≡ true → GoodServer v
good_of v a_fine b_fine =
    let b_within = b_limits v.a v.b b_fine in
    record { some_a = (fine_limits max_b v.a a_fine).0; a_within_b = b_within.0; most_b = b_within.1 }

pub server_in_range_means : ServerInRangeMeans
server_in_range_means v = (
  λ e. let both = both_true (fine (rule_of_a v.a)) (fine (rule_of_b v.a v.b)) e in good_of v both.0 both.1,
  λ g.
      let most_a : v.a ≤ max_b = omega (arith, g.a_within_b, g.most_b) in
      simp (within_fine max_b v.a g.some_a most_a, b_fine v.a v.b g.a_within_b g.most_b),
)

-- ---- a server

-- If a server is read past a number, that number was fine.
fine_before : (at : ℕ) (o : Option Refusal) (n : Number) (k : Number → Result ServerAt RefusedAt) (v : ServerAt)
    → after_server_number (tested_at at o n) k ≡ Ok v → (fine o ≡ true) × (k n ≡ Ok v)
fine_before at none n k v e = (refl, e)
fine_before at (some f) n k v e = (cc, cc)

-- If a server is read past a place, a number that is fine stood there.
pub number_before : (rule : ℕ → Option Refusal) (s : List ℕ) (at : ℕ) (r : Result Number RefusedAt) (k : Number → Result ServerAt RefusedAt) (v : ServerAt)
    → read_at s at ≡ r → after_server_number (tested rule at r) k ≡ Ok v → (n : Number) × ValueAt rule s at n × (k n ≡ Ok v)
number_before rule s at (Ok n) k v q e =
    let p = fine_before at (rule n.value) n k v e in
    (n, record { reads = q; is_fine = p.0 }, p.1)
number_before rule s at (Err r) k v q e = impossible cc

-- The server v is made of two numbers, which stand one after another from the place `at` on.
pub record TwoNumbers (s : List ℕ) (at : ℕ) (v : ServerAt) : Type 0 where
  pub a : Number
  pub b : Number
  pub a_stands : ValueAt rule_of_a s at a
  pub b_stands : ValueAt (rule_of_b a.value) s a.next b
  pub made_of_them : v ≡ record { server = record { a = a.value; b = b.value }; next = b.next }

-- A server that was read is made of two numbers.
pub two_numbers : (s : List ℕ) (at : ℕ) (v : ServerAt) → read_server s at ≡ Ok v → TwoNumbers s at v
two_numbers s at v e =
    let a = number_before rule_of_a s at _ _ _ refl e in
    let b = number_before (rule_of_b a.0.value) s a.0.next _ _ _ refl a.2 in
    record { a = a.0; b = b.0; a_stands = a.1; b_stands = b.1; made_of_them = cc }

-- A table may have a server that is made of two such numbers.
pub good_server : {s : List ℕ} {at : ℕ} {v : ServerAt} → TwoNumbers s at v → GoodServer v.server
good_server p = rw p.made_of_them (good_of _ p.a_stands.is_fine p.b_stands.is_fine)

-- ---- servers

-- `all_in_front_of` puts servers in front of the servers that were read after them.
pub all_in_front_of : List Server → Servers → Servers
all_in_front_of [] rest = rest
all_in_front_of (v ∷ vs) rest = in_front_of v (all_in_front_of vs rest)

-- Adding a server at the end of the servers in front is the same as putting it in front of the rest.
one_more_in_front : (vs : List Server) (v : Server) (rest : Servers) → all_in_front_of (vs ++ (v ∷ [])) rest ≡ all_in_front_of vs (in_front_of v rest)
unfolding all_in_front_of
one_more_in_front [] v rest = refl
one_more_in_front (w ∷ vs) v rest = ap (in_front_of w) (one_more_in_front vs v rest)

-- If no servers are read after the servers in front, these are all the servers.
all_the_servers : (vs : List Server) (at : ℕ) → all_in_front_of vs (servers [] at) ≡ servers vs at
unfolding all_in_front_of
all_the_servers [] at = refl
all_the_servers (v ∷ vs) at = ap (in_front_of v) (all_the_servers vs at)

-- If what comes after the servers in front is refused, the whole is refused.
servers_refused : (vs : List Server) (at : RefusedAt) → all_in_front_of vs (refused at) ≡ refused at
unfolding all_in_front_of
servers_refused [] at = refl
servers_refused (v ∷ vs) at = ap (in_front_of v) (servers_refused vs at)

-- If the next server is read, it stands in front of the servers after it.
next_server : (left : ℕ) (s : List ℕ) (at : ℕ) (v : ServerAt) → read_server s at ≡ Ok v
    → read_servers (suc left) s at ≡ in_front_of v.server (read_servers left s v.next)
unfolding read_servers
next_server left s at v e = rw e

-- If the next server is refused, the servers are refused so.
next_refused : (left : ℕ) (s : List ℕ) (at : ℕ) (r : RefusedAt) → read_server s at ≡ Err r → read_servers (suc left) s at ≡ refused r
unfolding read_servers
next_refused left s at r e = rw e

-- With no server left to read, the servers end here.
no_more : (s : List ℕ) (at : ℕ) → read_servers 0 s at ≡ servers [] at
unfolding read_servers
no_more s at = refl

-- ---- servers after their count

-- i of n servers are read, up to the place `at`. They are the first of those held, and the others are unused. The answer is that of these servers in front of
-- what is read from here on.
pub record ServersSoFar (s : List ℕ) (from n : ℕ) (held : List Server) (at i : ℕ) : Type 0 where
  pub not_past : i ≤ n
  pub few_servers : n ≤ max_servers
  pub all_places : length held ≡ max_servers
  pub unused : drop i held ≡ replicate (max_servers - i) no_server
  pub answers : servers_from s from ≡ all_in_front_of (take i held) (read_servers (n - i) s at)

-- At first only the count is read.
pub no_server_read : (s : List ℕ) (from : ℕ) (n : Number) → read_at s from ≡ Ok n → n.value ≤ max_servers
    → ServersSoFar s from n.value (held_servers []) n.next 0
unfolding all_in_front_of
no_server_read s from n e few =
    let all : n.value - 0 ≡ n.value = omega arith in
    record {
      not_past = omega arith;
      few_servers = few;
      all_places = length-replicate max_servers no_server;
      unused = refl;
      answers = rw (e, le-leb n.value max_servers few, all);
    }

module _ {s : List ℕ} {from n : ℕ} {held : List Server} {at i : ℕ} (p : ServersSoFar s from n held at i) where
  -- If server i is read, one more server is held.
  pub server_more : (v : ServerAt) → i < n → read_server s at ≡ Ok v → ServersSoFar s from n (set held i v.server) v.next (i + 1)
  server_more v h e =
      let room : i < max_servers = omega (arith, p.few_servers) in
      let left : n - i ≡ suc (n - (i + 1)) = omega arith in
      let now_first = take-suc-set held i v.server (omega (arith, p.all_places)) in
      record {
        not_past = omega arith;
        few_servers = p.few_servers;
        all_places = length-set held i v.server ∙ p.all_places;
        unused = unused_more max_servers no_server held i v.server room p.unused;
        answers = p.answers ∙ rw (left, next_server (n - (i + 1)) s at v e, add-one, now_first, one_more_in_front);
      }

  -- If server i is refused, the servers are refused so.
  pub server_refused : (r : RefusedAt) → i < n → read_server s at ≡ Err r → held_servers_as (refused r) ≡ held_servers_as (servers_from s from)
  server_refused r h e =
      let left : n - i ≡ suc (n - (i + 1)) = omega arith in
      let gone : servers_from s from ≡ refused r = p.answers ∙ rw (left, next_refused (n - (i + 1)) s at r e, servers_refused) in
      rw gone

  -- When all n servers are read, the code holds exactly these servers.
  pub all_servers_read : n ≤ i → Ok (record { servers = held; serving = n; next = at }) ≡ held_servers_as (servers_from s from)
  all_servers_read end =
      let left : n - i ≡ 0 = omega arith in
      let same : i ≡ n = omega (arith, p.not_past) in
      let long : length (take i held) ≡ i = length-take-le i held (omega (arith, p.few_servers, p.all_places)) in
      let all : servers_from s from ≡ servers (take i held) at = p.answers ∙ rw (left, no_more, all_the_servers) in
      sym (rw (all, long, ← p.unused, take-append-drop, same))

-- ---- servers that were read

-- There are n servers, each of which a table may have.
record ManyGood (n : ℕ) (vs : List Server) : Type 0 where
  many : length vs ≡ n
  each_good : Each GoodServer vs

-- If n + 1 servers are read, the first of them is read.
pub first_server : (n : ℕ) (s : List ℕ) (r : Result ServerAt RefusedAt) {vs : List Server} {next : ℕ}
    → after_server r (λ v after. in_front_of v (read_servers n s after)) ≡ servers vs next
    → (v : ServerAt) × (r ≡ Ok v) × (in_front_of v.server (read_servers n s v.next) ≡ servers vs next)
first_server n s (Ok v) e = (v, refl, e)
first_server n s (Err at) e = impossible cc

-- If servers are read, those after the first are read.
pub other_servers : (v : Server) (r : Servers) {vs : List Server} {next : ℕ} → in_front_of v r ≡ servers vs next
    → (ws : List Server) × (r ≡ servers ws next) × (v ∷ ws ≡ vs)
other_servers v (servers ws next) e = (ws, cc, cc)
other_servers v (refused at) e = impossible cc

-- If n servers are read, there are n of them, each of which a table may have.
many_good : (n : ℕ) (s : List ℕ) (at : ℕ) {vs : List Server} {next : ℕ} → read_servers n s at ≡ servers vs next → ManyGood n vs
unfolding read_servers
many_good zero s at {vs} e = let none : [] ≡ vs = cc in rw (← none) (record { many = refl; each_good = each_none _ })
many_good (suc n) s at e =
    let f = first_server n s (read_server s at) e in
    let o = other_servers f.0.server (read_servers n s f.0.next) f.2 in
    let more = many_good n s f.0.next o.1 in
    rw (← o.2) (record { many = ap suc more.many; each_good = Each-cons (good_server (two_numbers s at f.0 f.1)) more.each_good })

-- If servers are read, their count was read before them, and it is at most the limit of servers.
pub record ServerCountRead (s : List ℕ) (r : Result Number RefusedAt) (vs : List Server) (next : ℕ) : Type 0 where
  pub count : Number
  pub was_read : r ≡ Ok count
  pub few_servers : count.value ≤ max_servers
  pub then : read_servers count.value s count.next ≡ servers vs next

pub server_count_read : (s : List ℕ) (at : ℕ) (r : Result Number RefusedAt) {vs : List Server} {next : ℕ} → after_server_count s at r ≡ servers vs next
    → ServerCountRead s r vs next
server_count_read s at (Ok n) {vs} {next} e = by_test (leb n.value max_servers) refl e
  where
    by_test : (b : Bool) → leb n.value max_servers ≡ b
        → cond b (read_servers n.value s n.next) (refused (record { refusal = TooManyRows; place = at })) ≡ servers vs next
        → ServerCountRead s (Ok n) vs next
    by_test true t f = record { count = n; was_read = refl; few_servers = leb-true n.value max_servers t; then = f }
    by_test false t f = impossible cc
server_count_read s at (Err q) e = impossible cc

-- Servers that are read after their count are servers that a table may have.
pub good_servers : (s : List ℕ) (at : ℕ) {vs : List Server} {next : ℕ} → servers_from s at ≡ servers vs next → GoodServers vs
good_servers s at e =
    let c = server_count_read s at (read_at s at) e in
    let m = many_good c.count.value s c.count.next c.then in
    record { few_servers = omega (arith, m.many, c.few_servers); each_good = m.each_good }
