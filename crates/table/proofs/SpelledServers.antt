-- A server, and servers after their count, are read at a place exactly when their spelling stands there and a table may have them, and are refused exactly as
-- the rules say. Servers are proved from a server, and a server from its a and b, each in both directions. (docs/RULES.md, 3.6 to 3.9, 3.18 and 3.19.)
use Rattle.std.specs.Prelude.{Result, Ok, Err}
use Prim.Native.Nat.{ℕ, zero, suc, ◌≤◌, ◌<◌}
use native.Mathlib.Decide.{dec_le}
use native.Mathlib.Omega.{arith}
use mathlib.Core.Path.{◌≡◌, refl, sym, ap, subst, ◌∙◌}
use mathlib.Core.Logic.{◌⊎◌, inl, inr, ⊎_elim}
use mathlib.Core.List.{List, [], ◌∷◌, flatten, map}
use lib.ListN.{length}
use borrow.Author.Tests.{le-leb, lt-leb}
use Rattle.kinds.specs.Numbering.{refusal_number}
use Rattle.kinds.specs.declared.Refusal.{Refusal}
use Rattle.kinds.specs.declared.Refusal.TheVariants.{Misspelled, TooManyRows, ValueOutOfRange}
use Rattle.kinds.specs.declared.RefusedAt.{RefusedAt}
use Rattle.kinds.proofs.Apart.{impossible}
use Rattle.numbers.specs.declared.Number.{Number}
use Rattle.numbers.specs.Spelling.{spelling}
use Rattle.numbers.specs.Reading.{read_at}
use Rattle.numbers.specs.SpelledNumbers.{Bytes, Spelled}
use Rattle.numbers.specs.BadByte.{BadByteAt}
use Rattle.numbers.proofs.Spellings.{number_has_one_spelling, spelled_read}
use Rattle.numbers.proofs.BadByte.{bad_read, refused_bad}
use Rattle.table.specs.declared.Server.{Server}
use Rattle.table.specs.declared.ServerAt.{ServerAt}
use Rattle.table.specs.Limits.{max_servers, max_b}
use Rattle.table.specs.Rows.{read_value}
use Rattle.table.specs.Servers.{rule_of_a, rule_of_b, GoodServer, read_server, Servers, servers, refused, in_front_of, after_server, read_servers}
use Rattle.table.specs.Servers.{after_server_count, servers_from}
use Rattle.table.specs.SpelledTables.{spelled_server}
use Rattle.table.specs.Refusals.{PartStands, BadValue, ServerNext, ServersEnd, BadB, misspelled_b, b_out_of_range}
use Rattle.table.specs.Refusals.{ServersRefusedSo, no_server_count, too_many_servers, bad_a, bad_b}
use Rattle.table.proofs.Each.{Each, each_none, Each-cons, each_head, each_tail}
use Rattle.table.proofs.Spelling.{parted, joined, ends_inside, spelled_stands, number_read, number_stands, value_read}
use Rattle.table.proofs.BadValues.{ValueAnswer, good, bad, value_answer, good_value, bad_refused}

-- ---- a b, whose rule looks at a

-- A b that can't be read is refused with 1, at its bad byte.
b_misspelled : (a : ℕ) {s : List ℕ} {at place : ℕ} → Bytes s → BadByteAt s at place
    → read_value (rule_of_b a) s at ≡ Err (record { refusal = Misspelled; place = place })
b_misspelled a b p = simp (bad_read b p)

module _ (a : ℕ) (s : List ℕ) (at : ℕ) (n : Number) (e : read_at s at ≡ Ok n) where
  -- A b from a to its limit is answered.
  b_stands : a ≤ n.value → n.value ≤ max_b → read_value (rule_of_b a) s at ≡ Ok n
  b_stands l h = simp (e, le-leb a n.value l, le-leb n.value max_b h)

  -- A b that is below a or above its limit is refused with 3, at its start.
  b_outside : (n.value < a) ⊎ (max_b < n.value) → read_value (rule_of_b a) s at ≡ Err (record { refusal = ValueOutOfRange; place = at })
  b_outside o = elim (dec_le a n.value) [
    | yes l ↦ simp (e, le-leb a n.value l, lt-leb n.value max_b (⊎_elim (λ below. absurd (omega arith)) (λ above. above) o))
    | no l ↦ simp (e, lt-leb a n.value (omega arith))
  ]

-- ---- a server

module _ (s : List ℕ) (at : ℕ) where
  -- If a is refused as it is read, the server is refused so.
  a_refused : (r : RefusedAt) → read_value rule_of_a s at ≡ Err r → read_server s at ≡ Err r
  a_refused r e = rw e

  module _ (a : Number) (a_read : read_value rule_of_a s at ≡ Ok a) where
    -- If b is refused as it is read, the server is refused so.
    b_refused : (r : RefusedAt) → read_value (rule_of_b a.value) s a.next ≡ Err r → read_server s at ≡ Err r
    b_refused r e = rw (a_read, e)

    -- If a and b are answered, the server is answered, with the place right after b.
    both_answered : (b : Number) → read_value (rule_of_b a.value) s a.next ≡ Ok b
        → read_server s at ≡ Ok (record { server = record { a = a.value; b = b.value }; next = b.next })
    both_answered b e = rw (a_read, e)

-- From the place `at` up to `next` stands the spelling of the server v, which a table may have.
record ServerStands (s : List ℕ) (at : ℕ) (v : Server) (next : ℕ) : Type 0 where
  is_good : GoodServer v
  stands : PartStands s at (spelled_server v) next

-- A server that a table may have is read where its spelling stands.
server_read : {s : List ℕ} {at next : ℕ} {v : Server} → ServerStands s at v next → read_server s at ≡ Ok (record { server = v; next = next })
server_read {s} {at} {next} {v} p =
    let w = p.is_good in
    let t = parted (spelling v.a) (spelling v.b) p.stands in
    let a_read = value_read max_b v.a (omega arith) w.some_a (omega (arith, w.a_within_b, w.most_b)) t.1 in
    let b_read = number_read v.b (omega (arith, w.most_b)) t.2 in
    both_answered s at _ a_read _ (b_stands v.a s t.0 _ b_read w.a_within_b w.most_b)

-- The server that begins at `at` is refused with this number, at this place: its a is bad, or its a is good and its b is bad.
data BadServer (s : List ℕ) (at : ℕ) : (number place : ℕ) → Type 0 where
  wrong_a : {number place : ℕ} → BadValue s at max_b number place → BadServer s at number place
  wrong_b : {number place : ℕ} (a : Number) → Spelled s at a → 1 ≤ a.value → a.value ≤ max_b → BadB s a.next a.value number place
      → BadServer s at number place

-- The server that begins at `at` is refused with a refusal of this number, at this place.
record ServerRefused (s : List ℕ) (at n place : ℕ) : Type 0 where
  kind : Refusal
  its_number : refusal_number kind ≡ n
  answer : read_server s at ≡ Err (record { refusal = kind; place = place })

-- A bad server is refused so.
server_refused : {s : List ℕ} {at n place : ℕ} → Bytes s → BadServer s at n place → ServerRefused s at n place
server_refused {s} {at} b (wrong_a w) =
    let wrong = bad_refused b w in
    record { kind = wrong.kind; its_number = wrong.its_number; answer = a_refused s at _ wrong.answer }
server_refused {s} {at} b (wrong_b a p l h (misspelled_b w)) =
    record { kind = Misspelled; its_number = refl; answer = b_refused s at a (good_value p l h) _ (b_misspelled a.value b w) }
server_refused {s} {at} b (wrong_b a p l h (b_out_of_range n q o)) = record {
  kind = ValueOutOfRange;
  its_number = refl;
  answer = b_refused s at a (good_value p l h) _ (b_outside a.value s a.next n (spelled_read q) o);
}

-- What reading a server answers: a server that stands there and that a table may have, or the refusal of what is wrong with it.
data ServerAnswer (s : List ℕ) (at : ℕ) : Result ServerAt RefusedAt → Type 0 where
  there : (v : ServerAt) → ServerStands s at v.server v.next → ServerAnswer s at (Ok v)
  not_there : (r : RefusedAt) → BadServer s at (refusal_number r.refusal) r.place → ServerAnswer s at (Err r)

-- Reading a server always answers as `ServerAnswer` says.
server_answer : {s : List ℕ} {at : ℕ} → Bytes s → at ≤ length s → ServerAnswer s at (read_server s at)
server_answer {s} {at} b inside = by_a (read_value rule_of_a s at) refl (value_answer b inside)
  where
    outside : (a : Number) → read_value rule_of_a s at ≡ Ok a → Spelled s at a → 1 ≤ a.value → a.value ≤ max_b → (n : Number)
        → read_at s a.next ≡ Ok n → (n.value < a.value) ⊎ (max_b < n.value) → ServerAnswer s at (read_server s at)
    outside a a_read p l h n e o =
        let q = number_has_one_spelling s a.next n b e in
        subst (ServerAnswer s at) (sym (b_refused s at a a_read _ (b_outside a.value s a.next n e o)))
        (not_there (record { refusal = ValueOutOfRange; place = a.next }) (wrong_b a p l h (b_out_of_range n q o)))

    by_b : (a : Number) → read_value rule_of_a s at ≡ Ok a → Spelled s at a → 1 ≤ a.value → a.value ≤ max_b → (v : Result Number RefusedAt)
        → read_at s a.next ≡ v → ServerAnswer s at (read_server s at)
    by_b a a_read p l h (Ok n) e = elim (dec_le a.value n.value) [
      | yes k ↦ elim (dec_le n.value max_b) [
        | yes m ↦
            let it : ServerAt = record { server = record { a = a.value; b = n.value }; next = n.next } in
            subst (ServerAnswer s at) (sym (both_answered s at a a_read n (b_stands a.value s a.next n e k m)))
            (there it (record {
              is_good = record { some_a = l; a_within_b = k; most_b = m };
              stands = joined (spelled_stands p) (number_stands a.next n b e);
            }))
        | no m ↦ outside a a_read p l h n e (inr (omega arith))
      ]
      | no k ↦ outside a a_read p l h n e (inl (omega arith))
    ]
    by_b a a_read p l h (Err r) e =
        let w = (refused_bad b p.within e).1 in
        subst (ServerAnswer s at) (sym (b_refused s at a a_read _ (b_misspelled a.value b w)))
        (not_there (record { refusal = Misspelled; place = r.place }) (wrong_b a p l h (misspelled_b w)))

    by_a : (v : Result Number RefusedAt) → read_value rule_of_a s at ≡ v → ValueAnswer s at max_b v → ServerAnswer s at (read_server s at)
    by_a (Ok a) a_read (good p l h) = by_b a a_read p l h (read_at s a.next) refl
    by_a (Err r) a_read (bad how w) = subst (ServerAnswer s at) (sym (a_refused s at r a_read)) (not_there r (wrong_a w))

-- ---- servers, one after another

-- From the place `at` up to `next` stand the spellings of the servers, one after another, and a table may have each server.
record ServersStand (s : List ℕ) (at : ℕ) (vs : List Server) (next : ℕ) : Type 0 where
  each_good : Each GoodServer vs
  stand : PartStands s at (flatten (map spelled_server vs)) next

-- No servers stand at every place.
none_stand : {s : List ℕ} {at : ℕ} → ServersStand s at [] at
unfolding flatten
none_stand = record { each_good = each_none _; stand = record { here = refl; ends = omega arith } }

-- Servers still stand with one more in front of them.
one_more_stands : {s : List ℕ} {at mid next : ℕ} {v : Server} {vs : List Server} → ServerStands s at v mid → ServersStand s mid vs next
    → ServersStand s at (v ∷ vs) next
unfolding flatten
one_more_stands p q = record { each_good = Each-cons p.is_good q.each_good; stand = joined p.stands q.stand }

-- Servers that stand are a first server and those after it.
first_stands : {s : List ℕ} {at next : ℕ} {v : Server} {vs : List Server} → ServersStand s at (v ∷ vs) next
    → (mid : ℕ) × ServerStands s at v mid × ServersStand s mid vs next
unfolding flatten
first_stands {v} {vs} p =
    let t = parted (spelled_server v) (flatten (map spelled_server vs)) p.stand in
    (t.0, record { is_good = each_head p.each_good; stands = t.1 }, record { each_good = each_tail p.each_good; stand = t.2 })

-- No servers end where they begin.
none_end : {s : List ℕ} {at next : ℕ} → ServersStand s at [] next → at ≡ next
unfolding flatten
none_end p = omega (arith, p.stand.ends)

-- Servers that a table may have are read where their spellings stand.
servers_read : {s : List ℕ} {at next : ℕ} (vs : List Server) → ServersStand s at vs next → read_servers (length vs) s at ≡ servers vs next
unfolding read_servers
servers_read [] p = ap (servers []) (none_end p)
servers_read {s = s} {at = at} {next = next} (v ∷ vs) p =
    let t = first_stands p in
    simp (server_read t.1, servers_read {at = (first_stands p).0} vs t.2)

-- If fewer than n servers stand up to a server that is refused, reading n servers ends in that refusal.
servers_refused : (n : ℕ) {s : List ℕ} (at : ℕ) (before : List Server) {mid : ℕ} {r : RefusedAt} → length before < n → ServersStand s at before mid
    → read_server s mid ≡ Err r → read_servers n s at ≡ refused r
unfolding read_servers
servers_refused zero at before fewer p wrong = absurd (omega arith)
servers_refused (suc n) at [] fewer p wrong = rw (none_end p, wrong)
servers_refused (suc n) at (v ∷ before) fewer p wrong =
    let t = first_stands p in
    simp (server_read t.1, servers_refused n t.0 before (omega arith) t.2 wrong)

-- What reading n servers answers: n servers that stand there, or the refusal of a server after fewer than n that stand there.
data ServersAnswer (n : ℕ) (s : List ℕ) (at : ℕ) : Servers → Type 0 where
  all_stand : {vs : List Server} {next : ℕ} → length vs ≡ n → ServersStand s at vs next → ServersAnswer n s at (servers vs next)
  end_badly : {r : RefusedAt} {mid : ℕ} (before : List Server) → length before < n → ServersStand s at before mid
      → BadServer s mid (refusal_number r.refusal) r.place → ServersAnswer n s at (refused r)

-- If a server stands in front of the others, the answer is as `ServersAnswer` says for one more.
answer_behind : {n : ℕ} {s : List ℕ} {at mid : ℕ} {v : Server} (w : Servers) → ServerStands s at v mid → ServersAnswer n s mid w
    → ServersAnswer (suc n) s at (in_front_of v w)
answer_behind (servers vs next) p (all_stand many q) = all_stand (ap suc many) (one_more_stands p q)
answer_behind {v = v} (refused r) p (end_badly before fewer q wrong) = end_badly (v ∷ before) (omega arith) (one_more_stands p q) wrong

-- Reading n servers always answers as `ServersAnswer` says.
servers_answer : (n : ℕ) {s : List ℕ} (at : ℕ) → Bytes s → at ≤ length s → ServersAnswer n s at (read_servers n s at)
unfolding read_servers
servers_answer zero at b inside = all_stand refl none_stand
servers_answer (suc n) {s} at b inside = go (read_server s at) (server_answer b inside) (λ next h. servers_answer n next b h)
  where
    go : (v : Result ServerAt RefusedAt) → ServerAnswer s at v → ((next : ℕ) → next ≤ length s → ServersAnswer n s next (read_servers n s next))
        → ServersAnswer (suc n) s at (after_server v (λ q after. in_front_of q (read_servers n s after)))
    go (Ok v) (there it p) more = answer_behind (read_servers n s v.next) p (more v.next (ends_inside p.stands inside))
    go (Err r) (not_there how wrong) more = end_badly [] (omega arith) none_stand wrong

-- ---- servers after their count

-- Where a server count n of at most the limit of servers stands, the bytes after it are read as n servers.
server_count_then : {s : List ℕ} {at next : ℕ} (n : ℕ) → n ≤ max_servers → PartStands s at (spelling n) next → servers_from s at ≡ read_servers n s next
server_count_then n few p = simp (number_read n (omega arith) p, le-leb n max_servers few)

-- If servers end at a place in the sense of `ServersEnd`, they are read up to that place.
pub servers_then : {s : List ℕ} {from at : ℕ} {vs : List Server} → ServersEnd s from at vs → servers_from s from ≡ servers vs at
servers_then {vs = vs} p =
    let t = parted (spelling (length vs)) (flatten (map spelled_server vs)) p.before in
    server_count_then (length vs) p.few_servers t.1 ∙ servers_read vs (record { each_good = p.each_good; stand = t.2 })

-- Reading the servers is refused at this place, with a refusal of this number.
pub record ServersRefused (s : List ℕ) (from number place : ℕ) : Type 0 where
  pub how : RefusedAt
  pub its_number : refusal_number how.refusal ≡ number
  pub its_place : how.place ≡ place
  pub answer : servers_from s from ≡ refused how

-- If a bad server begins where a server is next, reading the servers is refused so.
next_refused : {s : List ℕ} {from at number place : ℕ} → Bytes s → ServerNext s from at → BadServer s at number place → ServersRefused s from number place
next_refused {place = place} b p w =
    let t = parted (spelling p.count) (flatten (map spelled_server p.servers)) p.before in
    let wrong = server_refused b w in
    let stand = servers_refused p.count t.0 p.servers p.fewer (record { each_good = p.each_good; stand = t.2 }) wrong.answer in
    record {
      how = record { refusal = wrong.kind; place = place };
      its_number = wrong.its_number;
      its_place = refl;
      answer = server_count_then p.count p.few_servers t.1 ∙ stand;
    }

-- If the rules refuse the servers, reading them is refused so.
pub servers_refused_if_so : {s : List ℕ} {from number place : ℕ} → Bytes s → ServersRefusedSo s from number place → ServersRefused s from number place
servers_refused_if_so {place = place} b (no_server_count p) =
    record { how = record { refusal = Misspelled; place = place }; its_number = refl; its_place = refl; answer = simp (bad_read b p) }
servers_refused_if_so {from = from} b (too_many_servers n p l) = record {
  how = record { refusal = TooManyRows; place = from };
  its_number = refl;
  its_place = refl;
  answer = simp (spelled_read p, lt-leb n.value max_servers l);
}
servers_refused_if_so b (bad_a p w) = next_refused b p (wrong_a w)
servers_refused_if_so b (bad_b p a q l h w) = next_refused b p (wrong_b a q l h w)

-- What reading the servers after their count answers: servers that end there, or a refusal that the rules say.
data ServersFromAnswer (s : List ℕ) (from : ℕ) : Servers → Type 0 where
  end_there : {vs : List Server} {at : ℕ} → ServersEnd s from at vs → ServersFromAnswer s from (servers vs at)
  refused_so : {r : RefusedAt} → ServersRefusedSo s from (refusal_number r.refusal) r.place → ServersFromAnswer s from (refused r)

-- The rules refuse a bad server that begins where a server is next.
next_refused_so : {s : List ℕ} {from at number place : ℕ} → ServerNext s from at → BadServer s at number place → ServersRefusedSo s from number place
next_refused_so p (wrong_a w) = bad_a p w
next_refused_so p (wrong_b a q l h w) = bad_b p a q l h w

-- What n servers are answered with after a count n, which is at most the limit of servers.
behind_count : {s : List ℕ} {from c n : ℕ} (w : Servers) → n ≤ max_servers → PartStands s from (spelling n) c → ServersAnswer n s c w
    → ServersFromAnswer s from w
behind_count {s} {from} {c} {n} (servers vs at) few p (all_stand many q) =
    let counted : PartStands s from (spelling (length vs)) c = rw many p in
    end_there {vs = vs} (record { few_servers = omega (arith, many); each_good = q.each_good; before = joined counted q.stand })
behind_count {n = n} (refused r) few p (end_badly before fewer q wrong) =
    refused_so (next_refused_so (record {
      count = n;
      servers = before;
      few_servers = few;
      fewer = fewer;
      each_good = q.each_good;
      before = joined p q.stand;
    }) wrong)

-- Reading the servers after their count always answers as `ServersFromAnswer` says.
servers_from_answer : {s : List ℕ} {from : ℕ} → Bytes s → from ≤ length s → ServersFromAnswer s from (servers_from s from)
servers_from_answer {s} {from} b inside = count (read_at s from) refl
  where
    count : (v : Result Number RefusedAt) → read_at s from ≡ v → ServersFromAnswer s from (after_server_count s from v)
    count (Ok n) e =
        let p = number_has_one_spelling s from n b e in
        elim (dec_le n.value max_servers) [
          | yes few ↦
              rw (le-leb n.value max_servers few)
              (behind_count (read_servers n.value s n.next) few (spelled_stands p) (servers_answer n.value n.next b p.within))
          | no many ↦
              rw (lt-leb n.value max_servers (omega arith))
              (refused_so {r = record { refusal = TooManyRows; place = from }} (too_many_servers n p (omega arith)))
        ]
    count (Err r) e =
        let w = refused_bad b inside e in
        let is : r ≡ record { refusal = Misspelled; place = r.place } = cc w.0 in
        subst (λ q. ServersFromAnswer s from (refused q)) (sym is) (refused_so {r = record { refusal = Misspelled; place = r.place }} (no_server_count w.1))

-- If servers are read up to a place, they end there in the sense of `ServersEnd`.
pub servers_end : {s : List ℕ} (from : ℕ) {at : ℕ} {vs : List Server} → Bytes s → from ≤ length s → servers_from s from ≡ servers vs at → ServersEnd s from at vs
servers_end {s} from {at} {vs} b inside e = of_answer (servers_from s from) (servers_from_answer b inside) e
  where
    of_answer : (w : Servers) → ServersFromAnswer s from w → w ≡ servers vs at → ServersEnd s from at vs
    of_answer (servers qs next) (end_there p) f =
        let same : qs ≡ vs = cc in
        let place : next ≡ at = cc in
        rw (← same, ← place) p
    of_answer (refused q) (refused_so p) f = impossible cc

-- If reading the servers is refused, the rules refuse them so.
pub servers_so_if_refused : {s : List ℕ} (from : ℕ) {r : RefusedAt} → Bytes s → from ≤ length s → servers_from s from ≡ refused r
    → ServersRefusedSo s from (refusal_number r.refusal) r.place
servers_so_if_refused {s} from {r} b inside e = of_answer (servers_from s from) (servers_from_answer b inside) e
  where
    of_answer : (w : Servers) → ServersFromAnswer s from w → w ≡ refused r → ServersRefusedSo s from (refusal_number r.refusal) r.place
    of_answer (servers qs next) (end_there p) f = impossible cc
    of_answer (refused q) (refused_so p) f = let same : q ≡ r = cc in rw (← same) p
