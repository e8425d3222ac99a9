-- Bytes that are refused with 1 as a table are refused at their first bad byte: all that stands before the bad number is numbers. (docs/RULES.md, 3.8.)
use Prim.Native.Nat.{ℕ, suc, ◌≤◌, ◌<◌}
use native.Mathlib.Omega.{arith}
use mathlib.Core.Path.{◌≡◌, refl, subst}
use mathlib.Core.List.{List, [], ◌∷◌, ◌++◌, flatten, map, Memᴰ}
use lib.ListN.{length, drop, get_or}
use Rattle.numbers.specs.Spelling.{max_number, spelling}
use Rattle.numbers.specs.BadByte.{NumbersBetween, nothing_between, number_first, FirstBadByte}
use Rattle.numbers.proofs.Spellings.{spelled_rest}
use Rattle.numbers.proofs.BadByte.{numbers_joined}
use Rattle.table.specs.declared.Row.{Row}
use Rattle.table.specs.declared.Server.{Server}
use Rattle.table.specs.Servers.{GoodServer}
use Rattle.table.specs.SpelledTables.{WithinLimits, AcceptableRow, spelled_row, spelled_server}
use Rattle.table.specs.Refusals.{PartStands, ValueNext, RowsEnd, misspelled, out_of_range, TimerEnds, no_s, bad_p, s_not_below}
use Rattle.table.specs.Refusals.{no_count, too_large_count, bad_value, hopeless_row, ServerNext, misspelled_b, b_out_of_range}
use Rattle.table.specs.Refusals.{no_server_count, too_many_servers, bad_a, bad_b, RefusedSo, bad_timer, bad_rows, bad_servers, bytes_after, long_period}
use Rattle.table.specs.Refusals.{RefusedAtTheFirstBadByte}
use Rattle.table.proofs.Each.{each_head, each_tail}
use Rattle.table.proofs.Spelling.{parted}
use Rattle.table.proofs.BadValues.{limits_small}
use Rattle.table.proofs.TableAnswers.{refused_exactly}

module _ {s : List ℕ} where
  -- Where the spelling of a number stands, the number stands.
  number_there : {at next : ℕ} (v : ℕ) → v ≤ max_number → PartStands s at (spelling v) next → NumbersBetween s at next
  number_there {at} {next} v h p =
      number_first (record { value = v; next = next }) (spelled_rest s (drop next s) at (record { value = v; next = next }) h p.here p.ends) nothing_between

  -- Where the spellings of values stand, one after another, numbers stand.
  values_there : {at next : ℕ} (values : List ℕ) → ((i : ℕ) → i < length values → get_or values i 0 ≤ max_number) → PartStands s at (flatten (map spelling values)) next
      → NumbersBetween s at next
  unfolding flatten
  values_there {at} {next} [] small p = let same : at ≡ next = omega (arith, p.ends) in subst (λ end. NumbersBetween s at end) same nothing_between
  values_there {at = at} {next = next} (v ∷ values) small p =
      let t = parted (spelling v) (flatten (map spelling values)) p in
      numbers_joined (number_there v (small 0 (omega arith)) t.1) (values_there {at = (parted (spelling v) (flatten (map spelling values)) p).0} values (λ i h. small (suc i) (omega arith)) t.2)

  -- Where the spelling of a row stands, four numbers stand.
  row_there : {at next : ℕ} (r : Row) → WithinLimits r → PartStands s at (spelled_row r) next → NumbersBetween s at next
  row_there r w p =
      let x = parted (spelling r.x) (spelling r.y ++ (spelling r.d ++ spelling r.c)) p in
      let y = parted (spelling r.y) (spelling r.d ++ spelling r.c) x.2 in
      let d = parted (spelling r.d) (spelling r.c) y.2 in
      numbers_joined (number_there r.x (omega (arith, w.most_x)) x.1)
      (numbers_joined (number_there r.y (omega (arith, w.most_y)) y.1)
      (numbers_joined (number_there r.d (omega (arith, w.most_d)) d.1) (number_there r.c (omega (arith, w.most_c)) d.2)))

  -- Where the spellings of rows stand, numbers stand.
  rows_there : {at next : ℕ} (rows : List Row) → ((r : Row) → Memᴰ r rows → AcceptableRow r) → PartStands s at (flatten (map spelled_row rows)) next
      → NumbersBetween s at next
  unfolding flatten
  rows_there {at} {next} [] each p = let same : at ≡ next = omega (arith, p.ends) in subst (λ end. NumbersBetween s at end) same nothing_between
  rows_there {at = at} {next = next} (r ∷ rows) each p =
      let t = parted (spelled_row r) (flatten (map spelled_row rows)) p in
      numbers_joined (row_there r (each_head each).within_limits t.1) (rows_there {at = (parted (spelled_row r) (flatten (map spelled_row rows)) p).0} rows (each_tail each) t.2)

  -- Up to a value that is next, numbers stand.
  numbers_before : {from at most : ℕ} → ValueNext s from at most → NumbersBetween s from at
  numbers_before p =
      let rest = flatten (map spelling p.values) in
      let t = parted (spelling p.count) (flatten (map spelled_row p.rows) ++ rest) p.before in
      let u = parted (flatten (map spelled_row p.rows)) rest t.2 in
      let small : (i : ℕ) → i < length p.values → get_or p.values i 0 ≤ max_number =
      λ i h. omega (arith, p.first_values.within i h, limits_small i) in
      numbers_joined (number_there p.count (omega (arith, p.few_rows)) t.1)
      (numbers_joined (rows_there p.rows p.rows_acceptable u.1) (values_there p.values small u.2))

  -- Where rows end, numbers stand before.
  rows_end_there : {from at : ℕ} {rows : List Row} → RowsEnd s from at rows → NumbersBetween s from at
  rows_end_there {rows = rows} e =
      let t = parted (spelling (length rows)) (flatten (map spelled_row rows)) e.before in
      numbers_joined (number_there (length rows) (omega (arith, e.few_rows)) t.1) (rows_there rows e.rows_acceptable t.2)

  -- Where the spelling of a server stands, two numbers stand.
  server_there : {at next : ℕ} (v : Server) → GoodServer v → PartStands s at (spelled_server v) next → NumbersBetween s at next
  server_there v w p =
      let t = parted (spelling v.a) (spelling v.b) p in
      numbers_joined (number_there v.a (omega (arith, w.a_within_b, w.most_b)) t.1) (number_there v.b (omega (arith, w.most_b)) t.2)

  -- Where the spellings of servers stand, numbers stand.
  servers_there : {at next : ℕ} (vs : List Server) → ((v : Server) → Memᴰ v vs → GoodServer v) → PartStands s at (flatten (map spelled_server vs)) next
      → NumbersBetween s at next
  unfolding flatten
  servers_there {at} {next} [] each p = let same : at ≡ next = omega (arith, p.ends) in subst (λ end. NumbersBetween s at end) same nothing_between
  servers_there {at = at} {next = next} (v ∷ vs) each p =
      let t = parted (spelled_server v) (flatten (map spelled_server vs)) p in
      numbers_joined (server_there v (each_head each) t.1) (servers_there {at = (parted (spelled_server v) (flatten (map spelled_server vs)) p).0} vs (each_tail each) t.2)

  -- Up to a server that is next, numbers stand.
  numbers_before_server : {from at : ℕ} → ServerNext s from at → NumbersBetween s from at
  numbers_before_server p =
      let t = parted (spelling p.count) (flatten (map spelled_server p.servers)) p.before in
      numbers_joined (number_there p.count (omega (arith, p.few_servers)) t.1) (servers_there p.servers p.each_good t.2)

  -- Where a timer ends, its two numbers stand before.
  timer_there : {at ts tp : ℕ} → TimerEnds s at ts tp → NumbersBetween s 0 at
  timer_there {ts = ts} {tp} e =
      let w = e.good_timer in
      let t = parted (spelling ts) (spelling tp) e.before in
      numbers_joined (number_there ts (omega (arith, w.s_below_p, w.most_p)) t.1) (number_there tp (omega (arith, w.most_p)) t.2)

  -- Where rows end behind a timer, numbers stand before.
  table_there : {from then ts tp : ℕ} {rows : List Row} → TimerEnds s from ts tp → RowsEnd s from then rows → NumbersBetween s 0 then
  table_there timed ended = numbers_joined (timer_there timed) (rows_end_there ended)

  -- What is to be refused with 1 has its first bad byte there.
  first_bad : {number place : ℕ} → RefusedSo s number place → number ≡ 1 → FirstBadByte s place
  first_bad (bad_timer (no_s w)) one = record { start = 0; before = nothing_between; bad = w }
  first_bad (bad_timer (bad_p n stands (misspelled w))) one = record { start = n.next; before = number_first n stands nothing_between; bad = w }
  first_bad (bad_timer (bad_p n stands (out_of_range m p o))) one = absurd (omega arith)
  first_bad (bad_timer (s_not_below n m p q some most above)) one = absurd (omega arith)
  first_bad (bad_rows {from = from} timed (no_count p)) one = record { start = from; before = timer_there timed; bad = p }
  first_bad (bad_rows timed (too_large_count n read many)) one = absurd (omega arith)
  first_bad (bad_rows timed (bad_value {at = at} next (misspelled p))) one =
      record { start = at; before = numbers_joined (timer_there timed) (numbers_before next); bad = p }
  first_bad (bad_rows timed (bad_value next (out_of_range n p o))) one = absurd (omega arith)
  first_bad (bad_rows timed (hopeless_row p)) one = absurd (omega arith)
  first_bad (bad_servers {then = then} timed ended (no_server_count p)) one = record { start = then; before = table_there timed ended; bad = p }
  first_bad (bad_servers timed ended (too_many_servers n read many)) one = absurd (omega arith)
  first_bad (bad_servers timed ended (bad_a {at = at} next (misspelled p))) one =
      record { start = at; before = numbers_joined (table_there timed ended) (numbers_before_server next); bad = p }
  first_bad (bad_servers timed ended (bad_a next (out_of_range n p o))) one = absurd (omega arith)
  first_bad (bad_servers timed ended (bad_b next a stands some most (misspelled_b p))) one = record {
    start = a.next;
    before = numbers_joined (table_there timed ended) (numbers_joined (numbers_before_server next) (number_first a stands nothing_between));
    bad = p;
  }
  first_bad (bad_servers timed ended (bad_b next a stands some most (b_out_of_range n p o))) one = absurd (omega arith)
  first_bad (bytes_after p l) one = absurd (omega arith)
  first_bad (long_period p l) one = absurd (omega arith)

pub refused_at_the_first_bad_byte : RefusedAtTheFirstBadByte
refused_at_the_first_bad_byte s place b e = first_bad ((refused_exactly s 1 place b).0 e) refl
