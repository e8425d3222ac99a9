-- Bytes are refused exactly as the rules say: for their timer, for their row count, for a bad value, for a hopeless row, for their servers, for bytes after the
-- servers, or for their H. (docs/RULES.md, 3.3, 3.7 to 3.12, 3.17 and 3.19.)
use Rattle.std.specs.Prelude.{Result, Ok, Err}
use Prim.Native.Nat.{ℕ, ◌≤◌}
use native.Mathlib.Decide.{dec_le}
use native.Mathlib.Omega.{arith}
use mathlib.Core.Path.{◌≡◌, refl, ap, ◌∙◌}
use mathlib.Core.Logic.{inl, inr}
use mathlib.Core.List.{List, ◌++◌, flatten, map}
use lib.ListN.{length, get_or}
use borrow.Author.Tests.{le-leb, lt-leb, lt-ltb, le-ltb}
use Rattle.kinds.specs.Numbering.{refusal_number, refused_with}
use Rattle.kinds.specs.declared.Refusal.TheVariants.{Misspelled, TooManyRows, ExtraBytes, PeriodTooLong, HopelessRow}
use Rattle.kinds.specs.declared.RefusedAt.{RefusedAt}
use Rattle.kinds.proofs.Apart.{impossible}
use Rattle.numbers.specs.declared.Number.{Number}
use Rattle.numbers.specs.Spelling.{spelling}
use Rattle.numbers.specs.Reading.{read_at}
use Rattle.numbers.specs.SpelledNumbers.{Bytes}
use Rattle.numbers.proofs.Spellings.{number_has_one_spelling, spelled_read}
use Rattle.numbers.proofs.BadByte.{bad_read, refused_bad}
use Rattle.table.specs.declared.Row.{Row}
use Rattle.table.specs.declared.TimerAt.{TimerAt}
use Rattle.table.specs.Limits.{max_rows, max_period}
use Rattle.table.specs.Content.{Content}
use Rattle.table.specs.Period.{period_of}
use Rattle.table.specs.Timer.{read_timer}
use Rattle.table.specs.Servers.{Servers, servers, servers_from}
use Rattle.table.specs.Servers as servers
use Rattle.table.specs.Tables.{Rows, rows, refused, rows_from, after_count, refused_table, at_end, content_with, after_servers, after_rows, after_timer}
use Rattle.table.specs.Tables.{table_read}
use Rattle.table.specs.Answers.{table_says}
use Rattle.table.specs.SpelledTables.{spelled_row}
use Rattle.table.specs.Refusals.{PartStands, value_limits, ValueNext, RowsEnd, TimerEnds, ContentEnds, BadValue, misspelled, out_of_range}
use Rattle.table.specs.Refusals.{HopelessRowIn, TableRefusal, RowsRefusedSo, no_count, too_large_count, bad_value, hopeless_row}
use Rattle.table.specs.Refusals.{ServersRefusedSo, no_server_count, too_many_servers, bad_a, bad_b, misspelled_b, b_out_of_range}
use Rattle.table.specs.Refusals.{TimerRefusedSo, no_s, bad_p, s_not_below, RefusedSo, bad_timer, bad_rows, bad_servers, bytes_after, long_period}
use Rattle.table.proofs.Spelling.{parted, joined, ends_inside, number_stands, RowsStand, count_then, rows_end}
use Rattle.table.proofs.Timers.{timer_then, timer_ends, timer_refused_if_so, timer_so_if_refused}
use Rattle.table.proofs.SpelledServers.{servers_end, servers_refused_if_so, servers_so_if_refused}
use Rattle.table.proofs.SpelledTables.{rows_and_then, content_then}
use Rattle.table.proofs.BadValues.{RowsEndBadly, rows_end_badly, bad_refused, row_refused, rows_refused, RowEnds, badly, hopelessly, HopelessHere, hopeless_refused}

-- ---- rows

-- Reading the rows is refused at this place, with a refusal of this number.
record RowsRefused (s : List ℕ) (from number place : ℕ) : Type 0 where
  how : RefusedAt
  its_number : refusal_number how.refusal ≡ number
  its_place : how.place ≡ place
  answer : rows_from s from ≡ refused how

-- If the rules refuse the rows, reading them is refused so.
rows_refused_if_so : {s : List ℕ} {from number place : ℕ} → Bytes s → RowsRefusedSo s from number place → RowsRefused s from number place
rows_refused_if_so {place = place} b (no_count p) =
    record { how = record { refusal = Misspelled; place = place }; its_number = refl; its_place = refl; answer = simp (bad_read b p) }
rows_refused_if_so {from = from} b (too_large_count n p l) = record {
  how = record { refusal = TooManyRows; place = from };
  its_number = refl;
  its_place = refl;
  answer = simp (spelled_read p, lt-leb n.value max_rows l);
}
rows_refused_if_so {s} {place = place} b (bad_value p w) =
    let front = spelling p.count in
    let t = parted front (flatten (map spelled_row p.rows) ++ flatten (map spelling p.values)) p.before in
    let u = parted (flatten (map spelled_row p.rows)) (flatten (map spelling p.values)) t.2 in
    let stand : RowsStand s t.0 p.rows u.0 = record { acceptable = p.rows_acceptable; stand = u.1 } in
    let wrong = bad_refused b (rw p.its_limit at w) in
    record {
      how = record { refusal = wrong.kind; place = place };
      its_number = wrong.its_number;
      its_place = refl;
      answer = count_then p.count p.few_rows t.1 ∙ rows_refused p.count t.0 p.rows p.fewer stand (row_refused p.values p.first_values u.2 wrong);
    }
rows_refused_if_so {s} b (hopeless_row {at} p) =
    let r = p.row in
    let first = spelling r.x ++ (spelling r.y ++ spelling r.d) in
    let t = parted (spelling p.count) (flatten (map spelled_row p.rows) ++ first) p.before in
    let u = parted (flatten (map spelled_row p.rows)) first t.2 in
    let stand : RowsStand s t.0 p.rows u.0 = record { acceptable = p.rows_acceptable; stand = u.1 } in
    let here : HopelessHere s u.0 at = record {
      row = r;
      next = p.next;
      in_range = p.in_range;
      c_above_d = p.c_above_d;
      before = u.2;
      its_c = p.its_c;
    } in
    record {
      how = record { refusal = HopelessRow; place = at };
      its_number = refl;
      its_place = refl;
      answer = count_then p.count p.few_rows t.1 ∙ rows_refused p.count t.0 p.rows p.fewer stand (hopeless_refused here);
    }

-- If rows end badly after a count of at most the limit of rows, the rules refuse them so, for the bad value or the hopeless row.
badly_behind_count : {s : List ℕ} {from c n : ℕ} {r : RefusedAt} → n ≤ max_rows → PartStands s from (spelling n) c → RowsEndBadly n s c r
    → RowsRefusedSo s from (refusal_number r.refusal) r.place
badly_behind_count {s} {from} {n = n} few p e = last e.then
  where
    last : {r : RefusedAt} → RowEnds s e.next r → RowsRefusedSo s from (refusal_number r.refusal) r.place
    last (badly values) =
        let next : ValueNext s from values.next (get_or value_limits (length values.values) 0) = record {
          count = n;
          rows = e.before;
          values = values.values;
          few_rows = few;
          fewer = e.fewer;
          rows_acceptable = e.stand.acceptable;
          first_values = values.first;
          its_limit = refl;
          before = joined p (joined e.stand.stand values.stand);
        } in
        bad_value next values.wrong
    last (hopelessly here) = hopeless_row (record {
      count = n;
      rows = e.before;
      row = here.row;
      next = here.next;
      few_rows = few;
      fewer = e.fewer;
      rows_acceptable = e.stand.acceptable;
      in_range = here.in_range;
      c_above_d = here.c_above_d;
      before = joined p (joined e.stand.stand here.before);
      its_c = here.its_c;
    })

-- If reading the rows is refused, the rules refuse them so.
rows_so_if_refused : {s : List ℕ} (from : ℕ) {r : RefusedAt} → Bytes s → from ≤ length s → rows_from s from ≡ refused r
    → RowsRefusedSo s from (refusal_number r.refusal) r.place
rows_so_if_refused {s} from {r} b inside e = count (read_at s from) refl e
  where
    count : (v : Result Number RefusedAt) → read_at s from ≡ v → after_count s from v ≡ refused r → RowsRefusedSo s from (refusal_number r.refusal) r.place
    count (Ok n) f g = elim (dec_le n.value max_rows) [
      | yes few ↦
          badly_behind_count few (number_stands from n b f)
          (rows_end_badly n.value n.next b (number_has_one_spelling s from n b f).within (simp (le-leb n.value max_rows few) at g))
      | no many ↦
          let h = simp (lt-leb n.value max_rows (omega arith)) at g in
          let is : r ≡ record { refusal = TooManyRows; place = from } = cc in
          rw is (too_large_count n (number_has_one_spelling s from n b f) (omega arith))
    ]
    count (Err q) f g =
        let w = refused_bad b inside f in
        let is : r ≡ record { refusal = Misspelled; place = q.place } = cc (g, w.0) in
        rw is (no_count w.1)

-- ---- a table

-- If the rules refuse the bytes, the answer says so.
pub says_refused_if_so : {s : List ℕ} {number place : ℕ} → Bytes s → RefusedSo s number place → table_says (table_read s).answer ≡ refused_with number place
says_refused_if_so {s} b (bad_timer w) = let r = timer_refused_if_so b w in rw (ap (after_timer s) r.answer, r.its_number, r.its_place)
says_refused_if_so {s} b (bad_rows {from = from} {ts = ts} {tp = tp} timed w) =
    let r = rows_refused_if_so b w in
    let read : table_read s ≡ refused_table r.how = ap (after_timer s) (timer_then timed) ∙ ap (after_rows s (record { s = ts; p = tp; next = from })) r.answer in
    rw (read, r.its_number, r.its_place)
says_refused_if_so {s} b (bad_servers {from = from} {ts = ts} {tp = tp} {rows = rs} timed ended w) =
    let r = servers_refused_if_so b w in
    let read : table_read s ≡ refused_table r.how = rows_and_then timed ended ∙ ap (after_servers s (record { s = ts; p = tp; next = from }) rs) r.answer in
    rw (read, r.its_number, r.its_place)
says_refused_if_so {s} b (bytes_after {at} p l) = rw (content_then p, lt-ltb at (length s) l)
says_refused_if_so {s} b (long_period {content} p l) =
    rw (content_then p, le-ltb (length s) (length s) (omega arith), lt-leb (period_of content) max_period l)

-- What stands before the end of a content ends inside the bytes.
content_inside : {s : List ℕ} {at : ℕ} {content : Content} → ContentEnds s at content → at ≤ length s
content_inside p = ends_inside p.its_servers.before (ends_inside p.its_rows.before (ends_inside p.timer.before (omega arith)))

-- After the servers, only extra bytes and an H above its limit are refused.
refused_at_end : {s : List ℕ} {at : ℕ} {content : Content} {r : RefusedAt} → ContentEnds s at content → (at_end s content at).answer ≡ Err r
    → RefusedSo s (refusal_number r.refusal) r.place
refused_at_end {s} {at} {content} {r} p e = elim (dec_le (length s) at) [
  | yes l ↦
      let end : at ≡ length s = omega (arith, content_inside p) in
      elim (dec_le (period_of content) max_period) [
        | yes h ↦
            let z : Ok (period_of content) ≡ Err r = simp (le-ltb at (length s) l, le-leb (period_of content) max_period h) at e in
            impossible cc
        | no h ↦
            let f = simp (le-ltb at (length s) l, lt-leb (period_of content) max_period (omega arith)) at e in
            let is : r ≡ record { refusal = PeriodTooLong; place = length s } = cc in
            rw is (long_period {content = content} (rw end at p) (omega arith))
      ]
  | no l ↦
      let f = simp (lt-ltb at (length s) (omega arith)) at e in
      let is : r ≡ record { refusal = ExtraBytes; place = at } = cc in
      rw is (bytes_after {content = content} p (omega arith))
]

-- If reading the bytes is refused, the rules refuse them so.
pub so_if_refused : (s : List ℕ) (r : RefusedAt) → Bytes s → (table_read s).answer ≡ Err r → RefusedSo s (refusal_number r.refusal) r.place
so_if_refused s r b e = first (read_timer s) refl e
  where
    last : (t : TimerAt) {rs : List Row} {then : ℕ} → TimerEnds s t.next t.s t.p → RowsEnd s t.next then rs → then ≤ length s → (v : Servers)
        → servers_from s then ≡ v → (after_servers s t rs v).answer ≡ Err r → RefusedSo s (refusal_number r.refusal) r.place
    last t {rs} {then} timed ended inside (servers vs at) f g =
        refused_at_end {content = content_with t rs vs}
        (record { from = t.next; then = then; timer = timed; its_rows = ended; its_servers = servers_end then b inside f })
        g
    last t {then = then} timed ended inside (servers.refused q) f g =
        let same : q ≡ r = cc in
        bad_servers timed ended (servers_so_if_refused then b inside (f ∙ ap servers.refused same))

    after : (t : TimerAt) → TimerEnds s t.next t.s t.p → t.next ≤ length s → (v : Rows) → rows_from s t.next ≡ v
        → (after_rows s t v).answer ≡ Err r → RefusedSo s (refusal_number r.refusal) r.place
    after t timed inside (rows rs then) f g =
        let ended = rows_end t.next b f in
        last t timed ended (ends_inside ended.before inside) (servers_from s then) refl g
    after t timed inside (refused q) f g =
        let same : q ≡ r = cc in
        bad_rows timed (rows_so_if_refused t.next b inside (f ∙ ap refused same))

    first : (v : Result TimerAt RefusedAt) → read_timer s ≡ v → (after_timer s v).answer ≡ Err r → RefusedSo s (refusal_number r.refusal) r.place
    first (Ok t) f g =
        let timed = timer_ends b f in
        after t timed (ends_inside timed.before (omega arith)) (rows_from s t.next) refl g
    first (Err q) f g = let same : q ≡ r = cc in bad_timer (timer_so_if_refused b (f ∙ ap Err same))

-- A bad value is refused with 1 or 3.
value_refusal : {s : List ℕ} {at most number place : ℕ} → BadValue s at most number place → (1 ≤ number) × (number ≤ 3)
value_refusal (misspelled none) = (omega arith, omega arith)
value_refusal (out_of_range n read outside) = (omega arith, omega arith)

-- The rules refuse a timer with 1 or 3.
timer_refusal : {s : List ℕ} {number place : ℕ} → TimerRefusedSo s number place → (1 ≤ number) × (number ≤ 3)
timer_refusal (no_s none) = (omega arith, omega arith)
timer_refusal (bad_p s stands bad) = value_refusal bad
timer_refusal (s_not_below s p stands stands' some most above) = (omega arith, omega arith)

-- The rules refuse servers with 1, 2 or 3.
servers_refusal : {s : List ℕ} {from number place : ℕ} → ServersRefusedSo s from number place → (1 ≤ number) × (number ≤ 3)
servers_refusal (no_server_count none) = (omega arith, omega arith)
servers_refusal (too_many_servers n read many) = (omega arith, omega arith)
servers_refusal (bad_a next bad) = value_refusal bad
servers_refusal (bad_b next a stands some most (misspelled_b none)) = (omega arith, omega arith)
servers_refusal (bad_b next a stands some most (b_out_of_range n read outside)) = (omega arith, omega arith)

-- The rules refuse bytes with the numbers 1 to 5 and 16 only.
pub table_refusal : {s : List ℕ} {number place : ℕ} → RefusedSo s number place → TableRefusal number
table_refusal (bad_timer bad) = let n = timer_refusal bad in inl (n.0, omega (arith, n.1))
table_refusal (bad_rows timed (no_count none)) = inl (omega arith, omega arith)
table_refusal (bad_rows timed (too_large_count n read many)) = inl (omega arith, omega arith)
table_refusal (bad_rows timed (bad_value next bad)) = let n = value_refusal bad in inl (n.0, omega (arith, n.1))
table_refusal (bad_rows timed (hopeless_row p)) = inr refl
table_refusal (bad_servers timed ended bad) = let n = servers_refusal bad in inl (n.0, omega (arith, n.1))
table_refusal (bytes_after ended more) = inl (omega arith, omega arith)
table_refusal (long_period ended long) = inl (omega arith, omega arith)

-- The refusals of a table are numbered 1 to 5 and 16.
pub refused_as_a_table : (s : List ℕ) (r : RefusedAt) → Bytes s → (table_read s).answer ≡ Err r → TableRefusal (refusal_number r.refusal)
refused_as_a_table s r bytes e = table_refusal (so_if_refused s r bytes e)

-- The rules refuse bytes with 16 for a hopeless row only.
pub sixteen_is_hopeless : {s : List ℕ} {number place : ℕ} → number ≡ 16 → RefusedSo s number place → HopelessRowIn s place
sixteen_is_hopeless e (bad_timer bad) = absurd (omega (arith, timer_refusal bad))
sixteen_is_hopeless e (bad_rows timed (no_count none)) = absurd (omega arith)
sixteen_is_hopeless e (bad_rows timed (too_large_count n read many)) = absurd (omega arith)
sixteen_is_hopeless e (bad_rows timed (bad_value next bad)) = absurd (omega (arith, value_refusal bad))
sixteen_is_hopeless e (bad_rows {from = from} {ts = ts} {tp = tp} timed (hopeless_row p)) =
    record { s = ts; p = tp; from = from; timer = timed; its_row = p }
sixteen_is_hopeless e (bad_servers timed ended bad) = absurd (omega (arith, servers_refusal bad))
sixteen_is_hopeless e (bytes_after ended more) = absurd (omega arith)
sixteen_is_hopeless e (long_period ended long) = absurd (omega arith)
