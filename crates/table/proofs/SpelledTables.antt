-- The laws of a table, stated by the cases of its answer, for other proofs to cite. Bytes are accepted exactly when they are the spelling of an acceptable
-- content. (docs/RULES.md, section 3.)
use Rattle.std.specs.Prelude.{Result, Ok, Err}
use Prim.Native.Nat.{ℕ, ◌≤◌}
use native.Mathlib.Omega.{arith}
use mathlib.Core.Path.{◌≡◌, refl, sym, ap, ap₂, ◌∙◌}
use mathlib.Core.List.{List, ◌++◌, flatten, append-nil, append_assoc}
use mathlib.Core.Bool.{Bool, true, false, cond}
use lib.Dec.{ltb, leb}
use lib.ListN.{length, drop_of_length-le}
use lib.Seq.{take-append_seam}
use borrow.Author.Tests.{le-leb, le-ltb, leb-true, ltb-false}
use Rattle.kinds.specs.declared.RefusedAt.{RefusedAt}
use Rattle.kinds.proofs.Apart.{impossible}
use Rattle.periods.proofs.Multiples.{period_is_least}
use Rattle.numbers.specs.Spelling.{spelling}
use Rattle.numbers.specs.SpelledNumbers.{Bytes}
use Rattle.numbers.proofs.Spellings.{spelling_last}
use Rattle.table.specs.declared.Row.{Row}
use Rattle.table.specs.declared.Server.{Server}
use Rattle.table.specs.declared.TimerAt.{TimerAt}
use Rattle.table.specs.declared.TableRead.{TableRead}
use Rattle.table.specs.Limits.{max_period}
use Rattle.table.specs.Content.{Content}
use Rattle.table.specs.Period.{periods_of, period_of}
use Rattle.table.specs.Timer.{read_timer}
use Rattle.table.specs.Servers.{Servers, servers, servers_from}
use Rattle.table.specs.Servers as servers
use Rattle.table.specs.Tables.{Rows, rows, refused, content_of, table_of, rows_from, refused_table, at_end, content_with, after_servers, after_rows, after_timer}
use Rattle.table.specs.Tables.{table_read}
use Rattle.table.specs.SpelledTables.{spelled_rows, spelled_servers, spelled_table, Acceptable, AcceptedAs, UsableContent}
use Rattle.table.specs.TableLaws.{InRangeMeans, ContentOfTable, WithoutServersAreSpelled, RowsAloneAreSpelled, SpellingsOfTablesDiffer}
use Rattle.table.specs.Refusals.{TimerEnds, RowsEnd, ContentEnds}
use Rattle.table.proofs.Ranges.{limits_of, in_range_of}
use Rattle.table.proofs.ReadTables.{some_periods}
use Rattle.table.proofs.Spelling.{stands_whole, parted, joined, ends_inside, rows_then, rows_end}
use Rattle.table.proofs.SpelledServers.{servers_then, servers_end}
use Rattle.table.proofs.Timers.{timer_then, timer_ends}

pub in_range_means : InRangeMeans
in_range_means r = (limits_of r, in_range_of r)

pub content_of_table : ContentOfTable
content_of_table content =
    ap₂ (λ rs vs. record { s = content.s; p = content.p; rows = rs; servers = vs })
    (take-append_seam content.rows _) (take-append_seam content.servers _)

pub without_servers_are_spelled : WithoutServersAreSpelled
unfolding flatten
without_servers_are_spelled s p all = simp (spelling_last 0 (omega arith), append_assoc)

pub rows_alone_are_spelled : RowsAloneAreSpelled
rows_alone_are_spelled all = without_servers_are_spelled 0 1 all ∙ rw (spelling_last 0 (omega arith), spelling_last 1 (omega arith))

-- ---- the spelling of a table

-- If a timer and rows end where a server count begins, the table is read up to that place, and its servers are left.
pub rows_and_then : {s : List ℕ} {from then ts tp : ℕ} {all : List Row} → TimerEnds s from ts tp → RowsEnd s from then all
    → table_read s ≡ after_servers s (record { s = ts; p = tp; next = from }) all (servers_from s then)
rows_and_then {s} {from = from} {ts = ts} {tp = tp} timed ended =
    ap (after_timer s) (timer_then timed) ∙ ap (after_rows s (record { s = ts; p = tp; next = from })) (rows_then ended)

-- If a content ends at a place in the sense of `ContentEnds`, its table is read up to that place, and the tests after the servers are left.
pub content_then : {s : List ℕ} {at : ℕ} {content : Content} → ContentEnds s at content → table_read s ≡ at_end s content at
content_then {s} {content = content} e =
    rows_and_then e.timer e.its_rows ∙ ap (after_servers s (record { s = content.s; p = content.p; next = e.from }) content.rows) (servers_then e.its_servers)

-- Where the spelling of an acceptable content is all there is, the content ends in the sense of `ContentEnds`.
spelled_ends : (content : Content) → Acceptable content → ContentEnds (spelled_table content) (length (spelled_table content)) content
spelled_ends content a =
    let s = spelled_table content in
    let rest = spelled_rows content.rows ++ spelled_servers content.servers in
    let first = parted (spelling content.s) (spelling content.p ++ rest) (stands_whole s) in
    let second = parted (spelling content.p) rest first.2 in
    let third = parted (spelled_rows content.rows) (spelled_servers content.servers) second.2 in
    record {
      from = second.0;
      then = third.0;
      timer = record { good_timer = a.good_timer; before = joined first.1 second.1 };
      its_rows = record {
        few_rows = a.good_rows.few_rows;
        rows_acceptable = λ r m. record { within_limits = limits_of r (a.good_rows.in_range r m); c_within_d = a.good_rows.c_within_d r m };
        before = third.1;
      };
      its_servers = record { few_servers = a.good_servers.few_servers; each_good = a.good_servers.each_good; before = third.2 };
    }

-- The spelling of an acceptable content is read as its table.
pub spelled_is_read : (content : Content) → Acceptable content
    → table_read (spelled_table content) ≡ record { table = table_of content; answer = Ok (period_of content) }
spelled_is_read content a =
    let s = spelled_table content in
    content_then (spelled_ends content a) ∙ simp (le-ltb (length s) (length s) (omega arith), le-leb (period_of content) max_period a.period_within)

-- If a test refuses the table where it holds, and the table is accepted, then the test does not hold.
refused_if : (t : Bool) (at : RefusedAt) (then : TableRead) {h : ℕ} → (cond t (refused_table at) then).answer ≡ Ok h
    → (t ≡ false) × (then.answer ≡ Ok h)
refused_if true at then e = (cc, cc)
refused_if false at then e = (refl, e)

-- If a test refuses the table where it does not hold, and the table is accepted, then the test holds.
refused_unless : (t : Bool) (at : RefusedAt) (then : TableRead) {h : ℕ} → (cond t then (refused_table at)).answer ≡ Ok h
    → (t ≡ true) × (then.answer ≡ Ok h)
refused_unless true at then e = (refl, e)
refused_unless false at then e = (cc, cc)

-- If a table is accepted, its servers were read after its rows, nothing follows them, and its H is within the limit.
record ServersAccepted (s : List ℕ) (t : TimerAt) (rs : List Row) (v : Servers) (h : ℕ) : Type 0 where
  all : List Server
  next : ℕ
  were_read : v ≡ servers all next
  nothing_after : length s ≤ next
  period_within : period_of (content_with t rs all) ≤ max_period
  period : h ≡ period_of (content_with t rs all)
  table : (after_servers s t rs v).table ≡ table_of (content_with t rs all)

servers_accepted : (s : List ℕ) (t : TimerAt) (rs : List Row) (v : Servers) (h : ℕ) → (after_servers s t rs v).answer ≡ Ok h
    → ServersAccepted s t rs v h
servers_accepted s t rs (servers vs next) h e =
    let last = refused_if (ltb next (length s)) _ _ e in
    let short = refused_unless (leb (period_of (content_with t rs vs)) max_period) _ _ last.1 in
    record {
      all = vs;
      next = next;
      were_read = refl;
      nothing_after = ltb-false next (length s) last.0;
      period_within = leb-true (period_of (content_with t rs vs)) max_period short.0;
      period = cc short.1;
      table = simp (last.0, short.0);
    }
servers_accepted s t rs (servers.refused at) h e = impossible cc

-- If a table is accepted, its rows were read.
rows_accepted : (s : List ℕ) (t : TimerAt) (v : Rows) (h : ℕ) → (after_rows s t v).answer ≡ Ok h
    → (rs : List Row) × (next : ℕ) × (v ≡ rows rs next) × ((after_servers s t rs (servers_from s next)).answer ≡ Ok h)
rows_accepted s t (rows rs next) h e = (rs, next, refl, e)
rows_accepted s t (refused at) h e = impossible cc

-- If a table is accepted, its timer was read.
timer_accepted : (s : List ℕ) (v : Result TimerAt RefusedAt) (h : ℕ) → (after_timer s v).answer ≡ Ok h
    → (t : TimerAt) × (v ≡ Ok t) × ((after_rows s t (rows_from s t.next)).answer ≡ Ok h)
timer_accepted s (Ok t) h e = (t, refl, e)
timer_accepted s (Err r) h e = impossible cc

-- Bytes that are accepted are the spelling of an acceptable content.
pub accepted_is_spelled : (s : List ℕ) (h : ℕ) → Bytes s → (table_read s).answer ≡ Ok h → (content : Content) × AcceptedAs s h content
accepted_is_spelled s h b e =
    let w = timer_accepted s (read_timer s) h e in
    let t = w.0 in
    let timed = timer_ends b w.1 in
    let r = rows_accepted s t (rows_from s t.next) h w.2 in
    let ended = rows_end t.next b r.2 in
    let inside : r.1 ≤ length s = ends_inside ended.before (ends_inside timed.before (omega arith)) in
    let v = servers_accepted s t r.0 (servers_from s r.1) h r.3 in
    let served = servers_end r.1 b inside v.were_read in
    let whole = joined timed.before (joined ended.before served.before) in (
      content_with t r.0 v.all,
      record {
        acceptable = record {
          good_timer = timed.good_timer;
          good_rows = record {
            few_rows = ended.few_rows;
            in_range = λ q m. in_range_of q (ended.rows_acceptable q m).within_limits;
            c_within_d = λ q m. (ended.rows_acceptable q m).c_within_d;
          };
          good_servers = record { few_servers = served.few_servers; each_good = served.each_good };
          period_within = v.period_within;
        };
        spelled = whole.here ∙ rw (drop_of_length-le s v.nothing_after, append-nil, append_assoc (spelling t.s) (spelling t.p) _);
        read_as = ap (λ q. (after_timer s q).table) w.1 ∙ ap (λ q. (after_rows s t q).table) r.2 ∙ v.table;
        period = v.period;
      },
    )

-- ---- what follows

pub spellings_of_tables_differ : SpellingsOfTablesDiffer
spellings_of_tables_differ content other a b e =
    let same = sym (spelled_is_read content a) ∙ ap table_read e ∙ spelled_is_read other b in
    sym (content_of_table content) ∙ ap (λ (t : TableRead). content_of t.table) same ∙ content_of_table other

-- Bytes that are accepted are accepted as the content of the table that was read.
pub accepted_as_read : (s : List ℕ) (h : ℕ) → Bytes s → (table_read s).answer ≡ Ok h → AcceptedAs s h (content_of (table_read s).table)
accepted_as_read s h b e = let a = accepted_is_spelled s h b e in rw (a.1.read_as, content_of_table) a.1

-- If bytes were accepted as a content, all that `UsableContent` lists holds for it.
usable_content : (s : List ℕ) (h : ℕ) (content : Content) → AcceptedAs s h content → UsableContent s h content
usable_content s h content a =
    let good = a.acceptable.good_rows.in_range in
    let served = a.acceptable.good_servers.each_good in
    let least = period_is_least (periods_of content) (some_periods content a.acceptable.good_timer.some_p good served) in
    record {
      accepted_as = a;
      good_timer = a.acceptable.good_timer;
      within_limits = λ r m. limits_of r (good r m);
      c_within_d = a.acceptable.good_rows.c_within_d;
      each_server = served;
      some_period = rw a.period least.positive;
      most_period = rw a.period a.acceptable.period_within;
      divides_period = λ y m. rw a.period (least.multiple y m);
    }

-- For an accepted table, all that `UsableContent` lists holds for its content.
pub accepted_is_usable : (s : List ℕ) (h : ℕ) → Bytes s → (table_read s).answer ≡ Ok h → UsableContent s h (content_of (table_read s).table)
accepted_is_usable s h b e = usable_content s h (content_of (table_read s).table) (accepted_as_read s h b e)
