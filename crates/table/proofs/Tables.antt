-- Bytes are read as the table of a content that was accepted, or as the empty table beside the refusal. So the table is in range, and its unused rows and
-- servers hold zeros. (docs/RULES.md, 3.14 and 10.5.)
use Rattle.std.specs.Prelude.{Result, Ok, Err}
use Prim.Native.Nat.{ℕ, zero, suc, ◌+◌, ◌-◌, ◌≤◌, ◌<◌}
use mathlib.Core.Path.{◌≡◌, refl, ◌∙◌}
use mathlib.Core.Logic.{◌⊎◌, inl, inr, ⊎_elim}
use mathlib.Core.Bool.{Bool, true, false, cond}
use mathlib.Core.List.{List, [], ◌++◌}
use native.Mathlib.Omega.{arith}
use lib.Dec.{ltb, leb}
use lib.ListN.{length, get_or, replicate, length-append, length-replicate, get_or-append}
use lib.Seq.{get_or-append-add, length-take-le}
use Rattle.kinds.specs.declared.RefusedAt.{RefusedAt}
use Rattle.kinds.proofs.Apart.{impossible}
use Rattle.numbers.specs.SpelledNumbers.{Bytes}
use Rattle.table.specs.declared.Row.{Row}
use Rattle.table.specs.declared.Server.{Server}
use Rattle.table.specs.declared.Table.{Table}
use Rattle.table.specs.declared.TimerAt.{TimerAt}
use Rattle.table.specs.declared.TableRead.{TableRead}
use Rattle.table.specs.Limits.{max_rows, max_servers, max_period}
use Rattle.table.specs.Content.{Content, rows_alone}
use Rattle.table.specs.Period.{period_of}
use Rattle.table.specs.Timer.{GoodTimer, read_timer}
use Rattle.table.specs.Servers.{no_server, held_servers, Servers, servers, servers_from}
use Rattle.table.specs.Servers as servers
use Rattle.table.specs.Tables.{InRange, Rows, rows, refused, no_row, held_rows, rows_of, servers_of, table_of, empty_table, rows_from, content_with, after_servers}
use Rattle.table.specs.Tables.{after_rows, after_timer, table_read}
use Rattle.table.specs.SpelledTables.{GoodRows, GoodServers}
use Rattle.table.specs.TableLaws.{LimitsOfTables, ReadInRange, UnusedHoldZeros}
use Rattle.table.proofs.Each.{stands_in, each_none}
use Rattle.table.proofs.SpelledTables.{accepted_is_spelled}

pub limits_of_tables : LimitsOfTables
limits_of_tables = refl

-- ---- rows and servers as a table holds them

-- The elements in use, and behind them copies of `none` up to the number `most`.
abbrev held_up_to : {A : Type 0} (most : ℕ) (none : A) → List A → List A
held_up_to most none l = l ++ replicate (most - length l) none

-- Those in use and those unused are together as many as there may be.
places_held : {A : Type 0} (most : ℕ) (none : A) (l : List A) → length l ≤ most → length (held_up_to most none l) ≡ most
places_held most none l few = simp (length-append, length-replicate) (omega arith)

-- In a list of copies of a, every place holds a, and so does the default past the end.
same_copies : {A : Type 0} (n i : ℕ) (a : A) → get_or (replicate n a) i a ≡ a
same_copies zero i a = refl
same_copies (suc n) zero a = refl
same_copies (suc n) (suc i) a = same_copies n i a

-- Those unused are copies of `none`.
unused_held : {A : Type 0} (most : ℕ) (none : A) (l : List A) (i : ℕ) → length l ≤ i → get_or (held_up_to most none l) i none ≡ none
unused_held most none l i h =
    let place : i ≡ length l + (i - length l) = omega arith in
    rw place (get_or-append-add l _ (i - length l) none ∙ same_copies (most - length l) (i - length l) none)

-- The table holds each row in use at its row number.
row_held : (rs : List Row) (i : ℕ) → i < length rs → get_or (held_rows rs) i no_row ≡ get_or rs i no_row
row_held rs i h = get_or-append rs _ no_row i h

-- The table holds the servers in use in their order.
server_held : (vs : List Server) (k : ℕ) → k < length vs → get_or (held_servers vs) k no_server ≡ get_or vs k no_server
server_held vs k h = get_or-append vs _ no_server k h

-- A table may have no rows at all.
no_rows_good : GoodRows []
no_rows_good = record { few_rows = omega arith; in_range = each_none _; c_within_d = each_none _ }

-- A table may have no servers at all.
no_servers_good : GoodServers []
no_servers_good = record { few_servers = omega arith; each_good = each_none _ }

-- A table may have the timer that takes no tick.
no_timer_good : GoodTimer 0 1
no_timer_good = record { some_p = omega arith; most_p = omega arith; s_below_p = omega arith }

-- ---- tables in range

-- A table may have the timer, the rows and the servers of a content.
record GoodContent (content : Content) : Type 0 where
  good_timer : GoodTimer content.s content.p
  good_rows : GoodRows content.rows
  good_servers : GoodServers content.servers

-- The table of a content with a good timer, good rows and good servers is in range.
good_in_range : (content : Content) → GoodContent content → InRange (table_of content)
good_in_range content good =
    let rs = content.rows in
    let vs = content.servers in
    let rows_good = good.good_rows in
    let servers_good = good.good_servers in
    record {
      good_timer = good.good_timer;
      few_rows = rows_good.few_rows;
      all_places = places_held max_rows no_row rs rows_good.few_rows;
      rows_in_range = λ i h. rw (row_held rs i h) (rows_good.in_range (get_or rs i no_row) (stands_in rs i no_row h));
      c_within_d = λ i h. rw (row_held rs i h) (rows_good.c_within_d (get_or rs i no_row) (stands_in rs i no_row h));
      few_servers = servers_good.few_servers;
      all_servers = places_held max_servers no_server vs servers_good.few_servers;
      good_servers = λ k h. rw (server_held vs k h) (servers_good.each_good (get_or vs k no_server) (stands_in vs k no_server h));
    }

module _ {t : Table} (r : InRange t) where
  -- The number of rows in use is the table's count.
  pub rows_used : length (rows_of t) ≡ t.count
  rows_used = length-take-le t.count t.rows (omega arith)

  -- The number of servers in use is the table's `serving`.
  pub servers_used : length (servers_of t) ≡ t.serving
  servers_used = length-take-le t.serving t.servers (omega arith)

-- ---- whatever is read

-- The table is accepted, or the empty table is answered.
abbrev AcceptedOrEmpty : TableRead → Type 0
AcceptedOrEmpty r = ((h : ℕ) × (r.answer ≡ Ok h)) ⊎ (r.table ≡ empty_table)

-- If two answers are accepted or empty, the one that a test picks is accepted or empty.
either : (test : Bool) (r q : TableRead) → AcceptedOrEmpty r → AcceptedOrEmpty q → AcceptedOrEmpty (cond test r q)
either true r q a b = a
either false r q a b = b

-- The answer after the servers is accepted or empty.
after_servers_lem : (s : List ℕ) (t : TimerAt) (rs : List Row) (v : Servers) → AcceptedOrEmpty (after_servers s t rs v)
after_servers_lem s t rs (servers vs next) =
    either (ltb next (length s)) _ _ (inr refl)
    (either (leb (period_of (content_with t rs vs)) max_period) _ _ (inl (period_of (content_with t rs vs), refl)) (inr refl))
after_servers_lem s t rs (servers.refused at) = inr refl

-- The answer after the rows is accepted or empty.
after_rows_lem : (s : List ℕ) (t : TimerAt) (v : Rows) → AcceptedOrEmpty (after_rows s t v)
after_rows_lem s t (rows rs next) = after_servers_lem s t rs (servers_from s next)
after_rows_lem s t (refused at) = inr refl

-- The answer after the timer is accepted or empty.
after_timer_lem : (s : List ℕ) (v : Result TimerAt RefusedAt) → AcceptedOrEmpty (after_timer s v)
after_timer_lem s (Ok t) = after_rows_lem s t (rows_from s t.next)
after_timer_lem s (Err at) = inr refl

-- Bytes are always read as the table of a content whose timer, rows and servers a table may have.
read_as_content : (s : List ℕ) → Bytes s → (content : Content) × ((table_read s).table ≡ table_of content) × GoodContent content
read_as_content s b = ⊎_elim
    (λ accepted.
    let a = accepted_is_spelled s accepted.0 b accepted.1 in
    let good = a.1.acceptable in
    (a.0, a.1.read_as, record { good_timer = good.good_timer; good_rows = good.good_rows; good_servers = good.good_servers }))
    (λ empty. (rows_alone [], empty, record { good_timer = no_timer_good; good_rows = no_rows_good; good_servers = no_servers_good }))
    (after_timer_lem s (read_timer s))

pub read_in_range : ReadInRange
read_in_range s b = let t = read_as_content s b in rw t.1 (good_in_range t.0 t.2)

pub unused_hold_zeros : UnusedHoldZeros
unused_hold_zeros s b i =
    let t = read_as_content s b in
    rw t.1 (unused_held max_rows no_row t.0.rows i, unused_held max_servers no_server t.0.servers i)

-- Bytes that are refused are read as the empty table.
pub refused_is_empty : (s : List ℕ) (r : RefusedAt) → (table_read s).answer ≡ Err r → (table_read s).table ≡ empty_table
refused_is_empty s r e =
    ⊎_elim (λ accepted. impossible (cc (accepted.1, e))) (λ empty. empty) (after_timer_lem s (read_timer s))
