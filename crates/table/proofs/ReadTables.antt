-- What is known about rows that were read, and how a table is read from its timer, its rows and its servers. (docs/RULES.md, section 3.)
use Rattle.std.specs.Prelude.{Result, Ok, Err}
use Prim.Native.Nat.{ℕ, zero, suc, ◌≤◌}
use mathlib.Core.Path.{◌≡◌, refl, ap, ◌∙◌}
use mathlib.Core.Logic.{⊎_elim}
use mathlib.Core.Bool.{Bool, true, false, cond}
use mathlib.Core.List.Memᴰ
use mathlib.Core.List.{List, [], ◌∷◌}
use native.Mathlib.Omega.{arith}
use lib.Dec.{leb}
use lib.ListN.{length}
use lib.Seq.{take-append_seam}
use borrow.Author.Tests.{leb-true, le-leb, lt-leb, le-ltb}
use Rattle.kinds.specs.declared.Refusal.{Refusal}
use Rattle.kinds.specs.declared.Refusal.TheVariants.{TooManyRows}
use Rattle.kinds.specs.declared.RefusedAt.{RefusedAt}
use Rattle.kinds.proofs.Apart.{impossible}
use Rattle.periods.specs.Periods.{period_within, period_says, EachPositive}
use Rattle.periods.proofs.Periods.{period_means, refused_above}
use Rattle.numbers.specs.declared.Number.{Number}
use Rattle.numbers.specs.Reading.{read_at}
use Rattle.table.specs.declared.ServersAt.{ServersAt}
use Rattle.table.specs.declared.RowsAt.{RowsAt}
use Rattle.table.specs.declared.Row.{Row}
use Rattle.table.specs.declared.RowAt.{RowAt}
use Rattle.table.specs.declared.Server.{Server}
use Rattle.table.specs.declared.TimerAt.{TimerAt}
use Rattle.table.specs.declared.Table.{Table}
use Rattle.table.specs.Limits.{max_rows, max_servers, max_period}
use Rattle.table.specs.Content.{Content}
use Rattle.table.specs.Period.{ys_of, bs_of, periods_of, least_common_multiple}
use Rattle.table.specs.Rows.{row_in_range, read_row}
use Rattle.table.specs.Timer.{read_timer}
use Rattle.table.specs.Servers.{GoodServer, held_servers, Servers, servers, servers_from, held_servers_as}
use Rattle.table.specs.Servers as servers
use Rattle.table.specs.Tables.{held_rows, Rows, rows, refused, in_front, after_row, read_rows, after_count, rows_from, held_as, table_of, refused_table}
use Rattle.table.specs.Tables.{content_of, content_with, table_read}
use Rattle.table.specs.SpelledTables.{GoodRows}
use Rattle.table.proofs.Each.{Each, each_none, Each-cons, each_mapped}
use Rattle.table.proofs.Ranges.{limits_of}
use Rattle.table.proofs.Reading.{four_values, row_is_in_range, row_not_hopeless}
use Rattle.table.proofs.ReadingServers.{good_servers}

-- ---- rows that were read

-- There are n rows, each is in range, and none has a c above its d.
record ManyInRange (n : ℕ) (rs : List Row) : Type 0 where
  many : length rs ≡ n
  in_range : Each (λ r. row_in_range r ≡ true) rs
  not_hopeless : Each (λ r. r.c ≤ r.d) rs

-- If n + 1 rows are read, the first of them is read.
pub first_row : (n : ℕ) (s : List ℕ) (v : Result RowAt RefusedAt) {rs : List Row} {next : ℕ}
    → after_row v (λ r after. in_front r (read_rows n s after)) ≡ rows rs next
    → (r : RowAt) × (v ≡ Ok r) × (in_front r.row (read_rows n s r.next) ≡ rows rs next)
first_row n s (Ok r) e = (r, refl, e)
first_row n s (Err at) e = impossible cc

-- If rows are read, those after the first are read.
pub other_rows : (r : Row) (v : Rows) {rs : List Row} {next : ℕ} → in_front r v ≡ rows rs next → (qs : List Row) × (v ≡ rows qs next) × (r ∷ qs ≡ rs)
other_rows r (rows qs next) e = (qs, cc, cc)
other_rows r (refused at) e = impossible cc

-- If n rows are read, there are n of them, each in range and none with a c above its d.
many_in_range : (n : ℕ) (s : List ℕ) (at : ℕ) {rs : List Row} {next : ℕ} → read_rows n s at ≡ rows rs next → ManyInRange n rs
unfolding read_rows
many_in_range zero s at {rs} e = let none : [] ≡ rs = cc in rw (← none) (record { many = refl; in_range = each_none _; not_hopeless = each_none _ })
many_in_range (suc n) s at e =
    let f = first_row n s (read_row s at) e in
    let o = other_rows f.0.row (read_rows n s f.0.next) f.2 in
    let more = many_in_range n s f.0.next o.1 in
    let four = four_values s at f.0 f.1 in
    rw (← o.2) (record {
      many = ap suc more.many;
      in_range = Each-cons (row_is_in_range four) more.in_range;
      not_hopeless = Each-cons (row_not_hopeless four) more.not_hopeless;
    })

-- If rows are read, their count was read before them, and it is at most the limit of rows.
pub record CountRead (s : List ℕ) (v : Result Number RefusedAt) (rs : List Row) (next : ℕ) : Type 0 where
  pub count : Number
  pub was_read : v ≡ Ok count
  pub few_rows : count.value ≤ max_rows
  pub then : read_rows count.value s count.next ≡ rows rs next

pub count_read : (s : List ℕ) (at : ℕ) (v : Result Number RefusedAt) {rs : List Row} {next : ℕ} → after_count s at v ≡ rows rs next → CountRead s v rs next
count_read s at (Ok n) {rs} {next} e = by_test (leb n.value max_rows) refl e
  where
    by_test : (b : Bool) → leb n.value max_rows ≡ b → cond b (read_rows n.value s n.next) (refused (record { refusal = TooManyRows; place = at })) ≡ rows rs next
        → CountRead s (Ok n) rs next
    by_test true t f = record { count = n; was_read = refl; few_rows = leb-true n.value max_rows t; then = f }
    by_test false t f = impossible cc
count_read s at (Err r) e = impossible cc

-- Rows that are read after their count are rows that a table may have.
pub good_rows : (s : List ℕ) (at : ℕ) {rs : List Row} {next : ℕ} → rows_from s at ≡ rows rs next → GoodRows rs
good_rows s at e =
    let c = count_read s at (read_at s at) e in
    let m = many_in_range c.count.value s c.count.next c.then in
    record { few_rows = omega (arith, m.many, c.few_rows); in_range = m.in_range; c_within_d = m.not_hopeless }

-- ---- a table

-- If `read_rows` answers rows, these were read, up to the place behind them.
held_read : (v : Rows) (read : RowsAt) → held_as v ≡ Ok read
    → (rs : List Row) × (v ≡ rows rs read.next) × (read.rows ≡ held_rows rs) × (read.count ≡ length rs)
held_read (rows rs at) read is = (rs, cc, cc, cc)
held_read (refused r) read is = impossible cc

-- If `read_servers` answers servers, these were read, up to the place behind them.
served_read : (v : Servers) (read : ServersAt) → held_servers_as v ≡ Ok read
    → (vs : List Server) × (v ≡ servers vs read.next) × (read.servers ≡ held_servers vs) × (read.serving ≡ length vs)
served_read (servers vs at) read is = (vs, cc, cc, cc)
served_read (servers.refused r) read is = impossible cc

-- Each y of rows in range is at least 1.
pub some_ys : (rs : List Row) → Each (λ r. row_in_range r ≡ true) rs → EachPositive (ys_of rs)
some_ys rs h = each_mapped _ (λ (r : Row). r.y) rs (λ r m. (limits_of r (h r m)).some_y)

-- Each b of servers that a table may have is at least 1.
pub some_bs : (vs : List Server) → Each GoodServer vs → EachPositive (bs_of vs)
some_bs vs h = each_mapped _ (λ (v : Server). v.b) vs (λ v m. omega (arith, (h v m).some_a, (h v m).a_within_b))

-- Each number from which H is made is at least 1, where p is, the rows are in range and a table may have the servers.
pub some_periods : (content : Content) → 1 ≤ content.p → Each (λ r. row_in_range r ≡ true) content.rows → Each GoodServer content.servers
    → EachPositive (periods_of content)
some_periods content some in_range good =
    let ys = ys_of content.rows in
    Each-cons some (λ n m. ⊎_elim (some_ys content.rows in_range n) (some_bs content.servers good n) (Memᴰ.append_cases ys m))

module _ (s : List ℕ) (t : TimerAt) (timed : Ok t ≡ read_timer s) where
  module _ (rs : List Row) (after : ℕ) (read : rows_from s t.next ≡ rows rs after) (vs : List Server) (next : ℕ) (served : servers_from s after ≡ servers vs next)
      (rest : length s ≤ next) where
    -- With no extra bytes and an H within its limit, the table of the timer, the rows and the servers is accepted.
    accepted_of : (h : ℕ) → period_within max_period (periods_of (content_with t rs vs)) ≡ Ok h
        → record { table = table_of (content_with t rs vs); answer = Ok h } ≡ table_read s
    accepted_of h e =
        let ps = periods_of (content_with t rs vs) in
        let means = (period_means max_period ps h).0 (ap period_says e) in
        let within : least_common_multiple ps ≤ max_period = omega (arith, means.1, means.2) in
        rw (← timed, read, served, le-ltb next (length s) rest, le-leb (least_common_multiple ps) max_period within, means.1)

    -- With no extra bytes and an H above its limit, the table is refused.
    too_long_of : 1 ≤ t.p → (r : Refusal) → period_within max_period (periods_of (content_with t rs vs)) ≡ Err r
        → refused_table (record { refusal = r; place = length s }) ≡ table_read s
    too_long_of some r e =
        let ps = periods_of (content_with t rs vs) in
        let positive = some_periods (content_with t rs vs) some (good_rows s t.next read).in_range (good_servers s after served).each_good in
        let above = refused_above max_period ps positive r e in
        rw (← timed, read, served, le-ltb next (length s) rest, above.0, lt-leb (least_common_multiple ps) max_period above.1)

  module _ (read : RowsAt) (is : held_as (rows_from s t.next) ≡ Ok read) where
    -- No more rows are in use than a table may have.
    pub count_fits : read.count ≤ max_rows
    count_fits = let v = held_read (rows_from s t.next) read is in omega (arith, v.3, (good_rows s t.next v.1).few_rows)

    module _ (served : ServersAt) (serves : held_servers_as (servers_from s read.next) ≡ Ok served) where
      -- No more servers are in use than a table may have.
      pub serving_fits : served.serving ≤ max_servers
      serving_fits = let w = served_read (servers_from s read.next) served serves in omega (arith, w.3, (good_servers s read.next w.1).few_servers)

      -- The code makes this table of what it read.
      abbrev made : Table
      made = record { s = t.s; p = t.p; rows = read.rows; count = read.count; servers = served.servers; serving = served.serving }

      -- The table that is made holds exactly the rows and servers that were read.
      holds : (rs : List Row) → read.rows ≡ held_rows rs → read.count ≡ length rs
          → (vs : List Server) → served.servers ≡ held_servers vs → served.serving ≡ length vs → made ≡ table_of (content_with t rs vs)
      holds rs held many vs serves_them so_many = rw (held, many, serves_them, so_many)

      -- Its content is what was read.
      content_read : (rs : List Row) (vs : List Server) → content_of (table_of (content_with t rs vs)) ≡ content_with t rs vs
      content_read rs vs = rw (take-append_seam rs, take-append_seam vs)

      module _ (rest : length s ≤ served.next) {ps : List ℕ} (column : ps ≡ periods_of (content_of made)) where
        -- If its H is within the limit, the table is accepted.
        pub accepted : (h : ℕ) → period_within max_period ps ≡ Ok h → record { table = made; answer = Ok h } ≡ table_read s
        accepted h e =
            let v = held_read (rows_from s t.next) read is in
            let w = served_read (servers_from s read.next) served serves in
            let same = holds v.0 v.2 v.3 w.0 w.2 w.3 in
            let joined : ps ≡ periods_of (content_with t v.0 w.0) = column ∙ ap periods_of (ap content_of same ∙ content_read v.0 w.0) in
            ap (λ held. record { table = held; answer = Ok h }) same ∙ accepted_of v.0 read.next v.1 w.0 served.next w.1 rest h (rw joined at e)

        -- If its H is above the limit, the table is refused.
        pub period_too_long : 1 ≤ t.p → (r : Refusal) → period_within max_period ps ≡ Err r
            → refused_table (record { refusal = r; place = length s }) ≡ table_read s
        period_too_long some r e =
            let v = held_read (rows_from s t.next) read is in
            let w = served_read (servers_from s read.next) served serves in
            let same = holds v.0 v.2 v.3 w.0 w.2 w.3 in
            let joined : ps ≡ periods_of (content_with t v.0 w.0) = column ∙ ap periods_of (ap content_of same ∙ content_read v.0 w.0) in
            too_long_of v.0 read.next v.1 w.0 served.next w.1 rest some r (rw joined at e)
