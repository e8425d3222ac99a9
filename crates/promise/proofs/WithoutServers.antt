-- Tables without servers: the proofs. Where the server count is 0, the sources of a table are its rows, no release is a server's, and the servers' demand is 0.
-- So what was proved with servers is what would be proved without them. (3.6, 5.18)
use Prim.Native.Nat.{ℕ, suc, ◌+◌}
use mathlib.Core.Path.{◌≡◌, refl, sym, ap, ap₂, ◌∙◌}
use mathlib.Core.Bool.{false}
use mathlib.Core.List.{List, [], ◌∷◌, ◌++◌, flatten, map, append-nil}
use native.Mathlib.Omega.{arith}
use lib.Dec.{ltb, leb}
use lib.ListN.{length}
use borrow.Author.Tests.{le-ltb}
use Rattle.kinds.specs.Numbering.{values, refused_with}
use Rattle.kinds.proofs.Apart.{impossible}
use Rattle.numbers.specs.Spelling.{spelling}
use Rattle.numbers.specs.SpelledNumbers.{Bytes}
use Rattle.theory.specs.Jobs.{Job}
use Rattle.theory.specs.Sources.{in_turn}
use Rattle.theory.proofs.Cases.{by_test}
use Rattle.table.specs.declared.Row.{Row}
use Rattle.table.specs.declared.TableRead.{TableRead}
use Rattle.table.specs.Limits.{max_period}
use Rattle.table.specs.Content.{Content, without_servers}
use Rattle.table.specs.Period.{period_of}
use Rattle.table.specs.Timer.{GoodTimer}
use Rattle.table.specs.Tables.{content_of, at_end, table_read}
use Rattle.table.specs.SpelledTables.{GoodRows, spelled_rows, spelled_servers, spelled_table}
use Rattle.table.specs.Answers.{table_says}
use Rattle.table.specs.Refusals.{ContentEnds}
use Rattle.table.proofs.Answers.{said_accepted}
use Rattle.table.proofs.Each.{each_none}
use Rattle.table.proofs.Ranges.{limits_of}
use Rattle.table.proofs.Spelling.{stands_whole, parted, joined}
use Rattle.table.proofs.SpelledTables.{content_of_table, without_servers_are_spelled, content_then}
use Rattle.table.proofs.TableAnswers.{accepted_is_spelled}
use Rattle.table.proofs.Tables.{servers_used}
use Rattle.verdict.specs.declared.Verdict.{Verdict}
use Rattle.verdict.specs.Verdict.{RightFor, Judged}
use Rattle.verdict.specs.RowsAlone.{demand_of_rows_and_timer}
use Rattle.verdict.proofs.RowsAlone.{judged_without_servers}
use Rattle.run.proofs.Release.{each_release, last_by_row}
use Rattle.run.proofs.Ending.{each_end}
use Rattle.run.proofs.WithoutServers.{release_without_servers}
use Rattle.promise.specs.Traces.{Call, run_at}
use Rattle.promise.specs.Sources.{Source, sources_of}
use Rattle.promise.specs.NoOrder.{jobs_named}
use Rattle.promise.specs.WithoutServers.{SaysNoServers, SpelledWithOneByteMore, FeasibleWithoutServers, OverloadedWithoutServers, ReleasesByTheRows}
use Rattle.promise.specs.WithoutServers.{NoLastDueTimeMoves, NamedOfRowsAlone, SpelledSaysNoServers}
use Rattle.promise.proofs.Ticks.{each_tick}
use Rattle.promise.proofs.RunsFollow.{bridge}
use Rattle.promise.proofs.Paper.{feasible_means, overloaded_means}

-- ---- the table

pub spelled_with_one_byte_more : SpelledWithOneByteMore
spelled_with_one_byte_more bytes fine s p rows says =
    (accepted_is_spelled bytes says.period fine says.accepted).spelled ∙ ap spelled_table says.none ∙ without_servers_are_spelled s p rows

-- ---- the verdict

-- A verdict that is right for the bytes is right for the sum of the rows' demands and of the taken ticks.
right_without_servers : {bytes : List ℕ} {s p : ℕ} {rows : List Row} → SaysNoServers bytes s p rows → (v : Verdict) → Judged bytes v
    → RightFor (demand_of_rows_and_timer s p rows) v
right_without_servers {bytes} {s} {p} {rows} says v =
    (judged_without_servers bytes says.period s p rows (said_accepted (table_read bytes).answer says.period says.accepted) says.none v).0

pub feasible_without_servers : FeasibleWithoutServers
feasible_without_servers bytes s p rows says v judged = feasible_means (demand_of_rows_and_timer s p rows) v (right_without_servers says v judged)

pub overloaded_without_servers : OverloadedWithoutServers
overloaded_without_servers bytes s p rows says v judged = overloaded_means (demand_of_rows_and_timer s p rows) v (right_without_servers says v judged)

-- ---- the run

-- After any calls, the run's table has no servers.
none_serve : {bytes : List ℕ} {s p : ℕ} {rows : List Row} → Bytes bytes → SaysNoServers bytes s p rows → (calls : List Call)
    → (run_at bytes calls).table.serving ≡ 0
none_serve {bytes} fine says calls =
    let b = bridge bytes fine calls in
    rw b.same_table (sym (servers_used b.table_in_range) ∙ ap (λ (content : Content). length content.servers) says.none)

pub releases_by_the_rows : ReleasesByTheRows
releases_by_the_rows bytes fine s p rows says calls row cost =
    release_without_servers (run_at bytes calls) row cost (bridge bytes fine calls).whole (none_serve fine says calls)

pub no_last_due_time_moves : NoLastDueTimeMoves
unfolding run_at
no_last_due_time_moves bytes fine s p rows says [] = refl
no_last_due_time_moves bytes fine s p rows says (Call.release row cost ∷ calls) =
    let run = run_at bytes calls in
    each_release run row cost (λ step. step.run.last ≡ run.last) (λ r. refl)
    (λ t passed given. last_by_row run row t (omega (arith, passed.in_use, none_serve fine says calls)))
    ∙ no_last_due_time_moves bytes fine s p rows says calls
no_last_due_time_moves bytes fine s p rows says (Call.tick ∷ calls) =
    let run = run_at bytes calls in
    each_tick run (bridge bytes fine calls).sound (λ step. step.run.last ≡ run.last) (λ late. refl) (λ in_time takes. refl)
    (λ in_time free none. refl) (λ in_time free some. refl)
    ∙ no_last_due_time_moves bytes fine s p rows says calls
no_last_due_time_moves bytes fine s p rows says (Call.end serial ∷ calls) =
    let run = run_at bytes calls in
    each_end run serial (λ step. step.run.last ≡ run.last) (λ unsound. refl) (λ sound nobody. refl) (λ sound at found many. refl)
    (λ sound at found few. refl)
    ∙ no_last_due_time_moves bytes fine s p rows says calls

-- ---- what a length names

-- The jobs of sources that are made of rows, source by source, are those of the rows.
in_turn_of_rows : (jobs : (i first : ℕ) → Source → List Job) (i first : ℕ) (rows : List Row)
    → in_turn jobs i first (map Source.row rows) ≡ in_turn (λ source name r. jobs source name (Source.row r)) i first rows
unfolding in_turn
in_turn_of_rows jobs i first [] = refl
in_turn_of_rows jobs i first (r ∷ rows) =
    ap (λ l. jobs i first (Source.row r) ∷ l) (in_turn_of_rows jobs (suc i) (first + length (jobs i first (Source.row r))) rows)

pub named_of_rows_alone : NamedOfRowsAlone
named_of_rows_alone bytes s p rows says L =
    let t = (table_read bytes).table in
    let only_rows : sources_of t ≡ map Source.row rows =
    ap₂ (λ rs vs. map Source.row rs ++ map Source.server vs) (ap (λ (content : Content). content.rows) says.none)
    (ap (λ (content : Content). content.servers) says.none)
    ∙ append-nil (map Source.row rows) in
    ap (λ sources. flatten (in_turn (jobs_named L) 0 0 sources)) only_rows ∙ ap flatten (in_turn_of_rows (jobs_named L) 0 0 rows)

-- ---- such tables exist

-- In the spelling of a table without servers, whose timer and rows a table may have, the servers end with the bytes.
ends_with_the_bytes : (s p : ℕ) (rows : List Row) → GoodTimer s p → GoodRows rows
    → let bytes = spelled_table (without_servers s p rows) in ContentEnds bytes (length bytes) (without_servers s p rows)
ends_with_the_bytes s p rows good_timer good =
    let bytes = spelled_table (without_servers s p rows) in
    let rest = spelled_rows rows ++ spelled_servers [] in
    let first = parted (spelling s) (spelling p ++ rest) (stands_whole bytes) in
    let second = parted (spelling p) rest first.2 in
    let third = parted (spelled_rows rows) (spelled_servers []) second.2 in
    record {
      from = second.0;
      then = third.0;
      timer = record { good_timer = good_timer; before = joined first.1 second.1 };
      its_rows = record {
        few_rows = good.few_rows;
        rows_acceptable = λ r m. record { within_limits = limits_of r (good.in_range r m); c_within_d = good.c_within_d r m };
        before = third.1;
      };
      its_servers = record { few_servers = omega arith; each_good = each_none _; before = third.2 };
    }

-- What is said of an accepted table is not said of a refused one.
not_accepted_and_refused : (period number place : ℕ) → ¬ (values (period ∷ []) ≡ refused_with number place)
not_accepted_and_refused period number place e = impossible cc

-- Where such a spelling is accepted, the table that is read has its timer and its rows, and no servers.
says_where_accepted : (s p : ℕ) (rows : List Row) (period : ℕ) → GoodTimer s p → GoodRows rows → (bytes : List ℕ)
    → bytes ≡ spelled_table (without_servers s p rows) → table_says (table_read bytes).answer ≡ values (period ∷ []) → SaysNoServers bytes s p rows
says_where_accepted s p rows period good_timer good bytes spelled says =
    let content = without_servers s p rows in
    let ends : ContentEnds bytes (length bytes) content = rw spelled (ends_with_the_bytes s p rows good_timer good) in
    let read : table_read bytes ≡ at_end bytes content (length bytes) = content_then ends in
    let nothing_after : ltb (length bytes) (length bytes) ≡ false = le-ltb (length bytes) (length bytes) (omega arith) in
    record {
      period = period;
      accepted = says;
      none = by_test (leb (period_of content) max_period)
          (λ short. ap (λ (t : TableRead). content_of t.table) read ∙ rw (nothing_after, short) (content_of_table content))
          (λ long.
          let refused : table_says (table_read bytes).answer ≡ refused_with 5 (length bytes) =
          ap (λ (t : TableRead). table_says t.answer) read ∙ rw (nothing_after, long) in
          absurd (not_accepted_and_refused period 5 (length bytes) (sym says ∙ refused)));
    }

pub spelled_says_no_servers : SpelledSaysNoServers
spelled_says_no_servers s p rows period good_timer good says =
    says_where_accepted s p rows period good_timer good _ (sym (without_servers_are_spelled s p rows)) says
