-- The jobs that a length names are the theory's jobs that are all released at zero: the definitions that a release uses give the jobs of rows the same due
-- times, and the odd jobs are the theory's own. So they are as many as 5.10 and 5.17 count, they are due by the rules and within the length, and they cost the
-- demand of the sources. (5.10, 5.17)
use Rattle.std.specs.Prelude.{Ok}
use Prim.Native.Nat.{ℕ, zero, suc, ◌+◌, ◌-◌, ◌≤◌, ◌<◌}
use mathlib.Core.Path.{◌≡◌, refl, sym, ap, ap₂, subst, ◌∙◌}
use mathlib.Core.Logic.{◌≢◌}
use mathlib.Core.List.{List, [], ◌∷◌, ◌++◌, append-nil, flatten}
use native.Mathlib.Omega.{arith}
use native.Mathlib.Nat.{add-zero, zero-add}
use lib.ListN.{length, get_or}
use borrow.Author.Tests.{eq-eqb, ne_eqb}
use Rattle.kinds.specs.Numbering.{max_time}
use Rattle.theory.specs.Lists.{All, total}
use Rattle.theory.specs.Curves.{sum_over}
use Rattle.theory.specs.Jobs.{Job, DistinctNames}
use Rattle.theory.specs.Demand.{row_jobs}
use Rattle.theory.specs.DueTimes.{due_time, releases, dues, all_at_zero}
use Rattle.theory.specs.Servers.{longest_odd, ByServer}
use Rattle.theory.specs.Sources.{own, in_turn, NumberedFrom}
use Rattle.theory.proofs.Cases.{by_eq}
use Rattle.theory.proofs.Lists.{all_imply, All-append, total-flatten}
use Rattle.theory.proofs.DueTimes.{due_by_recurrence_one}
use Rattle.theory.proofs.AllAtZero.{first_are_due_within, first_cost_the_demand, all_at_zero_are_numbered, all_at_zero_by_rule}
use Rattle.theory.proofs.Servers.{server_reaches_its_demand}
use Rattle.theory.proofs.Sources.{own_of_it, own_of_another, numbered_through}
use Rattle.table.specs.declared.Row.{Row}
use Rattle.table.specs.declared.Server.{Server}
use Rattle.table.specs.declared.Table.{Table}
use Rattle.table.specs.Servers.{GoodServer}
use Rattle.table.specs.Tables.{InRange, table_read}
use Rattle.table.specs.SpelledTables.{WithinLimits}
use Rattle.table.proofs.Ranges.{in_range_of}
use Rattle.table.proofs.Tables.{read_in_range}
use Rattle.due.specs.Kept.{due_of}
use Rattle.due.specs.KeptTimes.{KeepsNewest}
use Rattle.due.proofs.NewestKept.{due_given, keeps_on_keeping, due_is_the_papers, starts_empty}
use Rattle.verdict.specs.Demand.{server_demand_of}
use Rattle.verdict.proofs.Rows.{row_within}
use Rattle.run.specs.Runs.{row_at, server_at}
use Rattle.promise.specs.Sources.{Source, sources_of, source_at, source_demand}
use Rattle.promise.specs.NoOrder.{kept_after, first_jobs, odd_jobs, jobs_named, named_jobs}
use Rattle.promise.specs.NamedJobs.{NamedOfRow, NamedOfServer, NamedJobsAreThePapers}
use Rattle.promise.proofs.Sources.{source_of_row, source_of_server, sources_are_numbered, demand_over_sources, GoodSource, sources_good}

-- ---- the jobs of one row

module _ (r : Row) (within : WithinLimits r) (L : ℕ) (not_too_late : L ≤ max_time) where
  -- `of_theory` is the theory's list of the first n jobs of the row.
  abbrev of_theory : (source first n : ℕ) → List Job
  of_theory source first n = all_at_zero r.x r.y r.d r.c source first n

  -- Where the kept due times are the newest of the theory's jobs, a release of the next job gives it the theory's due time.
  same_due : (source first n : ℕ) → KeepsNewest (kept_after r n) r.x (dues (of_theory source first n)) → suc n ≤ row_jobs r.x r.y r.d L
      → due_of (kept_after r n) r 0 r.c ≡ Ok (record { 0 = due_time r.x r.y r.d (dues (of_theory source first n)) 0 })
  unfolding all_at_zero
  same_due source first n keeps named =
      let in_range = in_range_of r within in
      (due_given (kept_after r n) r 0 r.c (record { 0 = due_time r.x r.y r.d (dues (of_theory source first n)) 0 })).1 (record {
        row_is_in_range = in_range;
        by_rule = due_is_the_papers (kept_after r n) r (dues (of_theory source first n)) 0 in_range keeps;
        in_time = omega (arith, (first_are_due_within r.x r.y r.d r.c source first L (suc n) within.some_x within.some_y named).0);
      })

  -- After n releases the kept due times are the newest of the theory's first n jobs.
  keeps_the_first : (source first n : ℕ) → n ≤ row_jobs r.x r.y r.d L → KeepsNewest (kept_after r n) r.x (dues (of_theory source first n))
  unfolding all_at_zero kept_after
  keeps_the_first source first zero named = starts_empty r.x
  keeps_the_first source first (suc n) named =
      let before = keeps_the_first source first n (omega arith) in
      rw (same_due source first n before named) (keeps_on_keeping (kept_after r n) r (dues (of_theory source first n)) _ (in_range_of r within) before)

  -- The first n jobs that a length names are the theory's.
  same_jobs : (source first n : ℕ) → n ≤ row_jobs r.x r.y r.d L → first_jobs source first r n ≡ of_theory source first n
  unfolding all_at_zero first_jobs
  same_jobs source first zero named = refl
  same_jobs source first (suc n) named =
      rw (same_due source first n (keeps_the_first source first n (omega arith)) named) (rw (same_jobs source first n (omega arith)) refl)

-- ---- the jobs of all sources

-- `theirs` lists the theory's jobs of a source that can be released and due in L ticks: of a row as many as its demand counts, and of a server its odd job.
abbrev pub theirs : (L source first : ℕ) → Source → List Job
theirs L source first (Source.row r) = all_at_zero r.x r.y r.d r.c source first (row_jobs r.x r.y r.d L)
theirs L source first (Source.server v) = odd_jobs L source first v

-- The first jobs of a row that a length names are the theory's, and the odd job of a server is the theory's by its definition.
same_of_source : (L : ℕ) → L ≤ max_time → (i first : ℕ) (source : Source) → GoodSource source → jobs_named L i first source ≡ theirs L i first source
same_of_source L h i first (Source.row r) good = same_jobs r good L h i first (row_jobs r.x r.y r.d L) (omega arith)
same_of_source L h i first (Source.server v) good = refl

-- The named jobs and the theory's jobs are the same, source by source.
same_lists : (L : ℕ) → L ≤ max_time → (i first : ℕ) (sources : List Source) → All GoodSource sources
    → in_turn (jobs_named L) i first sources ≡ in_turn (theirs L) i first sources
unfolding in_turn
same_lists L h i first [] all = refl
same_lists L h i first (a ∷ sources) all =
    rw (same_of_source L h i first a all.0)
    (ap (λ l. theirs L i first a ∷ l) (same_lists L h (suc i) (first + length (theirs L i first a)) sources all.1))

-- The jobs of a table that a length names are the theory's.
pub same_named : (t : Table) (L : ℕ) → InRange t → L ≤ max_time → named_jobs t L ≡ flatten (in_turn (theirs L) 0 0 (sources_of t))
same_named t L in_range in_time = ap flatten (same_lists L in_time 0 0 (sources_of t) (sources_good t in_range))

-- ---- the jobs of each source among them all

-- Where all jobs are of source i, the own jobs of i are all of them.
own_all : (i : ℕ) (js : List Job) → All (λ j. j.source ≡ i) js → own i js ≡ js
unfolding own
own_all i [] h = refl
own_all i (j ∷ js) h = own_of_it i j js h.0 ∙ ap (λ l. j ∷ l) (own_all i js h.1)

-- Where no job is of source i, it has no own jobs.
own_none : (i : ℕ) (js : List Job) → All (λ j. j.source ≢ i) js → own i js ≡ []
unfolding own
own_none i [] h = refl
own_none i (j ∷ js) h = own_of_another i j js h.0 ∙ own_none i js h.1

-- The own jobs of two lists, one after the other, are those of the first and then those of the second.
own-append : (i : ℕ) (js ks : List Job) → own i (js ++ ks) ≡ own i js ++ own i ks
unfolding own
own-append i [] ks = refl
own-append i (j ∷ js) ks = by_eq j.source i
    (λ e. own_of_it i j (js ++ ks) e ∙ rw (own_of_it i j js e) (ap (λ l. j ∷ l) (own-append i js ks)))
    (λ e. own_of_another i j (js ++ ks) e ∙ rw (own_of_another i j js e) (own-append i js ks))

module _ {A : Type 0} (jobs : (i first : ℕ) → A → List Job) (its_own : (i first : ℕ) (a : A) → All (λ j. j.source ≡ i) (jobs i first a)) where
  -- The jobs of the sources from i on all belong to one of these sources.
  of_these_sources : (i first : ℕ) (l : List A) → All (λ j. (i ≤ j.source) × (j.source < i + length l)) (flatten (in_turn jobs i first l))
  unfolding in_turn flatten
  of_these_sources i first [] = tt
  of_these_sources i first (a ∷ l) =
      let rest = flatten (in_turn jobs (suc i) (first + length (jobs i first a)) l) in
      All-append (λ j. (i ≤ j.source) × (j.source < i + suc (length l))) (jobs i first a) rest
      (all_imply (λ j e. (omega arith, omega arith)) (jobs i first a) (its_own i first a))
      (all_imply (λ j h. (omega arith, omega arith)) rest (of_these_sources (suc i) (first + length (jobs i first a)) l))

  -- The own jobs of one source among the jobs of all sources are the jobs that this source was given.
  own-in_turn : (other : A) (i first : ℕ) (l : List A) (k : ℕ) → k < length l
      → (from : ℕ) × (own (i + k) (flatten (in_turn jobs i first l)) ≡ jobs (i + k) from (get_or l k other))
  unfolding in_turn flatten
  own-in_turn other i first [] k h = absurd (omega arith)
  own-in_turn other i first (a ∷ l) zero h =
      let next = first + length (jobs i first a) in
      let rest = flatten (in_turn jobs (suc i) next l) in
      let others = own_none i rest (all_imply (λ j m e. omega arith) rest (of_these_sources (suc i) next l)) in
      (first, rw add-zero (own-append i (jobs i first a) rest ∙ rw (own_all i (jobs i first a) (its_own i first a), others, append-nil)))
  own-in_turn other i first (a ∷ l) (suc k) h =
      let next = first + length (jobs i first a) in
      let rest = flatten (in_turn jobs (suc i) next l) in
      let q : i + suc k ≡ suc i + k = omega arith in
      let found = own-in_turn other (suc i) next l k (omega arith) in
      let not_here = own_none (suc i + k) (jobs i first a) (all_imply (λ j e n. omega arith) (jobs i first a) (its_own i first a)) in
      (found.0, rw q (own-append (suc i + k) (jobs i first a) rest ∙ rw not_here found.1))

-- ---- the paper's jobs of a row

module _ (x y d c source first : ℕ) where
  -- The list of the first n jobs has n jobs.
  number_of_jobs : (n : ℕ) → length (all_at_zero x y d c source first n) ≡ n
  unfolding all_at_zero
  number_of_jobs zero = refl
  number_of_jobs (suc n) = omega (arith, number_of_jobs n)

  -- Each of the first jobs is released at zero.
  each_at_zero : (n : ℕ) → All (λ j. j.release ≡ 0) (all_at_zero x y d c source first n)
  unfolding all_at_zero
  each_at_zero zero = tt
  each_at_zero (suc n) = (refl, each_at_zero n)

  -- Each of the first jobs costs c.
  each_costs : (n : ℕ) → All (λ j. j.cost ≡ c) (all_at_zero x y d c source first n)
  unfolding all_at_zero
  each_costs zero = tt
  each_costs (suc n) = (refl, each_costs n)

  -- Each of the first jobs belongs to its row.
  each_of_its_row : (n : ℕ) → All (λ j. j.source ≡ source) (all_at_zero x y d c source first n)
  unfolding all_at_zero
  each_of_its_row zero = tt
  each_of_its_row (suc n) = (refl, each_of_its_row n)

-- Where all jobs are released at zero, each of the releases is zero.
releases_are_zero : (js : List Job) → All (λ j. j.release ≡ 0) js → (k : ℕ) → get_or (releases js) k 0 ≡ 0
releases_are_zero [] h k = refl
releases_are_zero (j ∷ js) h zero = h.0
releases_are_zero (j ∷ js) h (suc k) = releases_are_zero js h.1 k

-- The jobs of a row that a length names are the paper's.
named_of_row : (r : Row) → WithinLimits r → (L source first : ℕ) → NamedOfRow r L (theirs L source first (Source.row r))
named_of_row r within L source first =
    let n = row_jobs r.x r.y r.d L in
    let js = theirs L source first (Source.row r) in
    let zero_all = each_at_zero r.x r.y r.d r.c source first n in
    let due = due_by_recurrence_one r.x r.y r.d r.c js within.some_x (all_at_zero_by_rule r.x r.y r.d r.c source first n) in
    record {
      as_many = number_of_jobs r.x r.y r.d r.c source first n;
      at_zero = zero_all;
      at_full_cost = each_costs r.x r.y r.d r.c source first n;
      by_the_recurrence = record {
        up_to_x = λ j some few up. omega (arith, due.up_to_x j some few up, releases_are_zero js zero_all (length (releases js) - j));
        past_x = λ j past up. omega (arith, due.past_x j past up, releases_are_zero js zero_all (length (releases js) - j));
      };
      due_within = first_are_due_within r.x r.y r.d r.c source first L n within.some_x within.some_y (omega arith);
    }

-- ---- the odd job of a server

module _ (v : Server) (L source first : ℕ) where
  -- Where the server's demand is 0, no odd job is named.
  none_named : server_demand_of v L ≡ 0 → odd_jobs L source first v ≡ []
  none_named none = rw (eq-eqb (server_demand_of v L) 0 none)

  -- Where the server's demand is not 0, the longest odd job is named.
  one_named : server_demand_of v L ≢ 0 → odd_jobs L source first v ≡ longest_odd v.a v.b source first L ∷ []
  one_named some = rw (ne_eqb (server_demand_of v L) 0 some)

  -- What holds for no jobs where the demand is 0, and for the longest odd job, holds for the odd jobs that are named.
  each_odd : (P : List Job → Type 0) → (server_demand_of v L ≡ 0 → P []) → (server_demand_of v L ≢ 0 → P (longest_odd v.a v.b source first L ∷ []))
      → P (odd_jobs L source first v)
  each_odd P none some = by_eq (server_demand_of v L) 0
      (λ q. subst P (sym (none_named q)) (none q))
      (λ q. subst P (sym (one_named q)) (some q))

  -- The odd jobs of a server that a length names are as the rules say.
  named_of_server : GoodServer v → NamedOfServer v L (odd_jobs L source first v)
  unfolding ByServer
  named_of_server good =
      let reached = server_reaches_its_demand v.a v.b source first L good.some_a (omega (arith, good.some_a, good.a_within_b)) in
      each_odd (NamedOfServer v L)
      (λ none. record {
        none_of_zero = λ _. refl;
        one_otherwise = λ some. absurd (omega arith);
        at_zero = tt;
        of_the_demand = tt;
        by_the_rule = tt;
        due_within = tt;
      })
      (λ some. record {
        none_of_zero = λ none. absurd (some none);
        one_otherwise = λ _. refl;
        at_zero = (refl, tt);
        of_the_demand = (refl, tt);
        by_the_rule = reached.0;
        due_within = (reached.1, tt);
      })

  -- Together the odd jobs of a server cost the server's demand.
  odd_cost_the_demand : total (λ j. j.cost) (odd_jobs L source first v) ≡ server_demand_of v L
  unfolding total
  odd_cost_the_demand = each_odd (λ js. total (λ j. j.cost) js ≡ server_demand_of v L) (λ none. sym none) (λ some. add-zero (server_demand_of v L))

  -- The odd jobs of a server are named from the first name on.
  odd_are_numbered : NumberedFrom first (odd_jobs L source first v)
  odd_are_numbered = each_odd (NumberedFrom first)
      (λ none. record { distinct = tt; names = tt })
      (λ some. record { distinct = (tt, tt); names = ((omega arith, omega arith), tt) })

  -- Each odd job of a server belongs to it.
  each_of_its_server : All (λ j. j.source ≡ source) (odd_jobs L source first v)
  each_of_its_server = each_odd (All (λ j. j.source ≡ source)) (λ none. tt) (λ some. (refl, tt))

-- ---- the jobs of one source

module _ (L i first : ℕ) where
  -- The theory's jobs of a source belong to it.
  its_own : (source : Source) → All (λ j. j.source ≡ i) (theirs L i first source)
  its_own (Source.row r) = each_of_its_row r.x r.y r.d r.c i first (row_jobs r.x r.y r.d L)
  its_own (Source.server v) = each_of_its_server v L i first

  -- The theory's jobs of a source are released at zero.
  its_at_zero : (source : Source) → GoodSource source → All (λ j. j.release ≡ 0) (theirs L i first source)
  its_at_zero (Source.row r) good = (named_of_row r good L i first).at_zero
  its_at_zero (Source.server v) good = (named_of_server v L i first good).at_zero

  -- The theory's jobs of a source are due by L.
  its_due : (source : Source) → GoodSource source → All (λ j. j.due ≤ L) (theirs L i first source)
  its_due (Source.row r) good = (named_of_row r good L i first).due_within
  its_due (Source.server v) good = (named_of_server v L i first good).due_within

  -- Together the theory's jobs of a source cost the source's demand.
  its_cost : (source : Source) → total (λ j. j.cost) (theirs L i first source) ≡ source_demand source L
  its_cost (Source.row r) = first_cost_the_demand r.x r.y r.d r.c i first L
  its_cost (Source.server v) = odd_cost_the_demand v L i first

  -- The theory's jobs of a source are named from the first name on.
  its_numbered : (source : Source) → NumberedFrom first (theirs L i first source)
  its_numbered (Source.row r) = all_at_zero_are_numbered r.x r.y r.d r.c i first (row_jobs r.x r.y r.d L)
  its_numbered (Source.server v) = odd_are_numbered v L i first

-- ---- the jobs of all sources together

module _ (L : ℕ) where
  -- What holds for the theory's jobs of each good source holds for the theory's jobs of all of them.
  of_each : (P : Job → Type 0) → ((i first : ℕ) (source : Source) → GoodSource source → All P (theirs L i first source))
      → (i first : ℕ) (sources : List Source) → All GoodSource sources → All (All P) (in_turn (theirs L) i first sources)
  unfolding in_turn
  of_each P its i first [] all = tt
  of_each P its i first (a ∷ sources) all =
      (its i first a all.0, of_each P its (suc i) (first + length (theirs L i first a)) sources all.1)

  -- The theory's jobs are due by L.
  pub all_due : (sources : List Source) → All GoodSource sources → All (All (λ j. j.due ≤ L)) (in_turn (theirs L) 0 0 sources)
  all_due = of_each (λ j. j.due ≤ L) (its_due L) 0 0

  -- The theory's jobs are released at zero.
  pub all_are_at_zero : (sources : List Source) → All GoodSource sources → All (All (λ j. j.release ≡ 0)) (in_turn (theirs L) 0 0 sources)
  all_are_at_zero = of_each (λ j. j.release ≡ 0) (its_at_zero L) 0 0

  -- Together the theory's jobs cost the demand of the sources.
  pub all_cost : (i first : ℕ) (sources : List Source) → total (total (λ j. j.cost)) (in_turn (theirs L) i first sources) ≡ sum_over source_demand sources L
  unfolding in_turn total
  all_cost i first [] = refl
  all_cost i first (a ∷ sources) = ap₂ ◌+◌ (its_cost L i first a) (all_cost (suc i) (first + length (theirs L i first a)) sources)

  -- No two of the theory's jobs have the same name.
  pub all_distinct : (sources : List Source) → DistinctNames (flatten (in_turn (theirs L) 0 0 sources))
  all_distinct sources = (numbered_through Source (theirs L) (its_numbered L) 0 0 sources).distinct

-- ---- the paper's jobs of a table

-- The own jobs of a row number in use are the theory's jobs of its source.
own_of_source : (t : Table) → InRange t → (L row : ℕ) → row < t.count + t.serving
    → (from : ℕ) × (own row (flatten (in_turn (theirs L) 0 0 (sources_of t))) ≡ theirs L row from (source_at t row))
own_of_source t in_range L row in_use =
    let numbered = sources_are_numbered t in_range in
    let found = own-in_turn (theirs L) (its_own L) (source_at t row) 0 0 (sources_of t) row (omega (arith, numbered.0)) in
    (found.0, rw (zero-add, numbered.1 row (source_at t row) in_use) at found.1)

pub named_jobs_are_the_papers : NamedJobsAreThePapers
named_jobs_are_the_papers bytes fine L in_time =
    let t = (table_read bytes).table in
    let in_range = read_in_range bytes fine in
    let lists = in_turn (theirs L) 0 0 (sources_of t) in
    rw (same_named t L in_range in_time) (record {
      of_its_sources = all_imply {Q = λ j. j.source < t.count + t.serving} (λ j h. omega (arith, h.1, (sources_are_numbered t in_range).0)) (flatten lists)
          (of_these_sources (theirs L) (its_own L) 0 0 (sources_of t));
      of_each_row = λ row in_use.
          let its = own_of_source t in_range L row (omega arith) in
          rw (its.1, source_of_row t row in_use) (named_of_row (row_at t row) (row_within in_range row in_use) L row its.0);
      of_each_server = λ row above in_use.
          let its = own_of_source t in_range L row in_use in
          rw (its.1, source_of_server t row above) (named_of_server (server_at t row) L row its.0 (in_range.good_servers (row - t.count) (omega arith)));
      distinct = all_distinct L (sources_of t);
      cost_the_demand = omega (arith, total-flatten (λ j. j.cost) lists, all_cost L 0 0 (sources_of t), demand_over_sources t L);
    })
