-- The examples hold. A table's verdict is settled by a look at finitely many lengths, which is made by computing. The theory's bound says that these lengths
-- are enough. Of S3 and S5, whose periods are long, the demand is worked out for every length instead.
use Rattle.std.specs.Prelude.{Result, Ok}
use Rattle.kinds.specs.declared.RefusedAt.{RefusedAt}
use Prim.Native.Nat.{ℕ, zero, suc, ◌+◌, ◌*◌, ◌≤◌, ◌<◌}
use mathlib.Core.Path.{◌≡◌, refl, sym, ap, subst, ◌∙◌}
use mathlib.Core.Bool.{Bool, true, ◌&&◌}
use mathlib.Core.List.{List, [], ◌∷◌, flatten}
use native.Mathlib.Omega.{arith}
use native.Mathlib.Nat.{div-eq_of_lt, mul-div_right}
use lib.Dec.{leb, ltb}
use borrow.Author.Tests.{leb-true, ltb-true}
use Rattle.kinds.specs.Numbering.{max_time}
use Rattle.numbers.specs.SpelledNumbers.{Bytes}
use Rattle.numbers.specs.Reading as reading
use Rattle.numbers.specs.Spelling as spelling
use Rattle.theory.specs.Lists.{total}
use Rattle.theory.specs.Curves.{EveryLengthFits, FitsUpTo}
use Rattle.theory.specs.Demand.{row_jobs, row_demand, row_growth}
use Rattle.theory.specs.DueTimes.{due_time}
use Rattle.theory.specs.Servers.{ticks_for, server_due, server_demand}
use Rattle.theory.proofs.Cases.{by_lt}
use Rattle.theory.proofs.Curves.{settled_within_a_period}
use Rattle.table.specs.declared.Row.{Row}
use Rattle.table.specs.declared.Table.{Table}
use Rattle.table.specs.Limits.{max_x, max_y, max_d, max_c}
use Rattle.table.specs.Rows.{from_one_to, row_in_range}
use Rattle.table.proofs.Ranges.{both_true, in_range_of}
use Rattle.table.specs.Tables.{table_read, read_rows}
use Rattle.table.specs.Servers as servers
use Rattle.table.specs.Period.{first_multiple, least_common_multiple}
use Rattle.due.specs.declared.Kept.{Kept}
use Rattle.due.specs.Kept.{nothing_kept, due_of, kept_with}
use Rattle.due.specs.OddJobs.{odd_due_of}
use Rattle.due.specs.KeptTimes.{KeepsNewest}
use Rattle.due.proofs.NewestKept.{due_given, keeps_on_keeping, due_is_the_papers, starts_empty}
use Rattle.verdict.specs.declared.Verdict.{Verdict}
use Rattle.verdict.specs.declared.Verdict.TheVariants as verdict
use Rattle.verdict.specs.Demand.{table_demand, table_growth, largest_d, largest_of}
use Rattle.verdict.specs.Verdict.{RightOf, RightOfRead, Judged, verdict_says}
use Rattle.verdict.proofs.Accepted.{accepted_is_known}
use Rattle.verdict.proofs.Verdicts.{verdicts_said_apart}
use Rattle.promise.specs.Examples.{due_times_from, RightVerdictSays, feasible, overloaded, ExamplesHold}
use Rattle.promise.specs.Examples.{v1, v2, v3, v4, v5, v6, v7, v8, t1, t2, t3, t4, t5, t6, t7}
use Rattle.promise.specs.Examples.{s2, s3, s4, s5, s6, s7, s8}

-- ---- looks that can be made by computing

-- `all_bytes` tests that every element of a list is a byte.
abbrev all_bytes : List ℕ → Bool
all_bytes [] = true
all_bytes (b ∷ s) = ltb b 256 && all_bytes s

-- A list that passes this test is a list of bytes.
pub are_bytes : (s : List ℕ) → all_bytes s ≡ true → Bytes s
are_bytes [] h i = omega arith
are_bytes (b ∷ s) h zero = ltb-true b 256 (both_true (ltb b 256) (all_bytes s) h).0
are_bytes (b ∷ s) h (suc i) = are_bytes s (both_true (ltb b 256) (all_bytes s) h).1 i

-- `looks` tests that every length from 1 to n fits.
abbrev looks : (ℕ → ℕ) → (n : ℕ) → Bool
looks f zero = true
looks f (suc n) = leb (f (suc n)) (suc n) && looks f n

-- Where this test passes, every length from 1 to n fits.
looked : (f : ℕ → ℕ) (n : ℕ) → looks f n ≡ true → FitsUpTo f n
looked f zero h L some most = absurd (omega arith)
looked f (suc n) h L some most =
    let both = both_true (leb (f (suc n)) (suc n)) (looks f n) h in
    by_lt L (suc n) (λ below. looked f n both.1 L some (omega arith))
    (λ above. let last : L ≡ suc n = omega arith in rw last (leb-true (f (suc n)) (suc n) both.0))

-- ---- verdicts by a look

-- A verdict that is right for an accepted table is right for the bytes.
accepted_right : (t : Table) (a : Result ℕ RefusedAt) (period : ℕ) (v : Verdict) → a ≡ Ok period → RightOf t v → RightOfRead t a v
accepted_right t a period v accepted right = rw accepted right

module _ (s : List ℕ) (period : ℕ) (accepted : (table_read s).answer ≡ Ok period) where
  -- A table is feasible where every length fits.
  feasible_where_all_fit : EveryLengthFits (table_demand (table_read s).table) → RightVerdictSays s feasible
  feasible_where_all_fit fits =
      (verdict.Feasible, accepted_right (table_read s).table (table_read s).answer period verdict.Feasible accepted fits, refl)

  -- A table is overloaded where all shorter lengths fit and this one does not.
  overloaded_where_it_fails : (shorter units : ℕ) → FitsUpTo (table_demand (table_read s).table) shorter → table_demand (table_read s).table (suc shorter) ≡ units
      → suc shorter < units → RightVerdictSays s (overloaded (suc shorter) units)
  overloaded_where_it_fails shorter units fits asks more = (
    verdict.Overloaded (record { length = suc shorter; demand = units }),
    accepted_right (table_read s).table (table_read s).answer period _ accepted
        (record { some_length = omega arith; fails = rw asks more; smaller_fit = λ M some below. fits M some (omega arith) }, sym asks),
    refl,
  )

module _ (s : List ℕ) (period : ℕ) (bytes : all_bytes s ≡ true) (accepted : (table_read s).answer ≡ Ok period) where
  -- A table is feasible where its demand grows by at most the period in a period, and every length up to period + largest d fits.
  pub feasible_by_look : leb (table_growth (table_read s).table period) period ≡ true
      → looks (table_demand (table_read s).table) (period + largest_d (table_read s).table) ≡ true → RightVerdictSays s feasible
  feasible_by_look within fits =
      let known = accepted_is_known s period (are_bytes s bytes) accepted in
      feasible_where_all_fit s period accepted
      (settled_within_a_period (table_demand (table_read s).table) (largest_d (table_read s).table) period (table_growth (table_read s).table period)
      known.curve known.some_period (leb-true (table_growth (table_read s).table period) period within) (looked _ _ fits))

  -- A table is overloaded where a look at all shorter lengths finds that they fit, and this one does not.
  overloaded_by_look : (shorter units : ℕ) → looks (table_demand (table_read s).table) shorter ≡ true → table_demand (table_read s).table (suc shorter) ≡ units
      → ltb (suc shorter) units ≡ true → RightVerdictSays s (overloaded (suc shorter) units)
  overloaded_by_look shorter units fits asks more =
      overloaded_where_it_fails s period accepted shorter units (looked _ shorter fits) asks (ltb-true (suc shorter) units more)

-- ---- due times by the paper's rule

-- `ruled` lists the due times of releases by the rule, over the whole history of the due times before, which is listed newest first.
abbrev ruled : (x y d : ℕ) (history : List ℕ) (releases : List ℕ) → List ℕ
ruled x y d history [] = []
ruled x y d history (t ∷ ts) = due_time x y d history t ∷ ruled x y d (due_time x y d history t ∷ history) ts

-- `none_late` tests that no time of a list is above 2^40.
abbrev none_late : List ℕ → Bool
none_late [] = true
none_late (t ∷ ts) = leb t max_time && none_late ts

-- The definitions that a release uses give the due times of the rule.
by_the_rule : (r : Row) → row_in_range r ≡ true → (k : Kept) (history ts : List ℕ) → KeepsNewest k r.x history
    → none_late (ruled r.x r.y r.d history ts) ≡ true → due_times_from k r ts ≡ ruled r.x r.y r.d history ts
by_the_rule r in_range k history [] keeps fits = refl
by_the_rule r in_range k history (t ∷ ts) keeps fits =
    let D : ℕ = due_time r.x r.y r.d history t in
    let both = both_true (leb D max_time) (none_late (ruled r.x r.y r.d (D ∷ history) ts)) fits in
    let given : due_of k r t r.c ≡ Ok (record { 0 = D }) = (due_given k r t r.c (record { 0 = D })).1 (record {
      row_is_in_range = in_range;
      by_rule = due_is_the_papers k r history t in_range keeps;
      in_time = leb-true D max_time both.0;
    }) in
    let keeps_on = keeps_on_keeping k r history (record { 0 = D }) in_range keeps in
    rw given (ap (λ l. D ∷ l) (by_the_rule r in_range (kept_with k r (record { 0 = D })) (D ∷ history) ts keeps_on both.1))

-- A value in range is at least 1.
some_of : (most n : ℕ) → from_one_to most n ≡ true → 1 ≤ n
some_of most n h = leb-true 1 n (both_true (leb 1 n) (leb n most) h).0

-- A value in range is at most the most.
most_of : (most n : ℕ) → from_one_to most n ≡ true → n ≤ most
most_of most n h = leb-true n most (both_true (leb 1 n) (leb n most) h).1

-- The due times of an example hold for every cost in range.
module _ (x y d : ℕ) (releases times : List ℕ) (xs : from_one_to max_x x ≡ true) (ys : from_one_to max_y y ≡ true) (ds : from_one_to max_d d ≡ true) where
  due_by_rule : ruled x y d [] releases ≡ times → none_late times ≡ true → (c : ℕ) → 1 ≤ c → c ≤ max_c
      → due_times_from nothing_kept (record { x = x; y = y; d = d; c = c }) releases ≡ times
  due_by_rule same fits c some most =
      let r : Row = record { x = x; y = y; d = d; c = c } in
      by_the_rule r (in_range_of r (record {
        some_x = some_of max_x x xs;
        most_x = most_of max_x x xs;
        some_y = some_of max_y y ys;
        most_y = most_of max_y y ys;
        some_d = some_of max_d d ds;
        most_d = most_of max_d d ds;
        some_c = some;
        most_c = most;
      })) nothing_kept [] releases (starts_empty x) (rw same fits) ∙ same

-- ---- verdicts with long periods

-- In every length L, S3 asks for 4096 · L / 4096 units, which is L.
s3_asks : (L : ℕ) → table_demand (table_read s3).table L ≡ L
unfolding table_demand total server_demand read_rows servers.read_servers least_common_multiple first_multiple reading.spelt spelling.groups_of flatten
s3_asks L = omega (arith, mul-div_right L {m = 4096} (omega arith))

-- Every length of S3 fits: it asks for as much as its length.
s3_is_full : RightVerdictSays s3 feasible
unfolding read_rows servers.read_servers least_common_multiple first_multiple reading.spelt spelling.groups_of flatten
s3_is_full = feasible_where_all_fit s3 4096 refl (λ L some. omega (arith, s3_asks L))

-- In a length L below 4,096, the second server of S5 asks for nothing, and the first for L.
s5_asks : (L : ℕ) → L < 4096 → table_demand (table_read s5).table L ≡ L
unfolding table_demand total server_demand read_rows servers.read_servers least_common_multiple first_multiple reading.spelt
s5_asks L below = omega (arith, mul-div_right L {m = 1} (omega arith), div-eq_of_lt {n = 1 * L} {m = 4096} (omega arith))

-- The first length that fails in S5 is 4,096, in which the second server asks for its first unit.
s5_is_overloaded : RightVerdictSays s5 (overloaded 4096 4097)
unfolding table_demand total server_demand read_rows servers.read_servers least_common_multiple first_multiple reading.spelt
s5_is_overloaded = overloaded_where_it_fails s5 4096 refl 4095 4097 (λ L some most. omega (arith, s5_asks L (omega arith))) refl (omega arith)

-- `then` puts the proof of one example before those of the rest.
then : {P Q : Type 0} → P → Q → P × Q
then p q = (p, q)

pub examples_hold : ExamplesHold
unfolding
    table_demand table_growth largest_of total row_demand row_jobs row_growth server_demand read_rows servers.read_servers least_common_multiple first_multiple
    reading.spelt spelling.groups_of flatten due_time odd_due_of server_due ticks_for
examples_hold =
    then (feasible_by_look v1 1 refl refl refl refl)
    (then (feasible_by_look v2 2 refl refl refl refl)
    (then (feasible_by_look v3 12 refl refl refl refl)
    (then refl
    (then (overloaded_by_look v4 12 refl refl 10 12 refl refl refl)
    (then (feasible_by_look v5 6 refl refl refl refl)
    (then (overloaded_by_look v6 6 refl refl 4 6 refl refl refl)
    (then (overloaded_by_look v7 1 refl refl 0 2 refl refl refl)
    (then (overloaded_by_look v8 2 refl refl 25 27 refl refl refl)
    (then (feasible_by_look t1 4 refl refl refl refl)
    (then (feasible_by_look t2 4 refl refl refl refl)
    (then refl
    (then (feasible_by_look t3 12 refl refl refl refl)
    (then refl
    (then (overloaded_by_look t4 12 refl refl 11 13 refl refl refl)
    (then (overloaded_by_look t5 4 refl refl 2 4 refl refl refl)
    (then (overloaded_by_look t6 10 refl refl 6 8 refl refl refl)
    (then (overloaded_by_look t7 2 refl refl 17 19 refl refl refl)
    (then (due_by_rule 1 2 6 (0 ∷ 0 ∷ 0 ∷ 3 ∷ 3 ∷ 6 ∷ []) _ refl refl refl refl refl)
    (then (due_by_rule 3 6 6 (0 ∷ 0 ∷ 0 ∷ 3 ∷ 3 ∷ 6 ∷ []) _ refl refl refl refl refl)
    (then (due_by_rule 1 2 6 (0 ∷ 20 ∷ []) _ refl refl refl refl refl)
    (then refl
    (then (feasible_by_look s2 4 refl refl refl refl)
    (then s3_is_full
    (then (overloaded_by_look s4 12 refl refl 11 13 refl refl refl)
    (then s5_is_overloaded
    (then (feasible_by_look s6 4 refl refl refl refl)
    (then (overloaded_by_look s7 20 refl refl 4 6 refl refl refl)
    (then (overloaded_by_look s8 12 refl refl 35 37 refl refl refl)
    tt))))))))))))))))))))))))))))

-- A right verdict that says the same as w is w.
pub judged_so : (bytes : List ℕ) (w : Verdict) → RightVerdictSays bytes (verdict_says w) → Judged bytes w
judged_so bytes w says = subst (Judged bytes) (verdicts_said_apart says.0 w says.2) says.1

-- These are the verdicts of V1, V3, V4, V8, T6 and S4 by themselves.
pub v1_is_feasible : Judged v1 verdict.Feasible
v1_is_feasible = judged_so v1 verdict.Feasible examples_hold.0

pub v3_is_feasible : Judged v3 verdict.Feasible
v3_is_feasible = judged_so v3 verdict.Feasible examples_hold.1.1.0

pub v4_is_overloaded : Judged v4 (verdict.Overloaded (record { length = 11; demand = 12 }))
v4_is_overloaded = judged_so v4 (verdict.Overloaded (record { length = 11; demand = 12 })) examples_hold.1.1.1.1.0

pub v8_is_overloaded : Judged v8 (verdict.Overloaded (record { length = 26; demand = 27 }))
v8_is_overloaded = judged_so v8 (verdict.Overloaded (record { length = 26; demand = 27 })) examples_hold.1.1.1.1.1.1.1.1.0

pub t6_is_overloaded : Judged t6 (verdict.Overloaded (record { length = 7; demand = 8 }))
t6_is_overloaded =
    judged_so t6 (verdict.Overloaded (record { length = 7; demand = 8 })) examples_hold.1.1.1.1.1.1.1.1.1.1.1.1.1.1.1.1.0

pub s4_is_overloaded : Judged s4 (verdict.Overloaded (record { length = 12; demand = 13 }))
s4_is_overloaded =
    judged_so s4 (verdict.Overloaded (record { length = 12; demand = 13 }))
    examples_hold.1.1.1.1.1.1.1.1.1.1.1.1.1.1.1.1.1.1.1.1.1.1.1.1.0
