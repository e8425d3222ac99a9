-- What one record of a script does to a play: the first test that the record does not pass stops it, or the record's job is accepted. (docs/RULES.md, sections
-- 8.2 and 8.5.)
use Rattle.std.specs.Prelude.{Result, Ok, Err}
use Rattle.run.specs.declared.Accepted.{Accepted}
use Prim.Native.Nat.{ℕ, ◌+◌, ◌-◌}
use mathlib.Core.Path.{◌≡◌, refl, sym, ap, ap₂, subst, ◌∙◌}
use mathlib.Core.List.{List}
use native.Mathlib.Omega.{arith}
use lib.ListN.{length, length-append, length-map, length-replicate}
use Rattle.kinds.specs.Numbering.{refusal_number}
use Rattle.kinds.specs.declared.Refusal.{Refusal}
use Rattle.kinds.specs.declared.Refusal.TheVariants.{ScriptMisspelled}
use Rattle.kinds.specs.declared.RefusedAt.{RefusedAt}
use Rattle.kinds.proofs.Apart.{impossible}
use Rattle.kinds.proofs.Numbering.{numbers_differ}
use Rattle.numbers.specs.declared.Number.{Number}
use Rattle.numbers.specs.Reading.{read_at, misspelled_at}
use Rattle.numbers.specs.Answers.{number_says}
use Rattle.numbers.proofs.Answers.{numbers_said_apart}
use Rattle.table.specs.declared.Table.{Table}
use Rattle.table.specs.Tables.{rows_of}
use Rattle.table.specs.Limits.{max_c}
use Rattle.table.specs.Costs.{cs_of, cost_limits}
use Rattle.run.specs.Release.{released}
use Rattle.run.specs.ManyTicks.{ticks}
use Rattle.run.specs.Answers.{refused, release_says}
use Rattle.run.proofs.Answers.{runs_said_apart}
use Rattle.script.specs.Records.{script_number}
use Rattle.script.proofs.Records.{number_stands, number_misspelled, number_refused_there, number_read}
use Rattle.records.specs.declared.Numbers.{Numbers}
use Rattle.records.specs.declared.Ready.{Ready}
use Rattle.records.specs.Numbers.{numbers_at, tested_numbers}
use Rattle.records.specs.PassedTests.{GapFits, RowFits, Passed, NumbersRefused}
use Rattle.records.specs.PassedTests.{NumbersRefused}
use Rattle.records.proofs.Tests.{TestedSo, tests_mean, passed_ready, refused_so}
use Rattle.play.specs.Play.{Progress, Step, goes_on, stops, after_release, after_tests, stepped}
use Rattle.play.specs.StoppingLaws.{RecordGoesOn, RecordStops}
use Rattle.play.specs.Refusals.{sources_in_use, GapPassed, RowPassed, CostPassed, Unreadable, RecordRefused, RecordTaken}
use Rattle.play.specs.Refusals.{no_gap, too_late, no_row_number, no_such_row, no_cost, cost_out_of_range, release_refused}

-- ---- the row numbers of a table by their limits

-- There is one limit for each row number in use.
pub limits_in_use : (t : Table) → length (cost_limits t) ≡ sources_in_use t
limits_in_use t = length-append (cs_of (rows_of t)) _ ∙ ap₂ ◌+◌ (length-map (rows_of t) _) (length-replicate t.serving max_c)

-- ---- numbers of a script

-- A number of a script that was refused can't be read, and is refused with 14 where the number reader refuses it.
unread : (s : List ℕ) (at : ℕ) (r : RefusedAt) → script_number s at ≡ Err r → Unreadable s at r.place × (r.refusal ≡ ScriptMisspelled)
unread s at r e = let w = number_refused_there s at e in (ap number_says w.1, w.0)

-- A number that can't be read is refused with 14, where the number reader refuses it.
unread_stands : (s : List ℕ) (at place : ℕ) → Unreadable s at place → script_number s at ≡ Err (record { refusal = ScriptMisspelled; place = place })
unread_stands s at place e = number_misspelled s at (numbers_said_apart.0 (read_at s at) (misspelled_at place) e)

-- Where a release says a refusal's number, it was refused with that refusal.
pub said_refused : (a : Result Accepted Refusal) {n : ℕ} → release_says a ≡ refused n 0 → (r : Refusal) × (a ≡ Err r) × (refusal_number r ≡ n)
said_refused (Ok a) e = impossible cc
said_refused (Err r) e = (r, refl, cc)

-- A refusal is settled by its number and its place.
pub same_refusal : (r q : RefusedAt) → refusal_number r.refusal ≡ refusal_number q.refusal → r.place ≡ q.place → r ≡ q
same_refusal r q e f = ap₂ (λ kind place. record { refusal = kind; place = place }) (numbers_differ r.refusal q.refusal e) f

module _ (s : List ℕ) (at : ℕ) (p : Progress) where
  -- `its` are the record's numbers, `time` is the time reached, and `limits` has the most that a job of each row number may cost.
  abbrev its : Numbers
  its = numbers_at s at

  abbrev time : ℕ
  time = p.so_far.run.clock.0

  abbrev table : Table
  table = p.so_far.run.table

  abbrev limits : List ℕ
  limits = cost_limits table

  -- The row number is looked for right after the gap, and the cost right after the row number.
  row_there : {gap : Number} → script_number s at ≡ Ok gap → (its.row.place ≡ gap.next) × (its.row.read ≡ script_number s gap.next)
  row_there g = rw g (refl, refl)

  cost_there : {gap row : Number} → script_number s at ≡ Ok gap → script_number s gap.next ≡ Ok row
      → (its.cost.place ≡ row.next) × (its.cost.read ≡ script_number s row.next)
  cost_there g r = rw (g, r) (refl, refl)

  -- ---- what the tests of the numbers say is what they say of the script

  gap_passed : {gap : Number} → GapFits time its gap → GapPassed s at p gap
  gap_passed {gap} f = record { read = number_read s at gap f.gap_read; in_time = f.in_time }

  gap_fits : {gap : Number} → GapPassed s at p gap → GapFits time its gap
  gap_fits g = record { gap_read = number_stands s at g.read; in_time = g.in_time }

  -- The row number that the tests were given is the script's number right after the gap.
  row_read : {gap row : Number} → script_number s at ≡ Ok gap → its.row.read ≡ Ok row → script_number s gap.next ≡ Ok row
  row_read g e = sym (row_there g).1 ∙ e

  row_passed : {gap row : Number} → RowFits limits time its gap row → RowPassed s at p gap row
  row_passed {gap} {row} f = record {
    gap_passed = gap_passed f.gap_fits;
    read = number_read s gap.next row (row_read f.gap_fits.gap_read f.row_read);
    in_use = omega (arith, f.in_use, limits_in_use table);
  }

  row_fits : {gap row : Number} → RowPassed s at p gap row → RowFits limits time its gap row
  row_fits {gap} q =
      let g = gap_fits q.gap_passed in
      record {
        gap_fits = g;
        row_read = (row_there g.gap_read).1 ∙ number_stands s gap.next q.read;
        in_use = omega (arith, q.in_use, limits_in_use table);
      }

  -- The cost that the tests were given is the script's number right after the row number.
  cost_read : {gap row cost : Number} → RowFits limits time its gap row → its.cost.read ≡ Ok cost → script_number s row.next ≡ Ok cost
  cost_read f e =
      let g = f.gap_fits.gap_read in
      sym (cost_there g (row_read g f.row_read)).1 ∙ e

  cost_stands : {gap row cost : Number} → RowFits limits time its gap row → read_at s row.next ≡ Ok cost → its.cost.read ≡ Ok cost
  cost_stands {row = row} f e =
      let g = f.gap_fits.gap_read in
      (cost_there g (row_read g f.row_read)).1 ∙ number_stands s row.next e

  cost_passed : {r : Ready} (w : Passed limits time its r) → CostPassed s at p w.gap w.row w.cost
  cost_passed w =
      let q = row_passed w.row_fits in
      record {
        row_passed = q;
        read = number_read s w.row.next w.cost (cost_read w.row_fits w.cost_read);
        some_cost = w.some_cost;
        allowed = w.allowed;
      }

  -- The release that a record asks for that passes its tests.
  abbrev ready : (gap row cost : Number) → Ready
  ready gap row cost = record { time = record { 0 = time + gap.value }; row = record { 0 = row.value }; cost = cost.value; next = cost.next }

  tests_passed : {gap row cost : Number} → CostPassed s at p gap row cost → tested_numbers table time its ≡ Ok (ready gap row cost)
  tests_passed {gap} {row} {cost} c =
      let fits = row_fits c.row_passed in
      passed_ready limits time its (record {
        gap = gap;
        row = row;
        cost = cost;
        row_fits = fits;
        cost_read = cost_stands fits c.read;
        some_cost = c.some_cost;
        allowed = c.allowed;
        asks_for = refl;
      })
      -- Where a test refuses the record's numbers, the rules of a record refuse it.

  numbers_refused : {k place : ℕ} → NumbersRefused limits time its k place → RecordRefused s at p k place
  numbers_refused (NumbersRefused.no_gap r e) = let u = unread s at r e in rw u.1 (no_gap u.0)
  numbers_refused (NumbersRefused.too_late gap e late) = too_late gap (number_read s at gap e) late
  numbers_refused (NumbersRefused.no_row_number gap f r e) =
      let g = gap_passed f in
      let u = unread s gap.next r (sym (row_there f.gap_read).1 ∙ e) in
      rw u.1 (no_row_number gap g u.0)
  numbers_refused (NumbersRefused.no_such_row gap row f e unused) =
      rw (row_there f.gap_read).0
      (no_such_row gap row (gap_passed f) (number_read s gap.next row (row_read f.gap_read e)) (omega (arith, limits_in_use table)))
  numbers_refused (NumbersRefused.no_cost gap row f r e) =
      let q = row_passed f in
      let g = f.gap_fits.gap_read in
      let u = unread s row.next r (sym (cost_there g (row_read g f.row_read)).1 ∙ e) in
      rw u.1 (no_cost gap row q u.0)
  numbers_refused (NumbersRefused.cost_out_of_range gap row cost f e out) =
      let q = row_passed f in
      let g = f.gap_fits.gap_read in
      rw (cost_there g (row_read g f.row_read)).0
      (cost_out_of_range gap row cost q (number_read s row.next cost (cost_read f e)) out)
      -- Where a test refuses the record's numbers, the play stops.

  refused_stops : {k place : ℕ} → NumbersRefused limits time its k place
      → (r : RefusedAt) × (stepped p its ≡ stops r) × (refusal_number r.refusal ≡ k) × (r.place ≡ place)
  unfolding stepped
  refused_stops n =
      let found = refused_so limits time its n in
      (found.0, ap (after_tests at p) found.1, found.2, found.3)

  -- `there` is the play at the record's script time, and `said` is what the release answers there.
  abbrev there : Number → Progress
  there gap = record { so_far = ticks gap.value p.so_far; accepted = p.accepted }

  abbrev said : (gap row cost : Number) → Result Accepted Refusal
  said gap row cost = (released (there gap).so_far.run row.value cost.value).answer

  -- The job of a record that passes its tests is released at the record's script time.
  after_ready : (gap row cost : Number) → after_tests at p (Ok (ready gap row cost)) ≡ after_release at (ready gap row cost) (there gap) (said gap row cost)
  after_ready gap row cost = let many : time + gap.value - time ≡ gap.value = omega arith in rw many

  reaches_release : {gap row cost : Number} → CostPassed s at p gap row cost
      → stepped p its ≡ after_release at (ready gap row cost) (there gap) (said gap row cost)
  unfolding stepped
  reaches_release {gap} {row} {cost} c = ap (after_tests at p) (tests_passed c) ∙ after_ready gap row cost

  -- What is known about a record, given what it does to the play: the play goes on where its job is accepted, and stops where it is refused.
  abbrev pub SteppedSo : Step → Type 0
  SteppedSo (goes_on q next) = RecordTaken s at p q next
  SteppedSo (stops r) = RecordRefused s at p (refusal_number r.refusal) r.place

  by_release : (gap row cost : Number) → CostPassed s at p gap row cost → (a : Result Accepted Refusal) → said gap row cost ≡ a
      → SteppedSo (after_release at (ready gap row cost) (there gap) a)
  by_release gap row cost passed (Ok a) e = record {
    gap = gap;
    row = row;
    cost = cost;
    passed = passed;
    serial = a.serial.0;
    due = a.due.0;
    accepted = ap release_says e;
    run_then = refl;
    late_then = refl;
    finished_then = refl;
    one_job_more = refl;
    right_after = refl;
  }
  by_release gap row cost passed (Err r) e = release_refused gap row cost passed (refusal_number r) (ap release_says e)

  -- The tests come in their order, and then the release. There is no other way for a record to stop a play.
  pub step_means : SteppedSo (stepped p its)
  unfolding stepped
  step_means = by_tests (tested_numbers table time its) (tests_mean limits time its)
    where
      by_tests : (v : Result Ready RefusedAt) → TestedSo limits time its v → SteppedSo (after_tests at p v)
      by_tests (Ok r) w =
          rw w.asks_for
          (subst SteppedSo (sym (after_ready w.gap w.row w.cost)) (by_release w.gap w.row w.cost (cost_passed w) _ refl))
      by_tests (Err r) n = numbers_refused n

  -- The play goes on where the record's job is accepted.
  taken_goes_on : (q : Progress) (next : ℕ) → RecordTaken s at p q next → stepped p its ≡ goes_on q next
  taken_goes_on q next w =
      reaches_release w.passed
      ∙ ap (after_release at (ready w.gap w.row w.cost) (there w.gap))
      (runs_said_apart.1 (said w.gap w.row w.cost)
      (Ok (record { serial = record { 0 = w.serial }; due = record { 0 = w.due } })) w.accepted)
      ∙ rw (← w.run_then, ← w.late_then, ← w.finished_then, ← w.one_job_more, ← w.right_after)

  -- The play stops where the record is refused, with the same number and place.
  stops_where : {n place : ℕ} → RecordRefused s at p n place
      → (r : RefusedAt) × (stepped p its ≡ stops r) × (refusal_number r.refusal ≡ n) × (r.place ≡ place)
  stops_where (no_gap none) = refused_stops (NumbersRefused.no_gap _ (unread_stands s at _ none))
  stops_where (too_late gap e late) = refused_stops (NumbersRefused.too_late gap (number_stands s at e) late)
  stops_where (no_row_number gap g none) =
      let f = gap_fits g in
      refused_stops
      (NumbersRefused.no_row_number gap f _ ((row_there f.gap_read).1 ∙ unread_stands s gap.next _ none))
  stops_where (no_such_row gap row g e unused) =
      let f = gap_fits g in
      let found = refused_stops
      (NumbersRefused.no_such_row gap row f ((row_there f.gap_read).1 ∙ number_stands s gap.next e) (omega (arith, limits_in_use table))) in
      (found.0, found.1, found.2, found.3 ∙ (row_there f.gap_read).0)
  stops_where (no_cost gap row q none) =
      let f = row_fits q in
      let g = f.gap_fits.gap_read in
      refused_stops
      (NumbersRefused.no_cost gap row f _
      ((cost_there g (row_read g f.row_read)).1 ∙ unread_stands s row.next _ none))
  stops_where (cost_out_of_range gap row cost q e out) =
      let f = row_fits q in
      let g = f.gap_fits.gap_read in
      let found = refused_stops (NumbersRefused.cost_out_of_range gap row cost f (cost_stands f e) out) in
      (found.0, found.1, found.2, found.3 ∙ (cost_there g (row_read g f.row_read)).0)
  stops_where (release_refused gap row cost q number e) =
      let r = said_refused (said gap row cost) e in
      (record { refusal = r.0; place = at }, reaches_release q ∙ ap (after_release at (ready gap row cost) (there gap)) r.1, r.2, refl)

pub record_stops : RecordStops
record_stops s at p r = (
  λ e. subst (SteppedSo s at p) e (step_means s at p),
  λ refused.
      let found = stops_where s at p refused in
      found.1 ∙ ap stops (same_refusal found.0 r found.2 found.3),
)

-- Where the play goes on after a record, the record passed its tests and its job was accepted, whatever the record's place.
goes_where : (s : List ℕ) (at : ℕ) (p q : Progress) (next : ℕ) → stepped p (numbers_at s at) ≡ goes_on q next → RecordTaken s at p q next
unfolding stepped
goes_where s at p q next e = by_tests (tested_numbers (table s at p) (time s at p) (its s at p)) (tests_mean (limits s at p) (time s at p) (its s at p)) e
  where
    by_tests : (v : Result Ready RefusedAt) → TestedSo (limits s at p) (time s at p) (its s at p) v → after_tests at p v ≡ goes_on q next → RecordTaken s at p q next
    by_tests (Ok r) w f =
        let so = ap (after_tests at p) (ap Ok (sym w.asks_for)) ∙ f in
        subst (SteppedSo s at p) (sym (after_ready s at p w.gap w.row w.cost) ∙ so)
        (by_release s at p w.gap w.row w.cost (cost_passed s at p w) _ refl)
    by_tests (Err r) n f = impossible cc

pub record_goes_on : RecordGoesOn
record_goes_on s at p q next = (goes_where s at p q next, taken_goes_on s at p q next)

-- ---- where a record stops a play

-- A record that stops a play with 10 does so at the record's start.
pub ten_at_its_place : (s : List ℕ) (at : ℕ) (p : Progress) {n place : ℕ} → RecordRefused s at p n place → n ≡ 10 → place ≡ at
ten_at_its_place s at p (no_gap none) e = absurd (omega arith)
ten_at_its_place s at p (too_late gap f late) e = refl
ten_at_its_place s at p (no_row_number gap g none) e = absurd (omega arith)
ten_at_its_place s at p (no_such_row gap row g f unused) e = absurd (omega arith)
ten_at_its_place s at p (no_cost gap row q none) e = absurd (omega arith)
ten_at_its_place s at p (cost_out_of_range gap row cost q f out) e = absurd (omega arith)
ten_at_its_place s at p (release_refused gap row cost q number f) e = refl
