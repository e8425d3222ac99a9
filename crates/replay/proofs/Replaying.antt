-- A script is played record by record on arrays, up to its end, and the answers of `play` and `replay` are those of their definitions. (docs/RULES.md, section
-- 8.)
use Rattle.std.specs.Prelude.{Option, Result, Ok, Err}
use Prim.Native.Nat.{ℕ, zero, suc, ◌+◌, ◌-◌, ◌≤◌, ◌<◌}
use mathlib.Core.Path.{◌≡◌, refl, sym, ap, ap₂, subst, ◌∙◌}
use mathlib.Core.Bool.{true, false}
use mathlib.Core.List.{List, []}
use native.Mathlib.Omega.{arith}
use lib.ListN.{length, take, get_or, replicate}
use borrow.Author.Tests.{eq-eqb, ne_eqb}
use Rattle.theory.proofs.Cases.{by_eq}
use Rattle.kinds.specs.Numbering.{max_time}
use Rattle.kinds.specs.declared.Serial.{Serial}
use Rattle.kinds.specs.declared.Refusal.TheVariants.{TimeTooLate, NoRoom}
use Rattle.kinds.specs.declared.RefusedAt.{RefusedAt}
use Rattle.numbers.specs.SpelledNumbers.{Bytes}
use Rattle.table.specs.declared.Table.{Table}
use Rattle.table.specs.Limits.{max_rows, max_servers}
use Rattle.table.specs.Timer.{GoodTimer}
use Rattle.table.specs.Tables.{no_row, table_read}
use Rattle.table.specs.Costs.{cost_limits, held_limits, limit_of, cost_answer}
use Rattle.table.proofs.CostLimits.{limit_in_use, cost_allowed}
use Rattle.table.proofs.SpelledTables.{in_range_means}
use Rattle.columns.specs.Columns.{empty_columns}
use Rattle.columns.proofs.Holding.{empty_holds_nothing}
use Rattle.rings.specs.Rings.{empty_rings}
use Rattle.rings.proofs.Holding.{rings_empty}
use Rattle.run.specs.declared.Run.{Run}
use Rattle.table.specs.declared.TableRead.{TableRead}
use Rattle.run.specs.Runs.{fresh_run, start_answer, row_at, server_at}
use Rattle.run.specs.ManyTicks.{SoFar, ticks_while_pending}
use Rattle.run.proofs.Fresh.{started_is_sound}
use Rattle.run.proofs.Sound.{in_use_where, limits_lent, enough_limits}
use Rattle.run.proofs.Release.{each_release}
use Rattle.run.proofs.Ticking.{Good, facts}
use Rattle.script.proofs.Scripts.{record_is_spelled}
use Rattle.records.specs.declared.Numbers.{Numbers}
use Rattle.records.specs.declared.Ready.{Ready}
use Rattle.records.specs.Numbers.{numbers_at, tested_by, tested_numbers}
use Rattle.records.specs.PassedTests.{Passed}
use Rattle.records.proofs.ReadRecords.{ready_passed, passed_is_read}
use Rattle.play.specs.Play.{Progress, begun, stops, ticked_to, released_at, stepped}
use Rattle.play.specs.Play.{whole, stopped, ended_at, final_ticks, and_then, played_from, played_on, once_started, played}
use Rattle.play.proofs.SingleTicks.{tick_table}
use Rattle.play.proofs.OnItsWay.{on_its_way_first}
use Rattle.play.proofs.KeptThroughout.{Keeps, went_on, step_keeps}
use Rattle.replay.specs.declared.Logged.{Logged}
use Rattle.replay.specs.declared.LateJobs.{LateJobs}
use Rattle.replay.specs.declared.Replayed.{Replayed}
use Rattle.replay.specs.declared.Replayed.TheVariants as replayed
use Rattle.replay.specs.declared.Going.{Going}
use Rattle.replay.specs.declared.Source.{Source}
use Rattle.replay.specs.declared.Source.TheVariants as source
use Rattle.replay.specs.Outcome.{finished_in, replay_outcome, replay_of, log_after}
use Rattle.replay.specs.Arrays.{Logs, TickArrays, InBounds, ArraysHoldRun, HasTimer, LeadsTo, LeftIn, play_outcome}
use Rattle.replay.specs.Arrays.{tick_arrays_in, CanGo, ArraysHoldPlay, PlaceInRange, SourceOf, MayRelease, SteppedTo, RecordPlayed}
use Rattle.replay.proofs.Releasing.{place_in_range}
use Rattle.replay.proofs.Logging.{logs_none, late_are_few, answers_full, answers_in_time, answers_late}

-- ---- a script, record by record

-- Before the script's end a play goes on with a record, and then with the rest.
record_first : (n : ℕ) (s : List ℕ) (at : ℕ) (p : Progress) → at < length s
    → played_from (suc n) s at p ≡ and_then (stepped p (numbers_at s at)) (λ q next. played_from n s next q)
unfolding played_from
record_first n s at p inside = rw (ne_eqb at (length s) (λ e. omega arith))

-- At the script's end a play goes on with the final ticks.
ticks_last : (n : ℕ) (s : List ℕ) (at : ℕ) (p : Progress) → at ≡ length s → played_from n s at p ≡ final_ticks (length s) p
unfolding played_from
ticks_last zero s at p e = refl
ticks_last (suc n) s at p e = rw (eq-eqb at (length s) e)

-- The arrays hold a play at a place of its script, and the play by single ticks from there on comes to the same end as the whole play.
pub record Plays (s : List ℕ) (t : Table) (log₀ log : List ℕ) (g : Going) (at : ℕ) : Type 0 where
  pub progress : Progress
  pub left : ℕ
  pub leads_on : played_from left s at progress ≡ played_on s (fresh_run t)
  pub enough : length s ≤ at + left
  pub within : at ≤ length s
  pub same_table : progress.so_far.run.table ≡ t
  pub stands : ArraysHoldPlay progress log₀ log g

-- Before the script's end, a record stands at the place. It passed its tests at the point that a play has reached, and `r` is the release that it asks for.
pub record Asks (s : List ℕ) (at : ℕ) (p : Progress) (r : Ready) : Type 0 where
  pub inside : at < length s
  pub passes : tested_numbers p.so_far.run.table p.so_far.run.clock.0 (numbers_at s at) ≡ Ok r

-- A play on arrays came to its end: the play by single ticks ends the same way, and its finished jobs are logged.
pub record PlaysWhole (s : List ℕ) (t : Table) (log₀ log : List ℕ) (l : Logged) : Type 0 where
  pub progress : Progress
  pub ends : played_on s (fresh_run t) ≡ whole progress
  pub logs : Logs progress.so_far.finishes log₀ log l

-- Every tick and every accepted release leaves the table as it is.
on_its_table : (t : Table) → Keeps (λ p. p.so_far.run.table ≡ t)
on_its_table t = record {
  tick = λ p good in_time same. tick_table p.so_far.run good in_time ∙ same;
  release = λ p row cost a good e same.
      each_release p.so_far.run row cost (λ after. after.run.table ≡ p.so_far.run.table) (λ r. refl) (λ u passed given. refl) ∙ same;
}

-- How far a play has come before its first record: no job is pending, and no due time is kept.
abbrev pub not_begun : Going
not_begun = record {
  jobs = empty_columns;
  rings = empty_rings;
  lasts = replicate max_servers (record { 0 = 0 });
  clock = record { 0 = 0 };
  next = record { 0 = 0 };
  logged = record { length = 0; late = 0; full = false };
}

pub plays_first : (s : List ℕ) (t : Table) (log : List ℕ) → Good (fresh_run t) → Plays s t log log not_begun 0
plays_first s t log good = record {
  progress = begun (fresh_run t);
  left = length s;
  leads_on = refl;
  enough = omega arith;
  within = omega arith;
  same_table = refl;
  stands = record {
    stands = record {
      on_its_way = on_its_way_first (fresh_run t) good refl refl;
      counts = refl;
      clocks = refl;
      jobs_held = record { queue = []; held = empty_holds_nothing; in_order = tt; same = refl };
      logs = logs_none log;
    };
    kept = rings_empty t.count t.rows (facts (fresh_run t) good).few_rows
        (λ row h. (in_range_means (get_or t.rows row no_row)).1 ((facts (fresh_run t) good).rows row h));
    last_held = refl;
    same_next = refl;
  };
}

-- Where the arrays hold a play, their numbers are in bounds.
pub stands_in_bounds : {s : SoFar} {log₀ : List ℕ} {h : TickArrays} → ArraysHoldRun s log₀ h → InBounds h
stands_in_bounds {s} w =
    let way = w.on_its_way in
    let known = facts s.run way.good in
    record {
      few_pending = omega (arith, w.counts, known.few_pending);
      within = w.logs.within;
      few_late = omega (
        arith,
        w.counts,
        w.logs.late,
        late_are_few s.finishes,
        way.all_there,
        known.serials,
        known.clock_in_time,
        known.few_pending,
        known.few_ended,
      );
    }

module _ {s : List ℕ} {t : Table} {log₀ log : List ℕ} {g : Going} {at : ℕ} (w : Plays s t log₀ log g at) where
  -- `reached` is the run that the play by single ticks has reached.
  abbrev reached : Run
  reached = w.progress.so_far.run

  good : Good reached
  good = w.stands.stands.on_its_way.good

  -- The run that was reached has the table's timer, and the timer is in range.
  its_timer : HasTimer t.s t.p reached
  its_timer = record { same_s = ap (λ (u : Table). u.s) w.same_table; same_p = ap (λ (u : Table). u.p) w.same_table }

  pub good_timer : GoodTimer t.s t.p
  good_timer = rw (← w.same_table) (facts reached good).good_timer

  pub plays_in_bounds : InBounds (tick_arrays_in log g)
  plays_in_bounds = stands_in_bounds w.stands.stands

  pub log_as_long : length log ≡ length log₀
  log_as_long = w.stands.stands.logs.same_length

  few_rows : t.count ≤ max_rows
  few_rows = rw (← w.same_table) (facts reached good).few_rows

  few_servers : t.serving ≤ max_servers
  few_servers = rw (← w.same_table) (facts reached good).few_servers

  all_rows : length t.rows ≡ max_rows
  all_rows = rw (← w.same_table) good.1.all_rows

  -- There is a limit for each row and each server of the table in use.
  pub limits_within : {limits : List ℕ} → limits ≡ held_limits t → t.count + t.serving ≤ length limits
  limits_within {limits} e = enough_limits t few_rows few_servers limits e

  -- From here on the place is before the script's end, and a record stands there.
  module _ (inside : at < length s) where
    -- The rest of the play is the record at the place, and what comes after it.
    one_record : played_on s (fresh_run t) ≡ and_then (stepped w.progress (numbers_at s at)) (λ q next. played_from (w.left - 1) s next q)
    one_record =
        let some : w.left ≡ suc (w.left - 1) = omega (arith, w.enough) in
        sym w.leads_on ∙ ap (λ (n : ℕ). played_from n s at w.progress) some ∙ record_first (w.left - 1) s at w.progress inside

    stops_so : {r : RefusedAt} → stepped w.progress (numbers_at s at) ≡ stops r → played_on s (fresh_run t) ≡ stopped r
    stops_so e = one_record ∙ rw e

  module _ (inside : at < length s) {n : Numbers} (read_so : n ≡ numbers_at s at) {limits : List ℕ} (limits_so : limits ≡ held_limits t) {v : Result Ready RefusedAt}
      (tested_so : v ≡ tested_by (take (t.count + t.serving) limits) g.clock.0 n) where
    -- The tests of the code are the tests on the run that the play by single ticks has reached.
    on_run : tested_numbers reached.table reached.clock.0 (numbers_at s at) ≡ v
    on_run =
        ap₂ (λ (u : Table). λ (clock : ℕ). tested_numbers u clock (numbers_at s at)) w.same_table w.stands.stands.clocks
        ∙ ap (λ (ls : List ℕ). tested_by ls g.clock.0 (numbers_at s at)) (sym (limits_lent t few_rows all_rows few_servers limits limits_so))
        ∙ ap (tested_by (take (t.count + t.serving) limits) g.clock.0) (sym read_so)
        ∙ sym tested_so

    -- A record that a test refuses stops the play.
    pub plays_refused : {r : RefusedAt} → v ≡ Err r → played_on s (fresh_run t) ≡ stopped r
    unfolding stepped
    plays_refused e = stops_so inside (rw (on_run ∙ e))

    -- A record that passes the tests of the code passes them on that run.
    pub plays_ready : {r : Ready} → v ≡ Ok r → Asks s at w.progress r
    plays_ready e = record { inside = inside; passes = on_run ∙ e }

  -- From here on the record passed its tests.
  module _ {r : Ready} (its_record : Asks s at w.progress r) where
    passed : Passed (cost_limits reached.table) reached.clock.0 (numbers_at s at) r
    passed = ready_passed (cost_limits reached.table) reached.clock.0 (numbers_at s at) r its_record.passes

    -- The record's row number is in use.
    row_in_use : r.row.0 < t.count + t.serving
    row_in_use =
        rw (← w.same_table) (in_use_where reached.table r.row.0 (rw (ap (λ (x : Ready). x.row.0) passed.asks_for) passed.row_fits.in_use))

    -- A row's number is one that a table has room for.
    pub row_in_table : r.row.0 < t.count → r.row.0 < max_rows
    row_in_table h = omega (arith, few_rows)

    -- A server's place is one that a table has room for.
    pub server_in_table : r.row.0 - t.count < max_servers
    server_in_table = omega (arith, row_in_use, few_servers)

    -- The record's row number is that of a row, or of a server.
    pub of_row : r.row.0 < t.count → SourceOf t r.row.0 (source.Row (row_at t r.row.0))
    of_row h = (h, refl)

    pub of_server : t.count ≤ r.row.0
        → SourceOf t r.row.0 (source.Server (record { server = server_at t r.row.0; place = r.row.0 - t.count }))
    of_server h = (h, row_in_use, refl, refl)

    pub source_in_range : (from : Source) → SourceOf t r.row.0 from → PlaceInRange from
    source_in_range from its = place_in_range t few_servers r.row.0 from its

    pub can_go : CanGo log g r
    can_go =
        let asks = ap (λ (x : Ready). x.time.0) passed.asks_for in
        let known = facts reached good in
        record {
          in_bounds = plays_in_bounds;
          in_time = omega (arith, asks, passed.row_fits.gap_fits.in_time);
          few_serials = omega (
            arith,
            ap (λ (x : Serial). x.0) w.stands.same_next,
            known.serials,
            known.clock_in_time,
            known.few_pending,
            known.few_ended,
          );
        }

    -- A record that passes its tests ends after its start, and within the script.
    pub later_place : Bytes s → (at < r.next) × (r.next ≤ length s)
    later_place bytes =
        let spelled = record_is_spelled s at _ bytes (passed_is_read s at its_record.inside passed) in
        (spelled.forward, spelled.within)

    -- A record that passed its tests may be released.
    may_release : {from : Source} → SourceOf t r.row.0 from → MayRelease t.s t.p w.progress r from
    may_release {from} its =
        let limits_there = cost_limits reached.table in
        let row = ap (λ (x : Ready). x.row.0) passed.asks_for in
        let cost = ap (λ (x : Ready). x.cost) passed.asks_for in
        let time = ap (λ (x : Ready). x.time.0) passed.asks_for in
        record {
          its_timer = its_timer;
          its_source = subst (λ (u : Table). SourceOf u r.row.0 from) (sym w.same_table) its;
          allowed =
              ap₂ (λ (n c : ℕ). cost_answer (limit_of limits_there n) c) row cost
              ∙ ap (λ (most : Option ℕ). cost_answer most passed.cost.value) (limit_in_use limits_there passed.row.value passed.row_fits.in_use)
              ∙ cost_allowed (get_or limits_there passed.row.value 0) passed.cost.value passed.some_cost passed.allowed;
          ahead = omega (arith, time);
        }

    released_so : stepped w.progress (numbers_at s at) ≡ released_at at r (ticked_to r.time.0 w.progress)
    unfolding stepped
    released_so = rw its_record.passes

    module _ {from : Source} (its : SourceOf t r.row.0 from) (after : List ℕ) (h : Going) (x : Result (Unit {0}) RefusedAt)
        (done : RecordPlayed t.s t.p at r from log after g h x) where
      done_here : SteppedTo (released_at at r (ticked_to r.time.0 w.progress)) r.next log₀ after h x
      done_here = done w.progress log₀ w.stands (may_release its)

      -- Where the release is refused, the play is stopped with that refusal.
      pub plays_stopped : {q : RefusedAt} → x ≡ Err q → played_on s (fresh_run t) ≡ stopped q
      plays_stopped e = stops_so its_record.inside (released_so ∙ (rw e at done_here))

      -- Where the release is accepted, the play goes on at the place after the record.
      pub plays_next : {u : Unit {0}} → x ≡ Ok u → Bytes s → Plays s t log₀ after h r.next
      plays_next e bytes =
          let on = rw e at done_here in
          record {
            progress = on.0;
            left = w.left - 1;
            leads_on = sym (one_record its_record.inside ∙ rw (released_so ∙ on.1));
            enough = omega (arith, w.enough, later_place bytes);
            within = (later_place bytes).1;
            same_table =
                (step_keeps (λ o. o.so_far.run.table ≡ t) (on_its_table t) w.progress (numbers_at s at) on.0 r.next
                (went_on w.progress (numbers_at s at) on.0 r.next (released_so ∙ on.1)) (w.same_table, good)).0;
            stands = on.2;
          }

  -- From here on the place is the script's end, and the final ticks have been given.
  module _ (ended : length s ≤ at) {h : TickArrays} (led : LeadsTo t.s t.p max_time (tick_arrays_in log g) h) where
    abbrev last : Progress
    last = record { so_far = ticks_while_pending (max_time - reached.clock.0) w.progress.so_far; accepted = w.progress.accepted }

    pub stands_last : ArraysHoldRun last.so_far log₀ h
    stands_last =
        let many : max_time - reached.clock.0 ≡ max_time - g.clock.0 = ap (λ (clock : ℕ). max_time - clock) w.stands.stands.clocks in
        rw many (led w.progress.so_far log₀ its_timer w.stands.stands)

    the_end : played_on s (fresh_run t) ≡ ended_at (length s) last
    unfolding final_ticks
    the_end = sym w.leads_on ∙ ticks_last w.left s at w.progress (omega (arith, w.within))

    -- Where a job is still pending after the final ticks, the play is stopped with 10 at the script's length.
    pub plays_too_long : 0 < h.jobs.count → played_on s (fresh_run t) ≡ stopped (record { refusal = TimeTooLate; place = length s })
    plays_too_long some = the_end ∙ rw (ne_eqb last.so_far.run.pending.count 0 (λ e. omega (arith, stands_last.counts)))

    -- Where nothing is pending after the final ticks, the play came to its end.
    pub plays_whole : h.jobs.count ≡ 0 → PlaysWhole s t log₀ h.log h.logged
    plays_whole none = record {
      progress = last;
      ends = the_end ∙ rw (eq-eqb last.so_far.run.pending.count 0 (stands_last.counts ∙ none));
      logs = stands_last.logs;
    }

-- ---- the answer of a play

-- What `play` answers and leaves in the log is what its contract says.
abbrev pub Ends : (s : List ℕ) (t : Table) (log₀ log : List ℕ) → Replayed → Type 0
Ends s t log₀ log r = (r ≡ replay_outcome (length log₀) (length s) (played_on s (fresh_run t))) × LeftIn r (finished_in (played_on s (fresh_run t))) log₀ log

-- A play that was stopped answers its refusal.
pub stopped_ends : (s : List ℕ) (t : Table) (log₀ log : List ℕ) → length log ≡ length log₀ → (r : RefusedAt)
    → played_on s (fresh_run t) ≡ stopped r → Ends s t log₀ log (replayed.Refused r)
stopped_ends s t log₀ log same r e = (rw e, same)

module _ {s : List ℕ} {t : Table} {log₀ log : List ℕ} {l : Logged} (w : PlaysWhole s t log₀ log l) where
  -- A play that came to its end with a full log answers 12.
  pub full_ends : l.full ≡ true → Ends s t log₀ log (replayed.Refused (record { refusal = NoRoom; place = length s }))
  full_ends full = rw w.ends (sym (answers_full w.progress w.logs (length s) full), w.logs.same_length)

  module _ (not_full : l.full ≡ false) where
    -- A play whose log is not full and whose jobs are all in time answers 22.
    in_time_ends : l.late ≡ 0 → Ends s t log₀ log (replayed.InTime l.length)
    in_time_ends none = rw w.ends (sym (answers_in_time w.progress w.logs (length s) not_full none), (w.logs.holds not_full).stands)

    -- A play whose log is not full and some of whose jobs are late answers 23.
    late_ends : (l.late ≡ 0 → ⊥) → Ends s t log₀ log (replayed.Late (record { length = l.length; late = l.late }))
    late_ends some = rw w.ends (sym (answers_late w.progress w.logs (length s) not_full some), (w.logs.holds not_full).stands)

    -- A play whose log is not full answers the log's length and the number of jobs late.
    pub fit_ends : Ends s t log₀ log (play_outcome (Ok (record { length = l.length; late = l.late })))
    fit_ends = by_eq l.late 0 (λ none. rw (eq-eqb l.late 0 none) (in_time_ends none)) (λ some. rw (ne_eqb l.late 0 some) (late_ends some))

-- ---- the answer of a replay

-- What `replay` answers and leaves in the log is what its contract says.
abbrev pub Replays : (t s log₀ log : List ℕ) → Replayed → Type 0
Replays t s log₀ log r = (r ≡ replay_of t s (length log₀)) × (log ≡ log_after r (finished_in (played t s)) log₀)

-- The table was read, and the script was played if the table was accepted: `out` is what came of it. After a refusal the log is still to be filled with zeros.
abbrev pub CameTo : (t s log₀ log : List ℕ) → Result LateJobs RefusedAt → Type 0
CameTo t s log₀ log out = (play_outcome out ≡ replay_of t s (length log₀)) × LeftIn (play_outcome out) (finished_in (played t s)) log₀ log

module _ (t s log₀ : List ℕ) {x : TableRead} (reads : x ≡ table_read t) where
  -- The fresh run of a table that was read is sound.
  pub started_ready : Bytes t → Good (fresh_run x.table)
  started_ready bytes = rw reads (started_is_sound t bytes)

  -- What is played goes by the answer of reading the table: a run is started on it, or it is refused.
  by_start : played t s ≡ once_started s (fresh_run x.table) (start_answer x.answer)
  unfolding played
  by_start = ap (λ (y : TableRead). once_started s (fresh_run y.table) (start_answer y.answer)) (sym reads)

  -- A table that is refused stops the play at once.
  pub table_refused : {r : RefusedAt} → x.answer ≡ Err r → CameTo t s log₀ log₀ (Err r)
  table_refused {r} e = let so : played t s ≡ stopped r = by_start ∙ rw e in (rw so, refl)

  -- On an accepted table the script is played.
  pub table_accepted : {period : ℕ} → x.answer ≡ Ok period → (log : List ℕ) (out : Result LateJobs RefusedAt) → Ends s x.table log₀ log (play_outcome out)
      → CameTo t s log₀ log out
  table_accepted accepted log out ends = let played_so : played t s ≡ played_on s (fresh_run x.table) = by_start ∙ rw accepted in rw played_so ends

module _ (t s log₀ log : List ℕ) (out : Result LateJobs RefusedAt) (came : CameTo t s log₀ log out) where
  -- With no job late the answer is 22, and with some jobs late it is 23.
  pub replay_in_time : {l : LateJobs} → out ≡ Ok l → l.late ≡ 0 → Replays t s log₀ log (replayed.InTime l.length)
  replay_in_time {l} e none = rw (e, eq-eqb l.late 0 none) at came

  pub replay_late : {l : LateJobs} → out ≡ Ok l → (l.late ≡ 0 → ⊥) → Replays t s log₀ log (replayed.Late l)
  replay_late {l} e some = rw (e, ne_eqb l.late 0 some) at came

  -- After a refusal the log is filled with zeros.
  pub replay_refused : {r : RefusedAt} {cleared : List ℕ} → out ≡ Err r → cleared ≡ replicate (length log) 0 → Replays t s log₀ cleared (replayed.Refused r)
  replay_refused e zeros = let stops_so = rw e at came in (stops_so.0, rw (← stops_so.1) zeros)
