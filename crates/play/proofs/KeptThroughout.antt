-- What every tick of a sound run and every accepted release keeps, a whole play keeps. Its ticks come only where the clock is below 2^40, and its runs are
-- sound. (docs/RULES.md, sections 8.1 to 8.7.)
use Rattle.std.specs.Prelude.{Result, Ok, Err}
use Rattle.kinds.specs.declared.Refusal.{Refusal}
use Rattle.kinds.specs.declared.RefusedAt.{RefusedAt}
use Prim.Native.Nat.{ℕ, zero, suc, ◌+◌, ◌-◌, ◌≤◌, ◌<◌}
use mathlib.Core.Path.{◌≡◌, refl, subst}
use mathlib.Core.Logic.{◌≢◌}
use mathlib.Core.List.{List, [], ◌∷◌, ◌++◌}
use native.Mathlib.Omega.{arith}
use lib.Dec.{eqb}
use lib.ListN.{length}
use borrow.Author.Tests.{eqb-true, eqb-false}
use Rattle.kinds.specs.Numbering.{max_time}
use Rattle.kinds.specs.declared.Tick.{Tick}
use Rattle.kinds.proofs.Apart.{impossible}
use Rattle.numbers.specs.SpelledNumbers.{Bytes}
use Rattle.theory.proofs.Cases.{by_test}
use Rattle.table.specs.Costs.{cost_limits}
use Rattle.run.specs.declared.Accepted.{Accepted}
use Rattle.run.specs.Runs.{started}
use Rattle.run.specs.Release.{new_job, released}
use Rattle.run.specs.ManyTicks.{SoFar, one_more_tick, ticks_while_pending}
use Rattle.run.proofs.Ticking.{Good, facts}
use Rattle.run.proofs.Release.{release_keeps_sound}
use Rattle.run.proofs.Fresh.{started_is_sound}
use Rattle.records.specs.declared.Numbers.{Numbers}
use Rattle.records.specs.declared.Ready.{Ready}
use Rattle.records.specs.Numbers.{numbers_at, tested_numbers}
use Rattle.play.specs.Play.{Progress, begun, Step, goes_on, stops, after_release, ticked_to, after_tests, stepped}
use Rattle.play.specs.Play.{whole, final_ticks, and_then, played_from, played_on, once_started, played}
use Rattle.play.proofs.SingleTicks.{along_ticks, along_draining, ticks_keep, draining_keeps}
use Rattle.records.specs.PassedTests.{Passed}
use Rattle.records.proofs.ReadRecords.{ready_passed}

-- ---- one tick and one release

-- A play after one more tick.
abbrev pub tick_more : Progress → Progress
tick_more p = record { so_far = one_more_tick p.so_far; accepted = p.accepted }

-- A play after one more accepted release, with the due time that the release answered.
abbrev pub release_more : Progress → (row cost : ℕ) → (due : Tick) → Progress
release_more p row cost due = let run = p.so_far.run in record {
  so_far = record { run = (released run row cost).run; late = p.so_far.late; finishes = p.so_far.finishes };
  accepted = p.accepted ++ (new_job run row cost due ∷ []);
}

-- Every tick of a sound run with its clock below 2^40 keeps a property, and so does every accepted release on a sound run.
pub record Keeps (P : Progress → Type 0) : Type 0 where
  pub tick : (p : Progress) → Good p.so_far.run → p.so_far.run.clock.0 < max_time → P p → P (tick_more p)
  pub release : (p : Progress) (row cost : ℕ) (a : Accepted) → Good p.so_far.run
      → (released p.so_far.run row cost).answer ≡ Ok a → P p → P (release_more p row cost a.due)

-- ---- one record

-- The play goes on after a record: the record's numbers passed their tests, and its job was accepted at its script time.
pub record Went (p : Progress) (n : Numbers) (q : Progress) (next : ℕ) : Type 0 where
  pub ready : Ready
  pub passed : Passed (cost_limits p.so_far.run.table) p.so_far.run.clock.0 n ready
  pub answer : Accepted
  pub answered : (released (ticked_to ready.time.0 p).so_far.run ready.row.0 ready.cost).answer ≡ Ok answer
  pub reached : q ≡ release_more (ticked_to ready.time.0 p) ready.row.0 ready.cost answer.due
  pub goes_on_after : next ≡ ready.next

-- The script time of a record that the play goes on after is at most 2^40.
pub went_in_time : {p : Progress} {n : Numbers} {q : Progress} {next : ℕ} (w : Went p n q next) → w.ready.time.0 ≤ max_time
went_in_time w = rw w.passed.asks_for w.passed.row_fits.gap_fits.in_time

module _ (p : Progress) (n : Numbers) (q : Progress) (next : ℕ) where
  by_answer : (r : Ready) → Passed (cost_limits p.so_far.run.table) p.so_far.run.clock.0 n r → (a : Result Accepted Refusal)
      → (released (ticked_to r.time.0 p).so_far.run r.row.0 r.cost).answer ≡ a
      → after_release n.gap.place r (ticked_to r.time.0 p) a ≡ goes_on q next → Went p n q next
  by_answer r passed (Ok a) e went =
      record { ready = r; passed = passed; answer = a; answered = e; reached = cc; goes_on_after = cc }
  by_answer r passed (Err f) e went = impossible cc

  by_tests : (t : Result Ready RefusedAt) → tested_numbers p.so_far.run.table p.so_far.run.clock.0 n ≡ t
      → after_tests n.gap.place p t ≡ goes_on q next → Went p n q next
  by_tests (Ok r) e went = by_answer r (ready_passed (cost_limits p.so_far.run.table) p.so_far.run.clock.0 n r e) _ refl went
  by_tests (Err f) e went = impossible cc

  pub went_on : stepped p n ≡ goes_on q next → Went p n q next
  unfolding stepped
  went_on e = by_tests _ refl e

-- ---- a script

-- A play from a place on that comes to its end is at the script's end there, or goes on after a record there.
pub by_record : {G : Type 0} (n : ℕ) (s : List ℕ) (at : ℕ) (p q : Progress) → played_from (suc n) s at p ≡ whole q
    → (at ≡ length s → final_ticks (length s) p ≡ whole q → G)
    → (at ≢ length s → (m : Progress) (next : ℕ) → Went p (numbers_at s at) m next → played_from n s next m ≡ whole q → G)
    → G
unfolding played_from
by_record {G} n s at p q e ended further =
    by_test (eqb at (length s)) (λ t. ended (eqb-true at (length s) t) (rw t at e))
    (λ f. after (eqb-false at (length s) f) (stepped p (numbers_at s at)) refl (rw f at e))
  where
    after : at ≢ length s → (step : Step) → stepped p (numbers_at s at) ≡ step → and_then step (λ m next. played_from n s next m) ≡ whole q → G
    after ne (goes_on m next) g rest = further ne m next (went_on p (numbers_at s at) m next g) rest
    after ne (stops r) g rest = impossible cc

-- Where the final ticks bring a play to its end, nothing is pending.
pub came_to_the_end : (end : ℕ) (p q : Progress) → final_ticks end p ≡ whole q
    → (record { so_far = ticks_while_pending (max_time - p.so_far.run.clock.0) p.so_far; accepted = p.accepted } ≡ q) × (q.so_far.run.pending.count ≡ 0)
unfolding final_ticks
came_to_the_end end p q e =
    let last : Progress = record { so_far = ticks_while_pending (max_time - p.so_far.run.clock.0) p.so_far; accepted = p.accepted } in
    by_test (eqb last.so_far.run.pending.count 0)
    (λ t. let same : last ≡ q = let ended = rw t at e in cc in (same, rw (← same) (eqb-true _ _ t)))
    (λ f. let ended = rw f at e in impossible cc)

-- A play that came to its end was started on an accepted table.
pub was_started : (t s : List ℕ) (p : Progress) → played t s ≡ whole p → played_on s (started t).run ≡ whole p
unfolding played
was_started t s p e = once (started t).answer e
  where
    once : (a : Result (Unit {0}) RefusedAt) → once_started s (started t).run a ≡ whole p → played_on s (started t).run ≡ whole p
    once (Ok done) e₂ = e₂
    once (Err r) e₂ = impossible cc

-- ---- what is kept all through

-- What holds at the end of a play that comes to its end: the property was kept, the run is sound, and nothing is pending.
pub record AtTheEnd (P : Progress → Type 0) (p : Progress) : Type 0 where
  pub kept : P p
  pub sound : Good p.so_far.run
  pub nothing_pending : p.so_far.run.pending.count ≡ 0

module _ (P : Progress → Type 0) (keeps : Keeps P) where
  -- The property holds, and the run is sound.
  abbrev Holds : Progress → Type 0
  Holds p = P p × Good p.so_far.run

  -- A tick keeps the property, and leaves the accepted jobs as they are.
  tick_keeps : (p : Progress) (s : SoFar) → Good s.run → s.run.clock.0 < max_time
      → P (record { so_far = s; accepted = p.accepted }) → P (record { so_far = one_more_tick s; accepted = p.accepted })
  tick_keeps p s = keeps.tick (record { so_far = s; accepted = p.accepted })

  -- A record that the play goes on after keeps the property.
  pub step_keeps : (p : Progress) (n : Numbers) (q : Progress) (next : ℕ) → Went p n q next → Holds p → Holds q
  step_keeps p n q next w h =
      let there = ticked_to w.ready.time.0 p in
      let many = w.ready.time.0 - p.so_far.run.clock.0 in
      let room : p.so_far.run.clock.0 + many ≤ max_time = omega (arith, went_in_time w, (facts p.so_far.run h.1).clock_in_time) in
      let good = (ticks_keep p.so_far many h.1 room).good in
      let held = along_ticks (λ s. P (record { so_far = s; accepted = p.accepted })) (tick_keeps p) many p.so_far h.1 room h.0 in
      rw w.reached (
        keeps.release there w.ready.row.0 w.ready.cost w.answer good w.answered held,
        release_keeps_sound there.so_far.run w.ready.row.0 w.ready.cost good.1 good.0,
      )

  -- The final ticks keep the property.
  final_keeps : (end : ℕ) (p q : Progress) → final_ticks end p ≡ whole q → Holds p → AtTheEnd P q
  final_keeps end p q e h =
      let many = max_time - p.so_far.run.clock.0 in
      let room : p.so_far.run.clock.0 + many ≤ max_time = omega (arith, (facts p.so_far.run h.1).clock_in_time) in
      let good = (draining_keeps p.so_far many h.1 room).good in
      let held = along_draining (λ s. P (record { so_far = s; accepted = p.accepted })) (tick_keeps p) many p.so_far h.1 room h.0 in
      let ended = came_to_the_end end p q e in
      let there = subst Holds ended.0 (held, good) in
      record { kept = there.0; sound = there.1; nothing_pending = ended.1 }

  -- A script that is played to its end from a place on keeps the property.
  from_keeps : (n : ℕ) (s : List ℕ) (at : ℕ) (p q : Progress) → played_from n s at p ≡ whole q → Holds p → AtTheEnd P q
  unfolding played_from
  from_keeps zero s at p q e h = final_keeps (length s) p q e h
  from_keeps (suc n) s at p q e h =
      by_record n s at p q e (λ end f. final_keeps (length s) p q f h)
      (λ more m next w rest. from_keeps n s next m q rest (step_keeps p (numbers_at s at) m next w h))

  -- A property that holds at the start of a play on a table, and that ticks and releases keep, holds at the end of every play on that table that comes to its
  -- end.
  pub kept_through : (t s : List ℕ) (p : Progress) → Bytes t → P (begun (started t).run) → played t s ≡ whole p → AtTheEnd P p
  kept_through t s p bytes first e =
      from_keeps (length s) s 0 (begun (started t).run) p (was_started t s p e) (first, started_is_sound t bytes)
