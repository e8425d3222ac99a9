-- What stops a play, and when it comes to its end. (docs/RULES.md, sections 8.1, 8.2, 8.5, 8.7 and 10.4.)
use Rattle.std.specs.Prelude.{Some, Result, Ok, Err}
use Rattle.run.specs.declared.Accepted.{Accepted}
use Rattle.kinds.specs.declared.Tick.{Tick}
use Prim.Native.Nat.{ℕ, zero, suc, ◌+◌, ◌≤◌, ◌<◌}
use mathlib.Core.Path.{◌≡◌, refl, sym, ap, subst, ◌∙◌}
use mathlib.Core.Logic.{◌⊎◌, ◌≢◌, inl, inr, ⊎_elim}
use mathlib.Core.Bool.{true}
use mathlib.Core.List.{List}
use native.Mathlib.Omega.{arith}
use lib.Dec.{leb, ltb}
use lib.ListN.{length}
use borrow.Author.Tests.{eq-eqb, ne_eqb}
use Rattle.kinds.specs.Numbering.{max_time, refusal_number}
use Rattle.kinds.specs.declared.Refusal.{Refusal}
use Rattle.kinds.specs.declared.Refusal.TheVariants.{TimeTooLate}
use Rattle.kinds.specs.declared.RefusedAt.{RefusedAt}
use Rattle.numbers.specs.SpelledNumbers.{Bytes}
use Rattle.numbers.specs.declared.Number.{Number}
use Rattle.theory.proofs.Cases.{by_lt, by_eq, by_test}
use Rattle.theory.specs.DueTimes.{due_time}
use Rattle.theory.specs.Servers.{server_due}
use Rattle.table.specs.declared.Row.{Row}
use Rattle.table.specs.declared.Server.{Server}
use Rattle.table.specs.Limits.{max_c}
use Rattle.table.specs.Rows.{from_one_to, row_in_range}
use Rattle.table.specs.Servers.{server_in_range}
use Rattle.table.specs.Tables.{table_read}
use Rattle.table.specs.Answers.{table_says}
use Rattle.table.proofs.Answers.{tables_said_apart}
use Rattle.table.specs.Costs.{cost_limits}
use Rattle.table.proofs.Refusals.{refused_as_a_table}
use Rattle.table.proofs.CostLimits.{CostTested, cost_tested, one_limit_for_each}
use Rattle.due.specs.declared.Kept.{Kept}
use Rattle.due.specs.Kept.{due_of, earlier, not_too_late}
use Rattle.due.specs.OddJobs.{odd_due_of}
use Rattle.jobs.specs.Places.{max_places}
use Rattle.run.specs.declared.Run.{Run}
use Rattle.run.specs.Runs.{fresh_run}
use Rattle.run.specs.Sound.{sound_of}
use Rattle.run.specs.Release.{at_due, due_next, at_cost, released}
use Rattle.run.specs.ManyTicks.{ticks}
use Rattle.run.specs.Answers.{ReleaseSays, release_says}
use Rattle.run.proofs.Ticking.{Good, facts}
use Rattle.run.proofs.ManyTicks.{ticks_keep_good}
use Rattle.run.proofs.Sound.{limit_at}
use Rattle.run.proofs.Release.{due_of_row, due_of_server, release_keeps_sound}
use Rattle.run.proofs.Fresh.{started_is_sound}
use Rattle.script.specs.declared.RecordAt.{RecordAt}
use Rattle.script.specs.Records.{record_at}
use Rattle.script.proofs.Records.{number_stands, record_read}
use Rattle.script.proofs.Scripts.{record_is_spelled}
use Rattle.records.specs.Numbers.{numbers_at}
use Rattle.play.specs.Play.{Progress, begun, Step, goes_on, stops, stepped}
use Rattle.play.specs.Play.{Played, whole, stopped, final_ticks, and_then, played_from, played}
use Rattle.play.specs.StoppingLaws.{TestsAsAtARelease, StoppedBy, StoppedMeans, WholeMeans}
use Rattle.play.specs.Refusals.{CanStop, CostPassed, RecordRefused}
use Rattle.play.specs.Refusals.{ComesTo, begins, goes_further, at_last, left_at_last, StoppedFor, the_table, a_record, the_clock}
use Rattle.play.specs.Refusals.{no_gap, too_late, no_row_number, no_such_row, no_cost, cost_out_of_range, release_refused}
use Rattle.play.proofs.Refusing.{limits_in_use, said_refused, same_refusal, record_stops, record_goes_on}

-- ---- what a play is stopped for

-- A record that passes its tests ends after its start, and within the script.
passed_forward : (s : List ℕ) (at : ℕ) (p : Progress) (gap row cost : Number) → Bytes s → at < length s → CostPassed s at p gap row cost
    → (at < cost.next) × (cost.next ≤ length s)
passed_forward s at p gap row cost bytes inside passed =
    let found : RecordAt = record { release = record { gap = gap.value; row = record { 0 = row.value }; cost = cost.value }; next = cost.next } in
    let there : record_at s at ≡ Ok (Some found) = record_read s at (λ z. omega arith) gap (number_stands s at passed.row_passed.gap_passed.read)
    row (number_stands s gap.next passed.row_passed.read) cost (number_stands s row.next passed.read) in
    let spelled = record_is_spelled s at found bytes there in
    (spelled.forward, spelled.within)

-- A record that the play goes on after ends after its start, and within the script.
goes_forward : (s : List ℕ) (at : ℕ) (p q : Progress) (next : ℕ) → Bytes s → at < length s → stepped p (numbers_at s at) ≡ goes_on q next
    → (at < next) × (next ≤ length s)
goes_forward s at p q next bytes inside e =
    let w = (record_goes_on s at p q next).0 e in
    let forward = passed_forward s at p w.gap w.row w.cost bytes inside w.passed in
    rw w.right_after forward

-- A play that has come to a place: what is left of it is the play from that place on, with `left` as a number of records that is enough.
record Rest (t s : List ℕ) (at : ℕ) (p : Progress) : Type 0 where
  left : ℕ
  inside : at ≤ length s
  enough : length s ≤ at + left
  is_played : played t s ≡ played_from left s at p

-- Before the script's end, the rest of a play is one record and what comes after it.
one_record : (n : ℕ) (s : List ℕ) (at : ℕ) (p : Progress) → at ≢ length s
    → played_from (suc n) s at p ≡ and_then (stepped p (numbers_at s at)) λ q next. played_from n s next q
unfolding played_from
one_record n s at p more = rw (ne_eqb at (length s) more)

-- At the script's end, the rest of a play is the final ticks.
no_record : (n : ℕ) (s : List ℕ) (p : Progress) → played_from n s (length s) p ≡ final_ticks (length s) p
unfolding played_from
no_record zero s p = refl
no_record (suc n) s p = rw (eq-eqb (length s) (length s) refl)

-- A play that goes on after a record has come to the place after that record.
rest_after : (t s : List ℕ) (at : ℕ) (p q : Progress) (next : ℕ) → Bytes s → Rest t s at p → at ≢ length s → stepped p (numbers_at s at) ≡ goes_on q next
    → Rest t s next q
rest_after t s at p q next bytes rest more e = by_left rest.left rest.enough rest.is_played
  where
    by_left : (n : ℕ) → length s ≤ at + n → played t s ≡ played_from n s at p → Rest t s next q
    by_left zero enough is = absurd (more (omega (arith, rest.inside)))
    by_left (suc n) enough is =
        let forward = goes_forward s at p q next bytes (omega (arith, rest.inside, more)) e in
        record { left = n; inside = forward.1; enough = omega (arith, forward.0); is_played = is ∙ one_record n s at p more ∙ rw e }

comes_to : (t s : List ℕ) (at : ℕ) (p : Progress) → Bytes s → ComesTo t s at p → Rest t s at p
unfolding played
comes_to t s at p bytes (begins period e) = record { left = length s; inside = omega arith; enough = omega arith; is_played = rw (tables_said_apart (table_read t).answer (Ok period) e) }
comes_to t s at p bytes (goes_further {at = from} {p = before} c more q next e) =
    rest_after t s from before q next bytes (comes_to t s from before bytes c) more e

-- Where a record stops the play, the whole play is stopped by that refusal.
record_stops_it : (t s : List ℕ) (at : ℕ) (p : Progress) (r : RefusedAt) → Rest t s at p → at ≢ length s → stepped p (numbers_at s at) ≡ stops r
    → played t s ≡ stopped r
record_stops_it t s at p r rest more e = by_left rest.left rest.enough rest.is_played
  where
    by_left : (n : ℕ) → length s ≤ at + n → played t s ≡ played_from n s at p → played t s ≡ stopped r
    by_left zero enough is = absurd (more (omega (arith, rest.inside)))
    by_left (suc n) enough is = is ∙ one_record n s at p more ∙ rw e

-- In the final ticks the clock stops the play where a job is still pending. Otherwise the play comes to its end.
clock_stops_it : (end : ℕ) (p : Progress) → 1 ≤ left_at_last p → final_ticks end p ≡ stopped (record { refusal = TimeTooLate; place = end })
unfolding final_ticks
clock_stops_it end p some = rw (ne_eqb (left_at_last p) 0 (λ none. omega arith))

none_left : (end : ℕ) (p : Progress) → left_at_last p ≡ 0 → final_ticks end p ≡ whole (at_last p)
unfolding final_ticks
none_left end p none = rw (eq-eqb (left_at_last p) 0 none)

at_the_end : (t s : List ℕ) (p : Progress) → Bytes s → ComesTo t s (length s) p → played t s ≡ final_ticks (length s) p
at_the_end t s p bytes c = let rest = comes_to t s (length s) p bytes c in rest.is_played ∙ no_record rest.left s p

stopped_for : (t s : List ℕ) (r : RefusedAt) → Bytes s → StoppedFor t s r → played t s ≡ stopped r
unfolding played
stopped_for t s r bytes (the_table e) = rw (tables_said_apart (table_read t).answer (Err r) e)
stopped_for t s r bytes (a_record at p c more refused) =
    let rest = comes_to t s at p bytes c in
    record_stops_it t s at p r rest more ((record_stops s at p r).1 refused)
stopped_for t s r bytes (the_clock p c some ten place) =
    at_the_end t s p bytes c ∙ clock_stops_it (length s) p some ∙ ap stopped (same_refusal _ r (sym ten) (sym place))

-- A play ends only in these ways: it comes to its end after the final ticks, or it is stopped for one of the three reasons.
module _ (t s : List ℕ) (bytes : Bytes s) where
  abbrev EndsSo : Played → Type 0
  EndsSo (whole q) = (p : Progress) × ComesTo t s (length s) p × (left_at_last p ≡ 0) × (q ≡ at_last p)
  EndsSo (stopped r) = StoppedFor t s r

  final_ends : (p : Progress) → ComesTo t s (length s) p → EndsSo (final_ticks (length s) p)
  final_ends p c = by_lt 0 (left_at_last p)
      (λ some. subst EndsSo (sym (clock_stops_it (length s) p some)) (the_clock p c some refl refl))
      (λ least.
      let none : left_at_last p ≡ 0 = omega arith in
      subst EndsSo (sym (none_left (length s) p none)) (p, c, none, refl))

  step_ends : (at : ℕ) (p : Progress) → ComesTo t s at p → at ≤ length s → at ≢ length s → (k : Progress → (next : ℕ) → Played) (x : Step) → stepped p (numbers_at s at) ≡ x
      → ((q : Progress) (next : ℕ) → stepped p (numbers_at s at) ≡ goes_on q next → EndsSo (k q next)) → EndsSo (and_then x k)
  step_ends at p c inside more k (goes_on q next) e rest = rest q next e
  step_ends at p c inside more k (stops r) e rest = a_record at p c more ((record_stops s at p r).0 e)

  script_ends : (n at : ℕ) (p : Progress) → ComesTo t s at p → at ≤ length s → length s ≤ at + n → EndsSo (played_from n s at p)
  unfolding played_from
  script_ends zero at p c inside enough = let end : at ≡ length s = omega arith in final_ends p (rw end at c)
  script_ends (suc n) at p c inside enough = by_eq at (length s)
      (λ end. rw (eq-eqb at (length s) end) (final_ends p (rw end at c)))
      (λ more. rw (ne_eqb at (length s) more) (step_ends at p c inside more _ (stepped p (numbers_at s at)) refl
      λ q next e.
      let forward = goes_forward s at p q next bytes (omega (arith, more)) e in
      script_ends n next q (goes_further c more q next e) forward.1 (omega (arith, forward.0))))

  play_ends : EndsSo (played t s)
  unfolding played
  play_ends = by_start (table_read t).answer refl
    where
      by_start : (a : Result ℕ RefusedAt) → (table_read t).answer ≡ a → EndsSo (played t s)
      by_start (Ok period) e =
          rw e (script_ends (length s) 0 (begun (fresh_run (table_read t).table)) (begins period (ap table_says e)) (omega arith) (omega arith))
      by_start (Err r) e = rw e (the_table (ap table_says e))

pub stopped_means : StoppedMeans
stopped_means t s r bytes = (λ e. subst (EndsSo t s bytes) e (play_ends t s bytes), stopped_for t s r bytes)

pub whole_means : WholeMeans
whole_means t s q bytes = (
  λ e. subst (EndsSo t s bytes) e (play_ends t s bytes),
  λ w. at_the_end t s w.0 bytes w.1 ∙ none_left (length s) w.0 w.2 ∙ ap whole (sym w.3),
)

-- ---- the refusals that stop a play

-- A refusal is numbered 2 to 10.
abbrev TwoToTen : Refusal → Type 0
TwoToTen r = (2 ≤ refusal_number r) × (refusal_number r ≤ 10)

-- Each answer that may be a refusal: if it is, it is numbered 2 to 10.
abbrev DueStops : Result Tick Refusal → Type 0
DueStops (Ok t) = Unit {0}
DueStops (Err r) = TwoToTen r

abbrev ReleaseStops : Result Accepted Refusal → Type 0
ReleaseStops (Ok a) = Unit {0}
ReleaseStops (Err r) = TwoToTen r

-- A due time that is too late is refused with 9.
late_stops : (at : ℕ) → DueStops (not_too_late at)
late_stops at = by_test (leb at max_time) (λ y. rw y tt) (λ no. rw no (omega arith, omega arith))

-- A row's due time that is refused is refused with 2 to 10.
row_due_stops : (k : Kept) (r : Row) (t cost : ℕ) → DueStops (due_of k r t cost)
unfolding due_of
row_due_stops k r t cost = by_test (row_in_range r)
    (λ y. rw y (late_stops (due_time r.x r.y r.d (earlier k) t)))
    (λ no. rw no (omega arith, omega arith))

-- A server's due time that is refused is refused with 2 to 10.
odd_due_stops : (v : Server) (last t cost : ℕ) → DueStops (odd_due_of v last t cost)
unfolding odd_due_of
odd_due_stops v last t cost = by_test (server_in_range v)
    (λ y. rw y (by_test (from_one_to max_c cost)
    (λ y₂. rw y₂ (late_stops (server_due v.a v.b last t cost)))
    (λ no. rw no (omega arith, omega arith))))
    (λ no. rw no (omega arith, omega arith))

-- A due time that is refused is refused with 2 to 10, for rows and servers alike.
due_stops : (run : Run) (row cost : ℕ) → DueStops (due_next run row cost)
due_stops run row cost = by_lt row run.table.count
    (λ h. subst DueStops (sym (due_of_row run row cost h)) (row_due_stops _ _ _ _))
    (λ h. subst DueStops (sym (due_of_server run row cost h)) (odd_due_stops _ _ _ _))

release_stops : (run : Run) (row cost : ℕ) → sound_of run ≡ true → ReleaseStops (released run row cost).answer
unfolding released
release_stops run row cost sound = rw sound (by_cost _ (cost_tested (cost_limits run.table) row cost))
  where
    by_due : (d : Result Tick Refusal) → DueStops d → ReleaseStops (at_due run row cost d).answer
    by_due (Ok t) h = tt
    by_due (Err r) h = h

    by_cost : (a : Result (Unit {0}) Refusal) → CostTested (cost_limits run.table) row cost a → ReleaseStops (at_cost run row cost a).answer
    by_cost a (CostTested.not_in_use h) = (omega arith, omega arith)
    by_cost a (CostTested.out_of_range h o) = (omega arith, omega arith)
    by_cost a (CostTested.allowed h l m) = by_test (ltb run.pending.count max_places)
        (λ room. rw room (by_due (due_next run row cost) (due_stops run row cost)))
        (λ full. rw full (omega arith, omega arith))

-- The run of a play is sound at every place that the play comes to.
pub comes_sound : (t s : List ℕ) (at : ℕ) (p : Progress) → Bytes t → ComesTo t s at p → Good p.so_far.run
comes_sound t s at p table (begins period e) = started_is_sound t table
comes_sound t s at p table (goes_further {at = from} {p = before} c more q next e) =
    let w = (record_goes_on s from before q next).0 e in
    let sound = ticks_keep_good w.gap.value before.so_far (comes_sound t s from before table c) in
    rw w.run_then (release_keeps_sound (ticks w.gap.value before.so_far).run w.row.value w.cost.value sound.1 sound.0)

pub tests_as_at_a_release : TestsAsAtARelease
tests_as_at_a_release t s at p table c =
    let run = p.so_far.run in
    let good = comes_sound t s at p table c in
    let few = (facts run good).few_rows in
    let places = good.1.all_rows in
    let many = sym (limits_in_use run.table) ∙ one_limit_for_each run.table few places in
    (many, λ row h. limit_at run.table few places row (omega (arith, many)))

-- A release at a record's time that is refused is refused with 2 to 10.
pub release_two_to_ten : (p : Progress) (gap row cost number : ℕ) → Good p.so_far.run
    → release_says (released (ticks gap p.so_far).run row cost).answer ≡ ReleaseSays.refused number 0 → (2 ≤ number) × (number ≤ 10)
release_two_to_ten p gap row cost number good e =
    let run = (ticks gap p.so_far).run in
    let r = said_refused (released run row cost).answer e in
    let so : TwoToTen r.0 = subst ReleaseStops r.1 (release_stops run row cost (ticks_keep_good gap p.so_far good).0) in
    rw r.2 at so

-- The refusals of a record are among those that can stop a play.
record_can_stop : (s : List ℕ) (at : ℕ) (p : Progress) {n place : ℕ} → Good p.so_far.run → RecordRefused s at p n place → (n ≤ 10) ⊎ ((n ≡ 14) ⊎ (n ≡ 16))
record_can_stop s at p good (no_gap none) = inr (inl refl)
record_can_stop s at p good (too_late gap e late) = inl (omega arith)
record_can_stop s at p good (no_row_number gap g none) = inr (inl refl)
record_can_stop s at p good (no_such_row gap row g e unused) = inl (omega arith)
record_can_stop s at p good (no_cost gap row q none) = inr (inl refl)
record_can_stop s at p good (cost_out_of_range gap row cost q e out) = inl (omega arith)
record_can_stop s at p good (release_refused gap row cost q number e) =
    inl (release_two_to_ten p gap.value row.value cost.value number good e).1

stops_so : (t s : List ℕ) (r : RefusedAt) → Bytes t → StoppedFor t s r → CanStop r.refusal
stops_so t s r table (the_table e) =
    ⊎_elim (λ low. inl (omega (arith, low.1))) (λ is. inr (inr is))
    (refused_as_a_table t r table (tables_said_apart (table_read t).answer (Err r) e))
stops_so t s r table (a_record at p c more refused) = record_can_stop s at p (comes_sound t s at p table c) refused
stops_so t s r table (the_clock p c some ten place) = inl (omega arith)

pub stopped_by : StoppedBy
stopped_by t s r table script e = stops_so t s r table ((stopped_means t s r script).0 e)
