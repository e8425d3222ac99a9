-- The laws of plays are proved: what every tick and release keeps holds at the end, where nothing is pending. (docs/RULES.md, section 8.)
use Prim.Native.Nat.{ℕ, suc, ◌+◌, ◌≤◌, ◌<◌, suc-le-suc}
use mathlib.Core.Path.{◌≡◌, refl, sym, ap, subst, ◌∙◌}
use mathlib.Core.Logic.{⊎_elim}
use mathlib.Core.Bool.{false}
use mathlib.Core.List.Memᴰ
use mathlib.Core.List.{List, [], ◌∷◌, Memᴰ}
use native.Mathlib.Omega.{arith}
use lib.ListN.{length, get_or}
use borrow.Author.Tests.{le-leb, lt-leb, lt-ltb, le-ltb}
use Rattle.kinds.specs.Numbering.{max_time}
use Rattle.kinds.specs.declared.Finish.{Finish}
use Rattle.kinds.proofs.Apart.{impossible}
use Rattle.theory.proofs.Cases.{by_lt, by_test}
use Rattle.table.proofs.Each.{stands_in}
use Rattle.jobs.specs.declared.Job.{Job}
use Rattle.jobs.specs.Places.{no_job}
use Rattle.jobs.specs.Turns.{no_finish, first_job, finish_at}
use Rattle.run.specs.declared.Run.{Run}
use Rattle.run.specs.Runs.{started}
use Rattle.run.specs.Ticking.{is_taken}
use Rattle.run.specs.ManyTicks.{finished_by, ticks}
use Rattle.run.proofs.Fresh.{started_is_sound}
use Rattle.run.proofs.Ticking.{Good, tick_taken, tick_idle, tick_busy}
use Rattle.logs.proofs.Logs as log
use Rattle.play.specs.Play.{begun}
use Rattle.play.specs.PlayLaws.{EveryRecordIsAccepted, FinishIsTheLastUnit, FinishesRise, LateIsTheSum, LogReadsBack, OneRecordEach, SerialsCount}
use Rattle.play.specs.LogRecords.{RecordOf, AskedFor, GotItsLastUnit, OfWhole}
use Rattle.play.specs.LogRecords.{OnItsWay}
use Rattle.play.proofs.SingleTicks.{first_sound, ticks_keep, tick_clock}
use Rattle.play.proofs.OnItsWay.{on_its_way_first, on_its_way_ticked, on_its_way_released}
use Rattle.play.proofs.KeptThroughout.{Keeps, kept_through, was_started}
use Rattle.play.proofs.ThreeChanges.{kept_by_moves}
use Rattle.play.proofs.Lateness.{due_before, LateSoFar, late_so_far}
use Rattle.play.proofs.Conservation.{Recorded, NoneLost, none_lost}
use Rattle.play.proofs.InOrder.{Counted, accepted_counted, Rising, finishes_rising}
use Rattle.play.proofs.Asked.{all_asked}

-- ---- jobs late

pub late_is_the_sum : LateIsTheSum
unfolding due_before
late_is_the_sum t s p table script e =
    let end = kept_by_moves LateSoFar late_so_far t s p table e in
    omega (arith, rw end.1 at end.0)

-- ---- what was accepted

pub every_record_is_accepted : EveryRecordIsAccepted
every_record_is_accepted t s p table script e =
    let all = all_asked (length s) s 0 (begun (started t).run) p script (omega arith) (omega arith) (started_is_sound t table) (was_started t s p e) in
    (all.records, all.are_read, subst (AskedFor 0 all.records) (sym all.all_accepted) all.are_asked_for)

pub serials_count : SerialsCount
serials_count t s p table script e = (kept_by_moves Counted accepted_counted t s p table e).0.1

-- ---- the log

-- Every tick and every accepted release keeps what holds for a play on its way.
on_its_way : Keeps (λ p. OnItsWay p.so_far)
unfolding ticks
on_its_way = record {
  tick = λ p good in_time way. on_its_way_ticked way (ticks_keep p.so_far 1 good (omega arith));
  release = λ p row cost a good e way. on_its_way_released p.so_far row cost a e way;
}

-- What holds for a play on its way holds at its end.
way_to_the_end : OfWhole λ t s p. OnItsWay p.so_far × (p.so_far.run.pending.count ≡ 0)
way_to_the_end t s p table script e =
    let first = on_its_way_first (started t).run (started_is_sound t table) refl refl in
    let end = kept_through (λ p. OnItsWay p.so_far) on_its_way t s p table first e in
    (end.kept, end.nothing_pending)

-- An element of a list stands at some place of it.
pub place_of : {A : Type 0} {a : A} {l : List A} (d : A) → Memᴰ a l → (k : ℕ) × (k < length l) × (a ≡ get_or l k d)
place_of d (Memᴰ.head e) = (0, omega arith, e)
place_of d (Memᴰ.tail m) = let rest = place_of d m in (suc rest.0, suc-le-suc rest.1, rest.2)

pub one_record_each : OneRecordEach
one_record_each t s p table script e =
    let counted = (kept_by_moves Counted accepted_counted t s p table e).0 in
    let way = way_to_the_end t s p table script e in
    let lost = kept_by_moves NoneLost none_lost t s p table e in (
      omega (arith, way.0.all_there, way.1, counted.0),
      λ i h.
          ⊎_elim (λ w. absurd (Memᴰ.not-nil (rw lost.1 at w.1)))
          (λ (r : Recorded p.so_far.finishes (get_or p.accepted i no_job)).
          let k = place_of no_finish r.1 in (k.0, k.1, rw k.2 at r.2))
          (lost.0 (get_or p.accepted i no_job) (stands_in p.accepted i no_job h)),
    )

pub finishes_rise : FinishesRise
finishes_rise t s p table script e = (kept_by_moves Rising finishes_rising t s p table e).0.rising

pub log_reads_back : LogReadsBack
log_reads_back t s p table script e =
    let in_range = (way_to_the_end t s p table script e).0.in_range in
    (in_range, log.spelled_log_reads_back p.so_far.finishes in_range)

-- ---- one tick

-- A record that is a job's and has a finish is the record of that job at that finish.
its_record : (j : Job) (f : Finish) (clock : ℕ) → RecordOf j f → f.finish.0 ≡ clock → finish_at clock j ≡ f
its_record j f clock r e = rw (← r.serial, ← r.row, ← r.release, ← r.due, ← e)

module _ (run : Run) (f : Finish) (good : Good run) (in_time : run.clock.0 < max_time) where
  abbrev first : Job
  first = first_job run.pending

  -- Where the job that goes first has one unit left, the tick finishes it.
  last_unit : is_taken run ≡ false → 1 ≤ run.pending.count → first.left ≤ 1 → finished_by run ≡ finish_at (run.clock.0 + 1) first ∷ []
  last_unit free some last = rw (free, lt-ltb 0 run.pending.count some, le-leb first.left 1 last)

  to_last_unit : finished_by run ≡ f ∷ [] → GotItsLastUnit run f
  to_last_unit e =
      by_test (is_taken run)
      (λ taken. let nothing = rw taken at e in impossible cc)
      (λ free. by_lt 0 run.pending.count
      (λ some. by_lt 1 first.left
      (λ more. absurd (let none = rw (free, lt-ltb 0 run.pending.count some, lt-leb first.left 1 more) at e in
      impossible cc))
      (λ last.
      let its : f ≡ finish_at (run.clock.0 + 1) first = let one = last_unit free some last in cc in
      let sound = first_sound run good some in
      rw its (record {
        answered = rw (tick_busy run good.0 in_time free some, le-leb first.left 1 last);
        one_left = omega (arith, sound.some_left);
        its_own = record { serial = refl; row = refl; release = refl; due = refl; after_release = omega (arith, sound.released) };
        at_the_clock = sym (tick_clock run good in_time);
      })))
      (λ none. let nothing = rw (free, le-ltb 0 run.pending.count none) at e in impossible cc))

  from_last_unit : GotItsLastUnit run f → finished_by run ≡ f ∷ []
  from_last_unit l =
      by_test (is_taken run)
      (λ taken. absurd (let nothing = rw (tick_taken run good.0 in_time taken) at l.answered in
      impossible cc))
      (λ free. by_lt 0 run.pending.count
      (λ some.
      let clock : f.finish.0 ≡ run.clock.0 + 1 = l.at_the_clock ∙ tick_clock run good in_time in
      last_unit free some (omega (arith, l.one_left)) ∙ ap (λ (g : Finish). g ∷ []) (its_record first f (run.clock.0 + 1) l.its_own clock))
      (λ none. absurd (let nothing = rw (tick_idle run good.0 in_time free (omega arith)) at l.answered in
      impossible cc)))

pub finish_is_the_last_unit : FinishIsTheLastUnit
finish_is_the_last_unit run f whole sound in_time = (to_last_unit run f (sound, whole) in_time, from_last_unit run f (sound, whole) in_time)
