-- What single ticks, and many ticks in a row, keep of a play. (docs/RULES.md, sections 6.10 to 6.17, 8.2 and 8.3.)
use Prim.Native.Nat.{ℕ, zero, suc, ◌+◌, ◌≤◌, ◌<◌}
use mathlib.Core.Path.{◌≡◌, refl, sym, ap, ◌∙◌}
use mathlib.Core.Logic.{⊎_elim}
use mathlib.Core.Bool.{Bool, true, false, cond}
use mathlib.Core.List.Memᴰ
use mathlib.Core.List.{List, [], ◌∷◌, ◌++◌}
use native.Mathlib.Nat.{add-zero}
use native.Mathlib.Omega.{arith}
use lib.Dec.{eqb}
use lib.ListN.{length, get_or, length-append, length-set}
use borrow.Author.Tests.{le-leb, lt-ltb, le-ltb, eq-eqb}
use Rattle.theory.proofs.Cases.{by_lt, by_test}
use Rattle.kinds.specs.Numbering.{max_time}
use Rattle.kinds.specs.declared.Finish.{Finish}
use Rattle.numbers.specs.Spelling.{max_number}
use Rattle.table.proofs.Each.{Each}
use Rattle.jobs.specs.declared.Job.{Job}
use Rattle.jobs.specs.Places.{no_job, jobs_of, used}
use Rattle.jobs.specs.Choice.{first_place}
use Rattle.jobs.specs.Units.{last_unit, worked}
use Rattle.jobs.specs.Turns.{first_job, finish_at}
use Rattle.jobs.specs.JobChanges.{unit_at}
use Rattle.jobs.proofs.Changes.{first_is_there, place_holds_job, without_is_one_less}
use Rattle.run.specs.declared.Run.{Run}
use Rattle.run.specs.Sound.{SoundJob}
use Rattle.run.specs.Ticking.{run_with, is_taken, ticked}
use Rattle.run.specs.ManyTicks.{finished_by, SoFar, one_more_tick, ticks, ticks_while_pending}
use Rattle.run.proofs.Ticking.{Good, facts, counted, tick_taken, tick_idle, tick_busy, tick_keeps_good, tick_gives_one_unit}
use Rattle.logs.specs.Log.{values_of, all_in_range}
use Rattle.logs.specs.SpelledLogs.{EachInRange}
use Rattle.play.specs.LogRecords.{SmallNumbers}

-- ---- one tick

-- A list that has one element where a test says yes, and none otherwise, has the length 1 or 0.
length_if : {A : Type 0} (test : Bool) (x : A) → length (cond test (x ∷ []) []) ≡ cond test 1 0
length_if true x = refl
length_if false x = refl

module _ (run : Run) (good : Good run) where
  -- `js` are the pending jobs, and `first` is the place of the job that goes first.
  abbrev js : List Job
  js = jobs_of run.pending

  abbrev first : ℕ
  first = first_place js

  -- A unit that is a job's last makes the pending jobs one fewer, and any other unit leaves their number as it is.
  unit_takes : first < length js → length (unit_at js first) + cond (last_unit (get_or js first no_job)) 1 0 ≡ length js
  unit_takes h = by_test (last_unit (get_or js first no_job))
      (λ last. rw last (without_is_one_less js first h))
      (λ more. rw more (omega (arith, length-set js first (worked (get_or js first no_job)))))

  module _ (some : 1 ≤ run.pending.count) where
    -- The job that goes first is pending.
    pub first_there : first < used run.pending
    first_there = first_is_there run.pending (omega (arith, counted run good))

    pub first_is_pending : first_job run.pending ≡ get_or js first no_job
    first_is_pending = place_holds_job run.pending first first_there

    -- The job that goes first is sound.
    pub first_sound : SoundJob run.table run.clock.0 run.next.0 (first_job run.pending)
    first_sound = rw first_is_pending ((facts run good).jobs first first_there)

  module _ (in_time : run.clock.0 < max_time) where
    -- A job that a tick finishes is no longer pending, and all others are.
    pub tick_conserves : length (finished_by run) + (ticked run).run.pending.count ≡ run.pending.count
    tick_conserves = by_test (is_taken run)
        (λ taken. rw (taken, tick_taken run good.0 in_time taken) (omega arith))
        (λ free. by_lt 0 run.pending.count
        (λ some.
        let given = tick_gives_one_unit run good.1 good.0 in_time free some in
        let left : length (unit_at js first) ≡ (ticked run).run.pending.count = rw (← given) (counted (ticked run).run (tick_keeps_good run good)) in
        rw (free, lt-ltb 0 run.pending.count some, first_is_pending some, length_if)
        (omega (arith, counted run good, unit_takes (first_there some))))
        (λ none. rw (free, le-ltb 0 run.pending.count none, tick_idle run good.0 in_time free (omega arith)) (omega arith)))

    -- Where no job was ended early, the numbers of a job that finishes are small: its serial is below the sum of the clock and the number of pending jobs.
    finish_small : run.ended ≡ 0 → 1 ≤ run.pending.count → SmallNumbers (finish_at (run.clock.0 + 1) (first_job run.pending))
    finish_small none some =
        let s = first_sound some in
        let known = facts run good in
        record {
          serial = omega (arith, known.serials, known.few_pending);
          row = omega (arith, known.few_rows, known.few_servers);
          release = omega arith;
          due = s.due_in_time;
          finish = omega arith;
        }

    -- The numbers of a job that finishes have spellings, whether jobs were ended early or not.
    finish_in_range : 1 ≤ run.pending.count → all_in_range (values_of (finish_at (run.clock.0 + 1) (first_job run.pending))) ≡ true
    finish_in_range some =
        let s = first_sound some in
        let known = facts run good in
        let j = first_job run.pending in
        rw (
          le-leb j.serial.0 max_number (omega (arith, known.serials, known.few_pending, known.few_ended)),
          le-leb j.row.0 max_number (omega (arith, known.few_rows, known.few_servers)),
          le-leb j.release.0 max_number (omega arith),
          le-leb j.due.0 max_number (omega (arith, s.due_in_time)),
          le-leb (run.clock.0 + 1) max_number (omega arith),
        )

    -- What holds for the record of the job that goes first holds for every job that a tick finishes.
    finished_each : (P : Finish → Type 0) → (1 ≤ run.pending.count → P (finish_at (run.clock.0 + 1) (first_job run.pending))) → Each P (finished_by run)
    finished_each P its f = by_test (is_taken run)
        (λ taken. rw taken (λ m. absurd (Memᴰ.not-nil m)))
        (λ free. rw free (by_lt 0 run.pending.count
        (λ some. rw (lt-ltb 0 run.pending.count some) (by_test (last_unit (first_job run.pending))
        (λ last. rw last (λ m. rw (Memᴰ.eq_of_singleton m) (its some)))
        (λ more. rw more (λ m. absurd (Memᴰ.not-nil m)))))
        (λ none. rw (le-ltb 0 run.pending.count none) (λ m. absurd (Memᴰ.not-nil m)))))

    pub finished_small : run.ended ≡ 0 → Each SmallNumbers (finished_by run)
    finished_small none = finished_each SmallNumbers (finish_small none)

    pub finished_in_range : EachInRange (finished_by run)
    finished_in_range = finished_each (λ f. all_in_range (values_of f) ≡ true) finish_in_range

    -- A tick takes the clock up by one, and apart from that changes only the pending jobs.
    tick_touches : (ticked run).run ≡ run_with run (run.clock.0 + 1) (ticked run).run.pending
    tick_touches = by_test (is_taken run)
        (λ taken. rw (tick_taken run good.0 in_time taken))
        (λ free. by_lt 0 run.pending.count
        (λ some. rw (tick_busy run good.0 in_time free some))
        (λ none. rw (tick_idle run good.0 in_time free (omega arith))))

    pub tick_clock : (ticked run).run.clock.0 ≡ run.clock.0 + 1
    tick_clock = ap (λ (r : Run). r.clock.0) tick_touches

    pub tick_table : (ticked run).run.table ≡ run.table
    tick_table = ap (λ (r : Run). r.table) tick_touches

    pub tick_next : (ticked run).run.next ≡ run.next
    tick_next = ap (λ (r : Run). r.next) tick_touches

    tick_kept : (ticked run).run.kept ≡ run.kept
    tick_kept = ap (λ (r : Run). r.kept) tick_touches

    tick_last : (ticked run).run.last ≡ run.last
    tick_last = ap (λ (r : Run). r.last) tick_touches

    pub tick_ended : (ticked run).run.ended ≡ run.ended
    tick_ended = ap (λ (r : Run). r.ended) tick_touches

-- ---- many ticks

-- If every tick of a sound run with its clock below 2^40 keeps a property, many ticks keep it.
module _ (P : SoFar → Type 0) (one_more : (s : SoFar) → Good s.run → s.run.clock.0 < max_time → P s → P (one_more_tick s)) where
  pub along_ticks : (n : ℕ) (s : SoFar) → Good s.run → s.run.clock.0 + n ≤ max_time → P s → P (ticks n s)
  unfolding ticks
  along_ticks zero s good room p = p
  along_ticks (suc n) s good room p =
      along_ticks n (one_more_tick s) (tick_keeps_good s.run good) (omega (arith, tick_clock s.run good (omega arith))) (one_more s good (omega arith) p)

  -- Ticks that end when nothing is pending keep the property too.
  pub along_draining : (n : ℕ) (s : SoFar) → Good s.run → s.run.clock.0 + n ≤ max_time → P s → P (ticks_while_pending n s)
  unfolding ticks_while_pending
  along_draining zero s good room p = p
  along_draining (suc n) s good room p = by_test (eqb s.run.pending.count 0)
      (λ none. rw none p)
      (λ some. rw some
      (along_draining n (one_more_tick s) (tick_keeps_good s.run good) (omega (arith, tick_clock s.run good (omega arith))) (one_more s good (omega arith) p)))

-- If every record of two lists has a property, every record of both lists together has it.
pub each_behind : {P : Finish → Type 0} (fs gs : List Finish) → Each P fs → Each P gs → Each P (fs ++ gs)
each_behind fs gs a b f m = ⊎_elim (a f) (b f) (Memᴰ.append_cases fs m)

-- What ticks keep: the run is still sound, with the same table, next serial, kept due times and last due times. Every job that was pending is still pending or
-- has finished. The numbers of all finished jobs have spellings.
pub record TicksFrom (s t : SoFar) : Type 0 where
  pub good : Good t.run
  pub same_table : t.run.table ≡ s.run.table
  pub same_next : t.run.next ≡ s.run.next
  pub same_kept : t.run.kept ≡ s.run.kept
  pub same_last : t.run.last ≡ s.run.last
  pub conserved : length t.finishes + t.run.pending.count ≡ length s.finishes + s.run.pending.count
  pub in_range : EachInRange s.finishes → EachInRange t.finishes

module _ (s : SoFar) where
  pub no_ticks : Good s.run → TicksFrom s s
  no_ticks good = record { good = good; same_table = refl; same_next = refl; same_kept = refl; same_last = refl; conserved = refl; in_range = λ r. r }

  one_tick_more : (t : SoFar) → Good t.run → t.run.clock.0 < max_time → TicksFrom s t → TicksFrom s (one_more_tick t)
  one_tick_more t good in_time before = record {
    good = tick_keeps_good t.run good;
    same_table = tick_table t.run good in_time ∙ before.same_table;
    same_next = tick_next t.run good in_time ∙ before.same_next;
    same_kept = tick_kept t.run good in_time ∙ before.same_kept;
    same_last = tick_last t.run good in_time ∙ before.same_last;
    conserved = omega (arith, tick_conserves t.run good in_time, before.conserved, length-append t.finishes (finished_by t.run));
    in_range = λ r. each_behind t.finishes _ (before.in_range r) (finished_in_range t.run good in_time);
  }

  pub one_tick_keeps : Good s.run → s.run.clock.0 < max_time → TicksFrom s (one_more_tick s)
  one_tick_keeps good in_time = one_tick_more s good in_time (no_ticks good)

  module _ (n : ℕ) (good : Good s.run) (room : s.run.clock.0 + n ≤ max_time) where
    pub ticks_keep : TicksFrom s (ticks n s)
    ticks_keep = along_ticks (TicksFrom s) one_tick_more n s good room (no_ticks good)

    pub draining_keeps : TicksFrom s (ticks_while_pending n s)
    draining_keeps = along_draining (TicksFrom s) one_tick_more n s good room (no_ticks good)

-- n ticks take the clock up by n.
pub clock-ticks : (n : ℕ) (s : SoFar) → Good s.run → s.run.clock.0 + n ≤ max_time → (ticks n s).run.clock.0 ≡ s.run.clock.0 + n
unfolding ticks
clock-ticks zero s good room = sym (add-zero s.run.clock.0)
clock-ticks (suc n) s good room =
    let one = tick_clock s.run good (omega arith) in
    omega (arith, clock-ticks n (one_more_tick s) (tick_keeps_good s.run good) (omega arith))

-- Where nothing is pending, ticks that end when nothing is pending change nothing.
pub no_more : (n : ℕ) (s : SoFar) → s.run.pending.count ≡ 0 → ticks_while_pending n s ≡ s
unfolding ticks_while_pending
no_more zero s e = refl
no_more (suc n) s e = rw (eq-eqb s.run.pending.count 0 e)
