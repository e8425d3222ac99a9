-- A play that comes to its end has accepted exactly the jobs that the script's records ask for, each at its record's script time. (docs/RULES.md, section 8.2.)
use Prim.Native.Nat.{ℕ, zero, suc, ◌+◌, ◌-◌, ◌≤◌, ◌<◌}
use mathlib.Core.Path.{◌≡◌, refl, sym, ap, ◌∙◌}
use mathlib.Core.List.{List, [], ◌∷◌, ◌++◌, append-nil, append_assoc}
use native.Mathlib.Omega.{arith}
use lib.ListN.{length}
use Rattle.kinds.specs.declared.Tick.{Tick}
use Rattle.numbers.specs.SpelledNumbers.{Bytes}
use Rattle.jobs.specs.declared.Job.{Job}
use Rattle.run.specs.declared.Run.{Run}
use Rattle.run.specs.Release.{new_job, released}
use Rattle.run.proofs.Ticking.{Good}
use Rattle.run.proofs.Release.{each_release}
use Rattle.script.specs.declared.Record.{Record}
use Rattle.script.specs.SpelledScripts.{Reads, ended, then}
use Rattle.script.proofs.Scripts.{record_is_spelled, end_is_the_length}
use Rattle.records.specs.declared.Ready.{Ready}
use Rattle.records.specs.Numbers.{numbers_at}
use Rattle.play.specs.Play.{Progress, ticked_to, whole, final_ticks, played_from}
use Rattle.play.specs.LogRecords.{AskedFor}
use Rattle.play.proofs.SingleTicks.{clock-ticks}
use Rattle.records.proofs.ReadRecords.{passed_is_read}
use Rattle.play.proofs.KeptThroughout.{Keeps, Went, went_in_time, by_record, came_to_the_end, step_keeps}

-- A release leaves the clock as it is.
release_keeps_clock : (run : Run) (row cost : ℕ) → (released run row cost).run.clock ≡ run.clock
release_keeps_clock run row cost = each_release run row cost (λ step. step.run.clock ≡ run.clock) (λ r. refl) (λ t passed given. refl)

-- Between `p` and `q` the play accepted exactly the jobs that the script's records ask for from the place `at` on.
pub record AskedFrom (s : List ℕ) (at : ℕ) (p q : Progress) : Type 0 where
  pub records : List Record
  pub jobs : List Job
  pub are_read : Reads s at records
  pub are_asked_for : AskedFor p.so_far.run.clock.0 records jobs
  pub all_accepted : q.accepted ≡ p.accepted ++ jobs

-- At the script's end no record is left, and the final ticks accept no job.
none_asked : (s : List ℕ) (at : ℕ) (p q : Progress) → at ≡ length s → final_ticks (length s) p ≡ whole q → AskedFrom s at p q
none_asked s at p q end e = record {
  records = [];
  jobs = [];
  are_read = ended ((end_is_the_length s at).1 end);
  are_asked_for = tt;
  all_accepted = ap (λ (m : Progress). m.accepted) (sym (came_to_the_end (length s) p q e).0) ∙ sym (append-nil p.accepted);
}

-- A record that the play goes on after is put before the records that come later.
module _ (s : List ℕ) (at : ℕ) (inside : at < length s) (p m : Progress) (next : ℕ) (good : Good p.so_far.run) (w : Went p (numbers_at s at) m next) where
  -- `reached` is the play after the ticks until the record's script time.
  abbrev reached : Progress
  reached = ticked_to w.ready.time.0 p

  at_its_time : reached.so_far.run.clock.0 ≡ p.so_far.run.clock.0 + w.passed.gap.value
  at_its_time =
      let many = w.ready.time.0 - p.so_far.run.clock.0 in
      let time : w.ready.time.0 ≡ p.so_far.run.clock.0 + w.passed.gap.value = ap (λ (r : Ready). r.time.0) w.passed.asks_for in
      omega (arith, clock-ticks many p.so_far good (omega (arith, went_in_time w)))

  -- The release leaves the clock at the record's script time.
  stays_there : m.so_far.run.clock.0 ≡ p.so_far.run.clock.0 + w.passed.gap.value
  stays_there = rw w.reached (ap (λ (t : Tick). t.0) (release_keeps_clock reached.so_far.run w.ready.row.0 w.ready.cost) ∙ at_its_time)

  one_asked : (q : Progress) → AskedFrom s next m q → AskedFrom s at p q
  one_asked q rest = record {
    records = record { gap = w.passed.gap.value; row = w.ready.row; cost = w.ready.cost } ∷ rest.records;
    jobs = new_job reached.so_far.run w.ready.row.0 w.ready.cost w.answer.due ∷ rest.jobs;
    are_read = then _ (passed_is_read s at inside w.passed) (rw w.goes_on_after at rest.are_read);
    are_asked_for = (refl, refl, at_its_time, rw stays_there at rest.are_asked_for);
    all_accepted = rest.all_accepted ∙ ap (λ (o : Progress). o.accepted ++ rest.jobs) w.reached ∙ append_assoc p.accepted _ rest.jobs;
  }

-- The property that always holds is kept by every tick and release. With it, `step_keeps` says that the run stays sound.
nothing_more : Keeps (λ p. Unit {0})
nothing_more = record { tick = λ p good in_time u. tt; release = λ p row cost a good e u. tt }

-- Where a play from a place on comes to its end, all records from there on were accepted.
pub all_asked : (n : ℕ) (s : List ℕ) (at : ℕ) (p q : Progress) → Bytes s → at ≤ length s → length s ≤ at + n → Good p.so_far.run
    → played_from n s at p ≡ whole q → AskedFrom s at p q
unfolding played_from
all_asked zero s at p q bytes before enough good e = none_asked s at p q (omega arith) e
all_asked (suc n) s at p q bytes before enough good e =
    by_record n s at p q e (λ end f. none_asked s at p q end f)
    (λ more m next w rest.
    let inside : at < length s = omega arith in
    let read = passed_is_read s at inside w.passed in
    let spelled = record_is_spelled s at _ bytes read in
    let further : (at < next) × (next ≤ length s) = rw w.goes_on_after (spelled.forward, spelled.within) in
    let good_there = (step_keeps (λ o. Unit {0}) nothing_more p (numbers_at s at) m next w (tt, good)).1 in
    one_asked s at inside p m next good w q (all_asked n s next m q bytes further.1 (omega arith) good_there rest))
