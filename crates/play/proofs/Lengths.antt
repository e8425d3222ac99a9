-- A log's numbers are small, and the log is at most ten times as long as its script. (docs/RULES.md, sections 8.8, 8.11 and 10.6.)
use Prim.Native.Nat.{ℕ, ◌*◌, ◌≤◌, ◌+◌}
use mathlib.Core.Path.{◌≡◌, refl, ap, ◌∙◌}
use mathlib.Core.List.{List, [], ◌∷◌, flatten}
use native.Mathlib.Omega.{arith}
use lib.ListN.{length, length-append}
use Rattle.kinds.specs.declared.Finish.{Finish}
use Rattle.numbers.proofs.Spellings.{spelling_length}
use Rattle.table.proofs.Each.{Each, stands_in, each_none}
use Rattle.jobs.specs.declared.Job.{Job}
use Rattle.jobs.specs.Turns.{no_finish}
use Rattle.run.specs.declared.Run.{Run}
use Rattle.run.specs.Release.{released}
use Rattle.run.proofs.Release.{each_release}
use Rattle.logs.specs.Log.{spelled_finish}
use Rattle.logs.specs.SpelledLogs.{spelled_log}
use Rattle.logs.proofs.Logs.{record_length}
use Rattle.script.specs.declared.Record.{Record}
use Rattle.script.specs.SpelledScripts.{spelled_script}
use Rattle.script.proofs.Scripts.{script_is_read}
use Rattle.play.specs.Play.{Progress}
use Rattle.play.specs.LogRecords.{AskedFor, SmallNumbers}
use Rattle.play.specs.PlayLaws.{LogHoldsSmallNumbers, LogIsShort}
use Rattle.play.proofs.SingleTicks.{finished_small, tick_ended, each_behind}
use Rattle.play.proofs.KeptThroughout.{Keeps, kept_through}
use Rattle.play.proofs.WholePlays.{every_record_is_accepted, one_record_each}

-- ---- its numbers

-- A release ends no job, whether it is accepted or refused.
release_ends_none : (run : Run) (row cost : ℕ) → (released run row cost).run.ended ≡ run.ended
release_ends_none run row cost = each_release run row cost (λ step. step.run.ended ≡ run.ended) (λ r. refl) (λ t passed given. refl)

-- The numbers of all records so far are small, and no job was ended early.
abbrev SmallSoFar : Progress → Type 0
SmallSoFar p = Each SmallNumbers p.so_far.finishes × (p.so_far.run.ended ≡ 0)

-- A tick adds only a record with small numbers, a release adds no record, and neither ends a job.
small_so_far : Keeps SmallSoFar
small_so_far = record {
  tick = λ p good in_time small. (
    each_behind p.so_far.finishes _ small.0 (finished_small p.so_far.run good in_time small.1),
    tick_ended p.so_far.run good in_time ∙ small.1,
  );
  release = λ p row cost a good e small. (small.0, release_ends_none p.so_far.run row cost ∙ small.1);
}

pub log_holds_small_numbers : LogHoldsSmallNumbers
log_holds_small_numbers t s p table script e i h =
    let end = kept_through SmallSoFar small_so_far t s p table (each_none SmallNumbers, refl) e in
    end.kept.0 _ (stands_in p.so_far.finishes i no_finish h)

-- ---- its length

-- A record of a log has at most 30 bytes.
log_at_most : (fs : List Finish) → length (spelled_log fs) ≤ 30 * length fs
unfolding flatten
log_at_most [] = omega arith
log_at_most (f ∷ fs) = omega (arith, length-append (spelled_finish f) (spelled_log fs), record_length f, log_at_most fs)

-- A record of a script has at least 3 bytes: its numbers have a byte each.
script_at_least : (rs : List Record) → 3 * length rs ≤ length (spelled_script rs)
unfolding flatten
script_at_least [] = omega arith
script_at_least (r ∷ rs) =
    let gap = spelling_length r.gap in
    let row = spelling_length r.row.0 in
    let cost = spelling_length r.cost in
    simp length-append (omega (arith, gap, row, cost, script_at_least rs))

-- Records ask for as many jobs as there are records.
one_job_each : (time : ℕ) (rs : List Record) (js : List Job) → AskedFor time rs js → length rs ≡ length js
one_job_each time [] [] asked = refl
one_job_each time [] (j ∷ js) asked = absurd asked
one_job_each time (r ∷ rs) [] asked = absurd asked
one_job_each time (r ∷ rs) (j ∷ js) asked = omega (arith, one_job_each (time + r.gap) rs js asked.3)

pub log_is_short : LogIsShort
log_is_short t s p table script e =
    let asked = every_record_is_accepted t s p table script e in
    let spelled : s ≡ spelled_script asked.0 = ((script_is_read s 0 asked.0 script).0 asked.1).stands_here in
    omega (
      arith,
      log_at_most p.so_far.finishes,
      (one_record_each t s p table script e).0,
      one_job_each 0 asked.0 p.accepted asked.2,
      script_at_least asked.0,
      ap length spelled,
    )
