-- What the record writer says: a length exactly where the record was written, and 25 or 12 exactly where it was refused. (docs/RULES.md, section 8.)
use Rattle.std.specs.Prelude.{Ok, Err}
use mathlib.Core.Path.{sym, ap, ◌∙◌}
use mathlib.Core.List.{[], ◌∷◌}
use native.Mathlib.Omega.{arith}
use Rattle.kinds.specs.Numbering.{values}
use Rattle.kinds.specs.declared.Refusal.TheVariants.{NumberTooBig, NoRoom}
use Rattle.numbers.specs.Answers.{written_says}
use Rattle.numbers.proofs.Answers.{numbers_said_apart}
use Rattle.logs.specs.Log.{written_record}
use Rattle.logs.specs.LogLaws.{RecordWritten, RecordRefusals}
use Rattle.logs.proofs.Records.{answers_length}
use Rattle.logs.proofs.Logs as case

pub record_written : RecordWritten
record_written f room took = (
  λ e. case.record_written f room took (numbers_said_apart.1 (written_record f room) (Ok took) e),
  λ w. ap written_says (answers_length f room w.in_range (omega (arith, w.spelled, w.had_room))) ∙ ap (λ k. values (k ∷ [])) (sym w.spelled),
)

pub record_refusals : RecordRefusals
record_refusals f room =
    let same = numbers_said_apart.1 (written_record f room) in
    let exactly = case.record_refusals f room in (
      (λ e. exactly.0.0 (same (Err NumberTooBig) e), λ p. ap written_says (exactly.0.1 p)),
      (λ e. exactly.1.0 (same (Err NoRoom) e), λ p. ap written_says (exactly.1.1 p)),
    )
