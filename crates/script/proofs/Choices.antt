-- What the chooser says about two scripts, by what each begins with and the time that each has reached. (docs/RULES.md, section 7.)
use Rattle.std.specs.Prelude.{Option, Some, None, Result, Ok, Err}
use Prim.Native.Nat.{ℕ}
use native.Mathlib.Omega.{arith}
use mathlib.Core.Path.{◌≡◌, refl, ap, ◌∙◌}
use mathlib.Core.List.{List}
use Rattle.kinds.specs.Numbering.{refused_says}
use Rattle.kinds.specs.declared.RefusedAt.{RefusedAt}
use Rattle.script.specs.declared.RecordAt.{RecordAt}
use Rattle.script.specs.declared.Which.TheVariants as which
use Rattle.script.specs.Records.{record_at}
use Rattle.script.specs.Chooser.{refused_in, earlier_of, comes_next, chosen}
use Rattle.script.specs.Answers.{chosen_says}
use Rattle.script.specs.TwoScripts.{BeginsWith, HasEnded, TwoRecords}
use Rattle.script.specs.ChooserLaws.{FirstUnlessLater, FirstAtEqualTimes, SecondIfEarlier}
use Rattle.script.specs.ChooserLaws.{FirstAlone, SecondAlone, BothEnded, TooLateInFirst, TooLateInSecond, RefusedInFirst, RefusedInSecond}
use Rattle.script.proofs.Chooser.{first_earlier, second_earlier, first_too_late, second_too_late, by_records}
use Rattle.script.proofs.Answers.{scripts_said_apart, refused_record}

-- What the record reader says about the first record tells which record it is.
begins : (s : List ℕ) (a : RecordAt) → BeginsWith s a → record_at s 0 ≡ Ok (Some a)
begins s a e = scripts_said_apart.0 (record_at s 0) (Ok (Some a)) e

-- Where the record reader says no value at the start, the script has ended.
ends : (s : List ℕ) → HasEnded s → record_at s 0 ≡ Ok None
ends s e = scripts_said_apart.0 (record_at s 0) (Ok None) e

-- Where each script begins with a record, the choice is the earlier of the two.
earlier_of_two : (s₁ s₂ : List ℕ) (time₁ time₂ : ℕ) (a b : RecordAt) → TwoRecords s₁ s₂ time₁ time₂ a b → chosen s₁ s₂ time₁ time₂ ≡ earlier_of a b time₁ time₂
earlier_of_two s₁ s₂ time₁ time₂ a b t = by_records s₁ s₂ time₁ time₂ t.first_time t.second_time (begins s₁ a t.first) (begins s₂ b t.second)

pub first_unless_later : FirstUnlessLater
first_unless_later s₁ s₂ time₁ time₂ a b t h = ap chosen_says (earlier_of_two s₁ s₂ time₁ time₂ a b t ∙ first_earlier a b time₁ time₂ h)

pub first_at_equal_times : FirstAtEqualTimes
first_at_equal_times s₁ s₂ time₁ time₂ a b t e = first_unless_later s₁ s₂ time₁ time₂ a b t (omega arith)

pub second_if_earlier : SecondIfEarlier
second_if_earlier s₁ s₂ time₁ time₂ a b t h = ap chosen_says (earlier_of_two s₁ s₂ time₁ time₂ a b t ∙ second_earlier a b time₁ time₂ h)

pub first_alone : FirstAlone
first_alone s₁ s₂ time₁ time₂ a h k p q = ap chosen_says (by_records s₁ s₂ time₁ time₂ h k (begins s₁ a p) (ends s₂ q))

pub second_alone : SecondAlone
second_alone s₁ s₂ time₁ time₂ b h k p q = ap chosen_says (by_records s₁ s₂ time₁ time₂ h k (ends s₁ p) (begins s₂ b q))

pub both_ended : BothEnded
both_ended s₁ s₂ time₁ time₂ h k p q = ap chosen_says (by_records s₁ s₂ time₁ time₂ h k (ends s₁ p) (ends s₂ q))

pub too_late_in_first : TooLateInFirst
too_late_in_first s₁ s₂ time₁ time₂ h = ap chosen_says (first_too_late s₁ s₂ time₁ time₂ h)

pub too_late_in_second : TooLateInSecond
too_late_in_second s₁ s₂ time₁ time₂ h k = ap chosen_says (second_too_late s₁ s₂ time₁ time₂ h k)

pub refused_in_first : RefusedInFirst
refused_in_first s₁ s₂ time₁ time₂ said h k p =
    refused_record (record_at s₁ 0) said p λ r is says.
    ap chosen_says (by_records s₁ s₂ time₁ time₂ h k is refl) ∙ rw says

-- Where the first script's record is not refused, the refusal of the second script's is the answer.
second_refusal : (one : Result (Option RecordAt) RefusedAt) (r : RefusedAt) (time₁ time₂ : ℕ) → ((q : RefusedAt) → one ≡ Err q → ⊥)
    → comes_next one (Err r) time₁ time₂ ≡ refused_in which.Second r
second_refusal (Ok found) r time₁ time₂ n = refl
second_refusal (Err q) r time₁ time₂ n = absurd (n q refl)

pub refused_in_second : RefusedInSecond
refused_in_second s₁ s₂ time₁ time₂ said h k none p =
    refused_record (record_at s₂ 0) said p λ r is says.
    let not_first : (q : RefusedAt) → record_at s₁ 0 ≡ Err q → ⊥ = λ q e. none (refused_says q) (rw e) in
    ap chosen_says (by_records s₁ s₂ time₁ time₂ h k refl is ∙ second_refusal (record_at s₁ 0) r time₁ time₂ not_first) ∙ rw says
