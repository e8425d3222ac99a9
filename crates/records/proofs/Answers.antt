-- What the tests of a record say: what each answer says, that none is numbered 0, and that different answers say different things. (docs/RULES.md, section 10.)
use Rattle.std.specs.Prelude.{Result, Ok, Err}
use Rattle.kinds.specs.declared.RefusedAt.{RefusedAt}
use mathlib.Core.Path.{◌≡◌, refl, ap, ap₂, subst, ◌∙◌}
use Rattle.kinds.specs.Numbering.{NeverNumberedZero, SaysApart, numbered}
use Rattle.kinds.proofs.Apart.{impossible}
use Rattle.kinds.proofs.Numbering.{never_zero, said_in, refusals_apart, plain_refusals_apart}
use Rattle.records.specs.declared.Ready.{Ready}
use Rattle.records.specs.declared.Asked.{Asked}
use Rattle.records.specs.Numbers.{tested_by}
use Rattle.records.specs.TestLaws.{TestReadyMeans, TestRefusedMeans}
use Rattle.records.specs.Answers.{TestReadySays, RecordReadySays, RecordRefusedSays, TestRefusedSays, TestsNeverZero, TestsSaidApart}
use Rattle.records.specs.Answers.{tested_says, record_tested_says}
use Rattle.records.specs.PassedTests.{NumbersRefused}
use Rattle.records.proofs.Tests.{TestedSo, tests_mean, passed_ready, refused_so}

-- ---- what is said

pub test_ready_says : TestReadySays
test_ready_says time row cost next = refl

pub test_refused_says : TestRefusedSays
test_refused_says r place = refl

pub record_ready_says : RecordReadySays
record_ready_says time row cost = refl

pub record_refused_says : RecordRefusedSays
record_refused_says r = refl

tested_never_zero : NeverNumberedZero tested_says
tested_never_zero (Ok r) = tt
tested_never_zero (Err r) = never_zero r.refusal

record_never_zero : NeverNumberedZero record_tested_says
record_never_zero (Ok a) = tt
record_never_zero (Err r) = never_zero r

pub tests_never_zero : TestsNeverZero
tests_never_zero = (tested_never_zero, record_never_zero)

-- Two releases with the same time, row number, cost and next place are the same.
same_ready : (a b : Ready) → a.time.0 ≡ b.time.0 → a.row.0 ≡ b.row.0 → a.cost ≡ b.cost → a.next ≡ b.next → a ≡ b
same_ready a b time row cost next = rw (time, row, cost, next)

same_asked : (a b : Asked) → a.time.0 ≡ b.time.0 → a.row.0 ≡ b.row.0 → a.cost ≡ b.cost → a ≡ b
same_asked a b time row cost = rw (time, row, cost)

tested_apart : SaysApart tested_says
tested_apart (Ok a) (Ok b) e = ap Ok (same_ready a b (cc) (cc) (cc) (cc))
tested_apart (Ok a) (Err r) e = impossible cc
tested_apart (Err q) (Ok b) e = impossible cc
tested_apart (Err q) (Err r) e = ap Err (refusals_apart q r e)

record_apart : SaysApart record_tested_says
record_apart (Ok a) (Ok b) e = ap Ok (same_asked a b (cc) (cc) (cc))
record_apart (Ok a) (Err r) e = impossible cc
record_apart (Err q) (Ok b) e = impossible cc
record_apart (Err q) (Err r) e = ap Err (plain_refusals_apart q r e)

pub tests_said_apart : TestsSaidApart
tests_said_apart = (tested_apart, record_apart)

-- ---- when it is said

pub test_ready_means : TestReadyMeans
test_ready_means limits time n r = (
  λ e. subst (TestedSo limits time n) (tested_apart (tested_by limits time n) (Ok r) e) (tests_mean limits time n),
  λ w. ap tested_says (passed_ready limits time n w),
)

pub test_refused_means : TestRefusedMeans
test_refused_means limits time n k place = (by_answer (tested_by limits time n) (tests_mean limits time n), from)
  where
    by_answer : (v : Result Ready RefusedAt) → TestedSo limits time n v → tested_says v ≡ numbered (record { number = k; first = place; second = 0 })
        → NumbersRefused limits time n k place
    by_answer (Ok r) so e = impossible cc
    by_answer (Err r) so e = rw (ap (λ a. (said_in a).number) e, ap (λ a. (said_in a).first) e) at so

    from : NumbersRefused limits time n k place → tested_says (tested_by limits time n) ≡ numbered (record { number = k; first = place; second = 0 })
    from so =
        let found = refused_so limits time n so in
        ap tested_says found.1 ∙ ap₂ (λ number first. numbered (record { number = number; first = first; second = 0 })) found.2 found.3
