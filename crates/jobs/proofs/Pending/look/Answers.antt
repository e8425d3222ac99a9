use Prim.Native.Nat.{◌+◌, ◌≤◌}
use mathlib.Core.Path.{◌≡◌, sym, ◌∙◌}
use mathlib.Core.Bool.{true, false}
use native.Mathlib.Omega.{arith}
use borrow.Author.Rules.{rules}
use borrow.Author.Tests.{tests}
use lib.ListN.{drop}
use Rattle.jobs.specs.Places.{no_job}
use Rattle.jobs.specs.Late.{late_count}
use Rattle.jobs.proofs.First.{first_next}
use Rattle.jobs.proofs.Late.{late_next}
use Rattle.jobs.proofs.OneLook.{look_at_nobody, look_at_all}
use Rattle.jobs.proofs.Pending.look.Goals as goal
use Rattle.jobs.proofs.Pending.look.Goals.{else-goes_before, else-is_late, then-goes_before, then-is_late}

pub returns-then-is_empty : goal.returns-then-is_empty
returns-then-is_empty c = rw (← c.jobs-jobs.ensures) (look_at_nobody _ _ (search (rules, tests)))

pub loop-i-preserved : goal.loop-i-preserved
loop-i-preserved c =
    let k = c.loop-i in
    let js = c.jobs-jobs.result.now in
    let t = c.args.clock.0 in
    let inside = c.loop-i-test.true in
    let first = first_next js k.i k.place k.best no_job inside in
    let more = late_next js k.i t no_job inside in
    let goes = c.goes_before.ensures in
    let is_late = c.is_late.ensures in
    let bound : c.if-is_late.late ≤ k.i + 1 = elim c.if-is_late.branch [ then-is_late w ↦ omega arith | else-is_late w ↦ omega arith ] in
    let counted : c.if-is_late.late + late_count t (drop (k.i + 1) js) ≡ late_count t js =
    elim c.if-is_late.branch [ then-is_late w ↦ omega (arith, more true (sym is_late ∙ w.if-is_late.true)) | else-is_late w ↦ omega (arith, more false (sym is_late ∙ w.if-is_late.false)) ] in (
      elim c.if-goes_before.branch [ then-goes_before w ↦ rw (w.place-is, w.best-is) (sym (first true (sym goes ∙ w.if-goes_before.true)) ∙ k.invariant.0) | else-goes_before w ↦ rw (w.place-is, w.best-is) (sym (first false (sym goes ∙ w.if-goes_before.false)) ∙ k.invariant.0) ],
      elim c.if-goes_before.branch [ then-goes_before w ↦ rw (w.place-is, w.best-is) | else-goes_before w ↦ rw (w.place-is, w.best-is) k.invariant.1 ],
      bound,
      counted,
    )

pub returns : goal.returns
returns c =
    let k = c.loop-i in
    rw (← c.jobs-jobs.ensures)
    (look_at_all c.args.clock.0 c.jobs-jobs.result.now k.i k.place k.late k.best (search (rules, tests)) c.loop-i-test.false k.invariant.0 k.invariant.1 k.invariant.3)
