use mathlib.Core.Path.{refl, sym, ◌∙◌}
use mathlib.Core.List.{flatten}
use native.Mathlib.Omega.{arith}
use Rattle.probe.proofs.Traces.{one_standing, all_standing}
use Rattle.probe.proofs.trace.Goals as goal

pub returns-then-shown-eq0 : goal.returns-then-shown-eq0
unfolding flatten
returns-then-shown-eq0 c = (sym c.if-shown-eq0.true ∙ c.answers_shown-shown.ensures, refl)

pub loop-i-preserved : goal.loop-i-preserved
loop-i-preserved c =
    rw (c.put_words-in-loop-i.ensures, c.play-step.ensures, c.of-call.ensures, c.word_at.ensures, c.word_at-in-loop-i.ensures, c.word_at-in-loop-i-2.ensures)
    (one_standing c.loop-i.invariant c.loop-i-test.true)

pub returns : goal.returns
returns c =
    let a = c.args in
    let shown = c.answers_shown-shown.ensures in
    let p = rw (c.put_words.ensures, c.start_words.ensures, c.start-started.ensures) at c.loop-i.invariant in
    (shown, all_standing a.table.now a.calls.now a.answers.now _ p c.loop-i-test.false (omega (arith, shown)))
