use Prim.Native.Nat.{◌+◌, ◌-◌}
use mathlib.Core.Path.{sym, ◌∙◌}
use native.Mathlib.Omega.{arith}
use lib.ListN.{length, drop, length-drop}
use Rattle.std.proofs.lemmas.List.{take_all}
use Rattle.jobs.proofs.Serials.{distinct_next}
use Rattle.jobs.proofs.distinct.all_distinct.Goals as goal

pub loop-i-preserved : goal.loop-i-preserved
loop-i-preserved c =
    let js = c.args.jobs.now in
    let next = c.loop-i.i + 1 in
    let all = take_all (length js - next) (drop next js) (omega (arith, length-drop next js)) in
    sym (distinct_next js c.loop-i.i c.loop-i-test.true (rw all at (sym c.if-not-has_not.false ∙ c.has_not.ensures))) ∙ c.loop-i.invariant
