-- `Pending::tick` meets its contract: nobody is found, or the job that the look found gets the unit.
use mathlib.Core.Path.{◌≡◌}
use native.Mathlib.Omega.{arith}
use Rattle.jobs.specs.Places.{jobs_of}
use Rattle.jobs.specs.Units.{after}
use Rattle.jobs.specs.Late.{late_count}
use Rattle.jobs.proofs.Turns.{nobody_gets_it, found, late_counted, first_gets_it}
use Rattle.jobs.proofs.Pending.tick.Goals as goal
use Rattle.jobs.proofs.Pending.tick.Goals.{else-finishes_when_due, then-finishes_when_due}

pub overflow_sub-late : goal.overflow_sub-late
overflow_sub-late c =
    let counted = late_counted c.args.self c.args.clock.0 c.look-look.result c.look-look.ensures c.in-Some.first c.in-Some.is _ c.finishes_when_due.ensures in
    let e = rw c.if-finishes_when_due.true at counted in
    omega (arith, e)

pub after-requires : goal.after-requires
after-requires c =
    let first = found c.args.self c.args.clock.0 c.look-look.result c.look-look.ensures c.in-Some.first c.in-Some.is in
    (first.inside, first.job)

pub returns-in-None : goal.returns-in-None
returns-in-None c = nobody_gets_it c.args.self c.args.clock.0 c.look-look.result c.look-look.ensures c.in-None.is

pub returns-after-finishes_when_due : goal.returns-after-finishes_when_due
returns-after-finishes_when_due c =
    let a = c.args in
    let l = c.look-look in
    let first = c.in-Some.first in
    let counted = late_counted a.self a.clock.0 l.result l.ensures first c.in-Some.is _ c.finishes_when_due.ensures in
    let late : c.if-finishes_when_due.late ≡ late_count a.clock.0 (jobs_of (after a.self first.place)) =
    elim c.if-finishes_when_due.branch [ then-finishes_when_due w ↦ omega (arith, rw w.if-finishes_when_due.true at counted) | else-finishes_when_due w ↦ omega (arith, rw w.if-finishes_when_due.false at counted) ] in
    rw c.ran_of.ensures (first_gets_it a.self a.clock.0 l.result l.ensures first c.in-Some.is c.after.result _ c.after.ensures late)
