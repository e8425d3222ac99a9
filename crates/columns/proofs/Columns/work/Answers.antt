-- `Columns::work` meets its contract. There are four cases: nothing is pending, no time is left, the first job needs more units than there are ticks, or it
-- finishes.
use borrow.Author.Rules.{rules}
use borrow.Author.Tests.{tests}
use Rattle.std.specs.Prelude.{None}
use Rattle.columns.specs.Columns.{columns}
use Rattle.columns.proofs.WorkContract.{WorkedAs, works_nothing, works_no_time, works_on, works_finished}
use Rattle.columns.proofs.Columns.work.Goals as goal
use Rattle.columns.proofs.Columns.work.Goals.{then-many-eq0-via-then-many-eq0, then-many-eq0-via-else-many-eq0+then-le}

idle : (c : goal.Joined-then-many-eq0)
    → let d = c.args.self.now in
    WorkedAs d c.args.clock c.args.until (columns d.serials d.rows d.releases d.dues d.left c.start_of-at.result c.min-many.result)
    (record { clock = c.args.clock; finished = None })
idle c =
    let a = c.args in
    let many = c.min-many in
    let at = c.start_of-at in
    elim c.then-many-eq0.branch [
      | then-many-eq0-via-then-many-eq0 w ↦ works_nothing a.self.now a.clock a.until many.result at.result many.ensures at.ensures w.if-many-eq0.true
      | then-many-eq0-via-else-many-eq0+then-le w ↦
          works_no_time a.self.now a.clock a.until many.result at.result many.ensures at.ensures w.if-many-eq0.false (search (rules, tests))
    ]

pub returns-then-many-eq0-clause-answer : goal.returns-then-many-eq0-clause-answer
returns-then-many-eq0-clause-answer c = (idle c).0

pub returns-then-many-eq0-clause-columns : goal.returns-then-many-eq0-clause-columns
returns-then-many-eq0-clause-columns c = (idle c).1

pub returns-then-ticks-units : goal.returns-then-ticks-units
returns-then-ticks-units c =
    let a = c.args in
    let many = c.min-many in
    let at = c.start_of-at in
    let both = works_on a.self.now a.clock a.until many.result at.result many.ensures at.ensures c.if-many-eq0.false (search (rules, tests))
    c.units_to_go-units.result c.units_to_go-units.ensures c.if-ticks-units.true in
    record { answer = both.0; columns = both.1 }

pub returns : goal.returns
returns c =
    let a = c.args in
    let many = c.min-many in
    let at = c.start_of-at in
    let both = works_finished a.self.now a.clock a.until many.result at.result many.ensures at.ensures c.if-many-eq0.false (search (rules, tests))
    c.units_to_go-units.result c.units_to_go-units.ensures c.if-ticks-units.false in
    record { answer = both.0; columns = both.1 }
