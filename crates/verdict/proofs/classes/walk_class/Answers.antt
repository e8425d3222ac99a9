-- `verdict::classes::walk_class` meets its contract: the lengths before `end` are walked along, and a look at `end` settles the later ones.
use Rattle.verdict.proofs.Searches.{none_before_best}
use Rattle.verdict.proofs.classes.walk_class.Goals as goal

pub returns-else-found-end : goal.returns-else-found-end
returns-else-found-end c =
    let p = c.requires in
    let a = c.args in
    none_before_best c.walk-found.ensures _ a.d a.part.now.line.period p.2 a.class.some_step p.0 p.1 c.settled_from-end.ensures c.if-found-end.false
