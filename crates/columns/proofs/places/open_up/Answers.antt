-- `columns::places::open_up` meets its contract: the entries are copied up by one place, and the value is stored over the first of them.
use native.Mathlib.Omega.{arith}
use Rattle.columns.proofs.Moving.{opened_over}
use Rattle.columns.proofs.places.open_up.Goals as goal

pub returns : goal.returns
returns c =
    let a = c.args in
    rw c.copy_within.ensures.after (opened_over a.values.now a.at a.end a.value c.requires.0 (omega arith))
