-- `probe::write_number` meets its contract: a spelling has at most six bytes, so its length fits the number that is returned.
use mathlib.Core.Path.{sym, ◌∙◌}
use native.Mathlib.Omega.{arith}
use Rattle.numbers.proofs.Spellings.{length_answered, spelling_length}
use Rattle.probe.proofs.write_number.Goals as goal

pub overflow_cast-result : goal.overflow_cast-result
overflow_cast-result c =
    let a = c.args in
    let e = c.write.ensures in
    omega (arith, length_answered a.number _ c.in-Ok.n (sym e.0 ∙ c.in-Ok.is), spelling_length a.number)
