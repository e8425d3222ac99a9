-- `Terms::term_demand` meets its contract: the reciprocal gives the quotient, and no step overflows.
use Prim.Native.Nat.{◌+◌}
use native.Mathlib.Omega.{arith}
use lib.ListN.{get_or}
use Rattle.verdict.specs.HeldTerms.{group_of, GoodAt}
use Rattle.verdict.proofs.HeldTerms.{product_at_most, term_by_reciprocal, term_at_most}
use Rattle.verdict.proofs.terms.Terms.term_demand.Goals as goal

pub overflow_mul-result : goal.overflow_mul-result
overflow_mul-result c =
    let a = c.args in
    let good : GoodAt a.self.now.entries a.i = a.self.now.held.good a.i c.requires.0 in
    omega (arith, product_at_most good _ a.length c.requires.1 c.saturating_sub-v.ensures)

pub overflow_mul-result-2 : goal.overflow_mul-result-2
overflow_mul-result-2 c =
    let a = c.args in
    let good : GoodAt a.self.now.entries a.i = a.self.now.held.good a.i c.requires.0 in
    let down = get_or a.self.now.entries (group_of a.i + 3) 0 in
    omega (arith, term_by_reciprocal good down a.length c.requires.1 c.saturating_sub-v.ensures, term_at_most good down a.length c.requires.1)

pub returns : goal.returns
returns c =
    let a = c.args in
    let good : GoodAt a.self.now.entries a.i = a.self.now.held.good a.i c.requires.0 in
    term_by_reciprocal good _ a.length c.requires.1 c.saturating_sub-v.ensures
