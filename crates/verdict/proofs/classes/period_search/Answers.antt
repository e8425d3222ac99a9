-- `verdict::classes::period_search` meets its contract: where the lengths near d fit as well, the first that fails after them is the first of all.
use native.Mathlib.Omega.{arith}
use Rattle.theory.specs.Curves.{FitsUpTo}
use Rattle.verdict.specs.Searched.{held_by}
use Rattle.verdict.proofs.Searches.{not_raised, all_fit, from_there_on}
use Rattle.verdict.proofs.classes.period_search.Goals as goal

pub returns-in_default-way : goal.returns-in_default-way
returns-in_default-way c =
    let near = not_raised _ _ _ _ c.first-2.ensures in
    from_there_on c.requires.1 _ _ (all_fit c.requires.1 (rw c.in_default.is at near)) c.search_rest.ensures

pub returns : goal.returns
returns c =
    let k = c.args.cycle.now in
    let near = not_raised _ _ _ _ c.first-2.ensures in
    let fits = all_fit c.requires.1 (rw c.in_default.is at near) in
    let up_to_d : FitsUpTo (held_by k.terms) k.d = λ L one high. fits L one (omega arith) in
    from_there_on c.requires.1 _ _ up_to_d c.classes.ensures
