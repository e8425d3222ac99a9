-- `Terms::taken` meets its contract: the reciprocal of p gives the whole periods, and the smaller of s and the rest is added.
use native.Mathlib.Omega.{arith}
use Rattle.verdict.proofs.HeldTerms.{whole_within, rest_of_it, taken_by_reciprocal}
use Rattle.verdict.proofs.terms.Terms.taken.Goals as goal

pub overflow_sub-rest : goal.overflow_sub-rest
overflow_sub-rest c = omega (arith, whole_within c.args.self.now.held.header c.args.length c.requires)

pub returns : goal.returns
returns c =
    let header = c.args.self.now.held.header in
    omega (arith, rest_of_it header c.args.length c.requires, taken_by_reciprocal header c.args.length c.requires)
