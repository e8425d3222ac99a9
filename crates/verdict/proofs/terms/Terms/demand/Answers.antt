use Prim.Native.Nat.{◌+◌}
use mathlib.Core.Path.{sym, ◌∙◌}
use native.Mathlib.Omega.{arith}
use Rattle.verdict.proofs.HeldTerms.{no_terms, one_term_more, held_at_most}
use Rattle.verdict.proofs.terms.Terms.demand.Goals as goal

pub loop-i-init : goal.loop-i-init
loop-i-init c = (omega arith, c.taken-sum.ensures ∙ sym (no_terms c.args.self.now.entries c.args.length))

pub overflow_add-sum : goal.overflow_add-sum
overflow_add-sum c =
    let t = c.args.self.now in
    let i = c.loop-i.i in
    omega (
      arith,
      one_term_more t.entries i c.args.length,
      c.term_demand-sum.ensures,
      t.held.few,
      held_at_most t.held (i + 1) c.args.length (omega arith) c.requires,
    )

pub loop-i-preserved : goal.loop-i-preserved
loop-i-preserved c =
    (omega arith, omega (arith, one_term_more c.args.self.now.entries c.loop-i.i c.args.length, c.term_demand-sum.ensures))
