-- `verdict::parts::Part::look_at` meets its contract: nothing overflows, and a line without slope has the height 0.
use native.Mathlib.Omega.{arith}
use Rattle.theory.specs.Lines.{line_at}
use Rattle.verdict.proofs.HeldParts.{flat_line, part_at_most}
use Rattle.verdict.proofs.parts.Part.look_at.Goals as goal

pub overflow_add-demand : goal.overflow_add-demand
unfolding line_at
overflow_add-demand c = omega (arith, c.demand.ensures, part_at_most c.args.self.now.terms c.args.self.now.line c.args.length c.requires)

pub returns-then-line-eq0 : goal.returns-then-line-eq0
returns-then-line-eq0 c =
    omega (arith, c.demand.ensures, flat_line c.args.self.now.line.good c.args.length c.if-line-eq0.true)

pub overflow_add-result-2 : goal.overflow_add-result-2
unfolding line_at
overflow_add-result-2 c = omega (arith, c.demand.ensures, part_at_most c.args.self.now.terms c.args.self.now.line c.args.length c.requires)

pub returns : goal.returns
unfolding line_at
returns c = omega (arith, c.demand.ensures)
