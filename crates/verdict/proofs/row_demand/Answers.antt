-- `verdict::row_demand` meets its contract: below d and from d on it answers by the rule, and no step on the way overflows.
use mathlib.Core.Path.{sym}
use Rattle.theory.proofs.Demand.{no_demand_below_d, demand_from_d}
use Rattle.verdict.proofs.row_demand.Goals as goal

pub returns-then-length-row : goal.returns-then-length-row
returns-then-length-row c = sym (no_demand_below_d _ _ _ _ _ c.if-length-row.true)

pub returns : goal.returns
returns c = sym (demand_from_d _ _ _ _ _ c.if-length-row.false)
