-- `script::number_at` meets its contract: a number that can be read is the number there, and any other is refused with 14.
use Rattle.std.proofs.Common.{rules}
use mathlib.Core.Path.{ap, ◌∙◌}
use Rattle.script.specs.Records.{as_scripts, script_number}
use Rattle.script.proofs.Records.{told_as_scripts}
use Rattle.script.proofs.number_at.Goals as goal

pub returns : goal.returns
unfolding script_number
returns c = told_as_scripts _ _ _ (λ r q e. search rules) c.map_err.ensures.cases ∙ ap as_scripts c.read.ensures
