-- `host::verdict` meets its contract: it returns and writes what the verdict says.
use mathlib.Core.Path.{ap, ◌∙◌}
use native.Mathlib.Omega.{arith}
use Rattle.host.specs.Answer.{answer_bytes, said}
use Rattle.host.proofs.verdict.Goals as goal

pub returns : goal.returns
returns c =
    let told = c.verdict_told.ensures in
    said (omega arith) c.judge.result c.judge.ensures (c.say.ensures.0 ∙ ap (λ s. s.number) told) (c.say.ensures.1 ∙ ap answer_bytes told)
