-- `verdict::choices::guess_part` meets its contract: the line has the period of the cycle.
use Rattle.verdict.proofs.choices.guess_part.Goals as goal

pub guess-requires : goal.guess-requires
guess-requires c =
    let p = c.requires in
    rw c.lowered.ensures.0.is_period (p.0, c.args.cycle.now.most_d, p.2, p.3, p.4)
