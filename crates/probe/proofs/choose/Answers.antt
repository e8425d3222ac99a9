-- `probe::choose` meets its contract: it returns and writes what the choice says, and copies the record's bytes.
use native.Mathlib.Omega.{arith}
use lib.ListN.{length}
use borrow.Author.Tests.{eq-eqb}
use Rattle.probe.specs.Chosen.{choice_length}
use Rattle.probe.proofs.Words.{two_words}
use Rattle.probe.proofs.choose.Goals as goal

pub returns : goal.returns
returns c =
    let size = eq-eqb (length c.args.answer.now) choice_length (omega arith) in
    rw (c.say.ensures.0, c.say.ensures.1, two_words, c.copy.ensures, c.chosen_part.ensures.bytes, size, ← c.choose-chosen.ensures, ← c.chosen_told.ensures)
