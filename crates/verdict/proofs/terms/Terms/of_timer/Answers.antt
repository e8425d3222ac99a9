-- `Terms::of_timer` meets its contract: the first three entries are the timer's, and there is no term.
use mathlib.Core.Path.{refl}
use Rattle.verdict.proofs.HeldTerms.{no_terms}
use Rattle.verdict.proofs.terms.Terms.of_timer.Goals as goal

pub returns : goal.returns
returns c = (refl, refl, refl, λ L. no_terms _ L)
