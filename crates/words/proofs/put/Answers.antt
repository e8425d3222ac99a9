-- `words::put` meets its contract: the library's eight bytes of a number are those of the definition.
use Rattle.std.proofs.Common.{◌++◌, List, ℕ}
use mathlib.Core.Path.{ap, ◌∙◌}
use lib.ListN.{drop}
use borrow.Author.Tests.{le-leb}
use Rattle.words.proofs.Storing.{same_bytes}
use Rattle.words.proofs.put.Goals as goal

pub returns : goal.returns
returns c =
    let bytes = c.copy_from_slice.ensures.after ∙ c.to_le_bytes.ensures ∙ same_bytes c.args.value in
    (simp (le-leb _ _ c.if-rest-lt-WORD.false), ap (λ (l : List ℕ). l ++ drop 8 c.args.rest.now) bytes)
