-- Every number written reads back as itself, and one number has one spelling. These are laws of crate `numbers`, stated where a customer looks for them.
-- Different answers say different things, so what is said tells which answer it was. (2.5)
use Rattle.std.specs.Prelude.{Ok}
use mathlib.Core.Path.{ap}
use lib.ListN.{length}
use Rattle.numbers.specs.declared.Number.{Number}
use Rattle.numbers.specs.Reading.{read_at}
use Rattle.numbers.specs.Writing.{written}
use Rattle.numbers.specs.Answers.{number_says}
use Rattle.numbers.proofs.Spellings.{number_written_reads_back as reads_back_there, number_has_one_spelling as spelled_there}
use Rattle.numbers.proofs.Answers.{numbers_said_apart}
use Rattle.promise.specs.Spelling.{WrittenReadsBack, OneSpelling}

-- A number that was written reads back as itself.
pub written_reads_back : WrittenReadsBack
written_reads_back n took buffer said =
    let wrote = numbers_said_apart.1 (written n (length buffer)) (Ok took) said in
    rw wrote (ap number_says (reads_back_there n took buffer wrote))

-- Where a number is read, its one spelling stands.
pub one_spelling : OneSpelling
one_spelling s at n next bytes said =
    let number : Number = record { value = n; next = next } in
    spelled_there s at number bytes (numbers_said_apart.0 (read_at s at) (Ok number) said)
