-- `jobs::distinct::rising` meets its contract: the serials rise if each is below that of the next job.
use lib.Dec.{ltb}
use borrow.Author.Rules.{rules}
use borrow.Author.Tests.{tests}
use Rattle.std.proofs.lemmas.List.Sorted.{answers_always}
use Rattle.jobs.proofs.Serials.{rising_is}
use Rattle.jobs.proofs.distinct.rising.Goals as goal

pub returns : goal.returns
returns c =
    let answers = answers_always _ _ _ (λ f a r g k. search (rules, tests)) in
    rising_is _ _ (c.is_sorted_by.ensures.cases (λ i j. ltb i.serial.0 j.serial.0) answers)
