-- `numbers::read` meets its contract. The loop's invariant is `Passed`: the groups passed are worth `value`, and the answer is that of `value` together with
-- what the groups from here on spell. Each byte is looked at once.
use Rattle.numbers.proofs.Reading.{Passed}
use Rattle.numbers.proofs.read.Given as goal

abbrev pub invariant-loop-groups : goal.invariant-loop-groups
invariant-loop-groups l = Passed l.bytes l.at l.value l.weight l.groups
