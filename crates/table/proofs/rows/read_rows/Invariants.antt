-- `rows::read_rows` meets its contract. The loop's invariant is `ReadSoFar`: the answer is the rows read so far, in front of what is read from here on. Each
-- answer of the code is a law of `Reading`.
use Rattle.table.proofs.Reading.{ReadSoFar}
use Rattle.table.proofs.rows.read_rows.Given as goal

abbrev pub invariant-loop-i : goal.invariant-loop-i
invariant-loop-i l = ReadSoFar l.bytes l.at l.count.value l.held.rows l.next l.i
