-- `log::write_record` meets its contract. The loop's invariant is that the numbers so far stand at the start of the rest, in at most six bytes each. A number
-- that was tested is never refused.
use Prim.Native.Nat.{◌*◌, ◌≤◌}
use Rattle.numbers.specs.Spelling.{max_groups}
use Rattle.logs.proofs.Records.{Standing}
use Rattle.logs.proofs.write_record.Given as goal

abbrev pub invariant-loop-v : goal.invariant-loop-v
invariant-loop-v l = Standing l.v-items l.initial.rest l.rest l.at l.v-index × (l.at ≤ max_groups * l.v-index)
