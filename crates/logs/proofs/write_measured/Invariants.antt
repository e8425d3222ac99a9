-- `log::write_measured` meets its contract. The invariant of the first loop is that the numbers so far have spellings and are counted. The invariant of the
-- second is that the numbers so far stand at the start of the rest. A number that was counted is never refused.
use Rattle.logs.proofs.Records.{Counted, Standing}
use Rattle.logs.proofs.write_measured.Given as goal

abbrev pub invariant-loop-value : goal.invariant-loop-value
invariant-loop-value l = Counted l.value-items l.room l.value-index

abbrev pub invariant-loop-v : goal.invariant-loop-v
invariant-loop-v l = Standing l.v-items l.initial.rest l.rest l.at l.v-index
