-- A call on a lent run leaves and answers what the same call does in a trace. (docs/RULES.md, 6.19.)
use mathlib.Core.Path.{refl}
use Rattle.promise.specs.Traces.{Call}
use Rattle.probe.specs.LentRuns.{LentPlaysTheCall}

pub lent_plays_the_call : LentPlaysTheCall
lent_plays_the_call run (Call.release row cost) = refl
lent_plays_the_call run Call.tick = refl
lent_plays_the_call run (Call.end serial) = refl
