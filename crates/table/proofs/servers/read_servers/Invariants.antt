-- `servers::read_servers` meets its contract. The loop's invariant is `ServersSoFar`: the answer is the servers read so far, in front of what is read from here
-- on. Each answer of the code is a law of `ReadingServers`.
use Rattle.table.proofs.ReadingServers.{ServersSoFar}
use Rattle.table.proofs.servers.read_servers.Given as goal

abbrev pub invariant-loop-i : goal.invariant-loop-i
invariant-loop-i l = ServersSoFar l.bytes l.at l.count.value l.servers l.next l.i
