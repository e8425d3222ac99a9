-- `verdict::server_demand` meets its contract: a times the length fits into 64 bits, and b is at least 1.
use mathlib.Core.Path.{refl}
use Rattle.theory.specs.Servers.{server_demand}
use Rattle.verdict.proofs.server_demand.Goals as goal

pub returns : goal.returns
unfolding server_demand
returns c = refl
