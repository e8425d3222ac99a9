-- `run::soundness::servers_sound` meets its contract: it tests the servers one by one, each with its last due time.
use mathlib.Core.Path.{◌∙◌}
use mathlib.Core.Bool.{◌&&◌}
use borrow.Author.Rules.{rules}
use borrow.Author.Tests.{tests}
use Rattle.std.proofs.lemmas.Iterator.{YieldsList-from_slice, YieldsList-from_zip}
use Rattle.std.proofs.lemmas.Iterator.Search.{all_from_yields_List}
use lib.Dec.{leb}
use Rattle.kinds.specs.Numbering.{max_time}
use Rattle.kinds.specs.declared.Tick.{Tick}
use Rattle.table.specs.declared.Server.{Server}
use Rattle.table.specs.Servers.{server_in_range}
use Rattle.run.proofs.Sound.{servers_tested}
use Rattle.run.proofs.soundness.servers_sound.Goals as goal

pub returns : goal.returns
returns c =
    all_from_yields_List (λ (p : Server × Tick). server_in_range p.0 && leb p.1.0 max_time) c.all.new.self _ c.all.result c.all.ensures.ran
    (YieldsList-from_zip (YieldsList-from_slice c.args.servers.now (rw c.zip.ensures.first c.iter.ensures.rest))
    (YieldsList-from_slice c.args.last.now c.zip.ensures.second.0))
    (λ x b q h. search (rules, tests))
    ∙ servers_tested c.args.servers.now c.args.last.now
