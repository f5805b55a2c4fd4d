-- By the lemmas over plain variables.
use Rattle.disk_definitions.proofs.Relink.{links_change}
use Rattle.disk_definitions.proofs.changes.a_node_gets_other_links.Goals as goal

pub returns : goal.returns
returns c = record { change = links_change }
