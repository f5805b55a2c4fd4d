-- By the root, which is the only node.
use Rattle.stop_laws.proofs.Root.{fresh_follows, fresh_known}
use Rattle.stop_laws.proofs.at_stops.a_fresh_disk_begins.Goals as goal

pub returns : goal.returns
returns c = record { follows = fresh_follows; known = fresh_known }
