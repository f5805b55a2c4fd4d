-- One event.
use Rattle.core_world.proofs.Living.{renews}
use Rattle.core_world.proofs.laws.renews_are_events.Goals as goal

pub returns : goal.returns
returns c = record { renew = renews }
