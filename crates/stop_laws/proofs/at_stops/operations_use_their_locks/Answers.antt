-- By the law.
use Rattle.stop_laws.proofs.Uses.{lines_have_alone, lines_take_room_alone, lines_use}
use Rattle.stop_laws.proofs.at_stops.operations_use_their_locks.Goals as goal

pub returns : goal.returns
returns c = record { uses = lines_use; alone = lines_have_alone; room = lines_take_room_alone }
