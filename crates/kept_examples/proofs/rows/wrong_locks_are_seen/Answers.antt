-- The row.
use Rattle.kept_examples.proofs.WrongRules.{link_wrong, read_wrong, room_wrong, shared_wrong}
use Rattle.kept_examples.proofs.rows.wrong_locks_are_seen.Goals as goal

pub returns : goal.returns
returns c = record { shared = shared_wrong; read = read_wrong; link = link_wrong; room = room_wrong }
