-- By the grammar of scripts.
use Rattle.core_log_steps.proofs.First.{first_room}
use Rattle.core_log_steps.proofs.Standing.{log_room_is_room}
use Rattle.core_log_steps.proofs.steps.logs_have_room.Goals as goal

pub returns : goal.returns
returns c = record { first = first_room c.what_is_read_is_in_the_grammar.ensures; enough = log_room_is_room }
