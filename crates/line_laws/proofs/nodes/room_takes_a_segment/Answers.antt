-- By what the edits say of bits and uses.
use Rattle.line_laws.proofs.NodeLaws.{room_alone, line_room_alone}
use Rattle.line_laws.proofs.nodes.room_takes_a_segment.Goals as goal

pub returns : goal.returns
returns c = record { plans = room_alone; lines = line_room_alone }
