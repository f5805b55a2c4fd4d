-- By the looks of lines, which are inside the disk.
use Rattle.line_laws.proofs.TraceLines.{lines_follow_the_disk, lines_follow_what_is_at_hand}
use Rattle.line_laws.proofs.traces.lines_look_at_hand_as_over_the_disk.Goals as goal

pub returns-clause-disk : goal.returns-clause-disk
returns-clause-disk c = lines_follow_the_disk

pub returns-clause-at_hand : goal.returns-clause-at_hand
returns-clause-at_hand c = lines_follow_what_is_at_hand
