-- Event by event.
use Rattle.core_transcripts.proofs.Following.{answered_once, under_way_next, under_way_once}
use Rattle.core_transcripts.proofs.Twice.{needed}
use Rattle.core_transcripts.proofs.answers.each_line_is_answered_once.Goals as goal

pub returns : goal.returns
returns c = record { once = answered_once; under_way = under_way_once; next = under_way_next; needed = needed }
