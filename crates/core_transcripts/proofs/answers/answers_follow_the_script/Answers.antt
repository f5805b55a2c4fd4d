-- Event by event.
use Rattle.core_transcripts.proofs.Following.{in_order, next_by_record}
use Rattle.core_transcripts.proofs.answers.answers_follow_the_script.Goals as goal

pub returns : goal.returns
returns c = record { order = in_order; next = next_by_record }
