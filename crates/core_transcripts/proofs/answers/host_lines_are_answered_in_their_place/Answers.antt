-- Event by event.
use Rattle.core_transcripts.proofs.Following.{behind_hosts, hosts_behind}
use Rattle.core_transcripts.proofs.answers.host_lines_are_answered_in_their_place.Goals as goal

pub returns : goal.returns
returns c = record { host = hosts_behind; others = behind_hosts }
