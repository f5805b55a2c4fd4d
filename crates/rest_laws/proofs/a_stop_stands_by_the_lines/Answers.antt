-- Recovery by recovery.
use Rattle.rest_laws.proofs.Closed.{closed_keep_all, stops_stand_by_the_lines}
use Rattle.rest_laws.proofs.a_stop_stands_by_the_lines.Goals as goal

pub returns : goal.returns
returns c = record { closed = closed_keep_all; stands = stops_stand_by_the_lines }
