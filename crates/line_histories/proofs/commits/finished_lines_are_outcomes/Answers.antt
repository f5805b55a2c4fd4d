-- By what is at hand.
use Rattle.line_histories.proofs.Done.{done_is_outcome, line_done_is_outcome}
use Rattle.line_histories.proofs.commits.finished_lines_are_outcomes.Goals as goal

pub returns : goal.returns
returns c = record { outcome = done_is_outcome; lines = line_done_is_outcome }
