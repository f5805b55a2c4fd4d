-- By the laws of lines over the one disk.
use Rattle.core_commit_steps.proofs.Fitting.{records_fit}
use Rattle.core_commit_steps.proofs.commits.records_of_lines_fit.Goals as goal

pub returns : goal.returns
returns c = record { fit = records_fit c.each_key_stands_once.ensures.order c.blocks_stay_whole.ensures.cached c.segments_are_needed_sole.ensures.sole }
