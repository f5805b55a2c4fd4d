-- Outcomes.
use Rattle.core_commits.proofs.Finished.{finished_lines_are_outcomes}
use Rattle.core_commits.proofs.outcomes.finished_lines_are_outcomes.Goals as goal

pub returns : goal.returns
returns c = record { outcome = finished_lines_are_outcomes }
