-- Plans of stages.
use Rattle.core_commits.proofs.Staged.{clearing_lines_have_plans, fetching_lines_have_plans, finished_lines_have_plans}
use Rattle.core_commits.proofs.stages.stages_tell_their_plans.Goals as goal

pub returns : goal.returns
returns c = record { finished = finished_lines_have_plans; clearing = clearing_lines_have_plans; fetching = fetching_lines_have_plans }
