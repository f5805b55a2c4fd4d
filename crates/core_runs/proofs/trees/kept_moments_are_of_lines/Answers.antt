-- Field by field.
use Rattle.core_runs.specs.Kept.{Related}
use Rattle.core_runs.proofs.Standing.{of_lines}
use Rattle.core_runs.proofs.trees.kept_moments_are_of_lines.Goals as goal

pub returns : goal.returns
returns g c = record {
  lines = λ moment_of world_of journal_of. of_lines (Related moment_of world_of journal_of);
}
