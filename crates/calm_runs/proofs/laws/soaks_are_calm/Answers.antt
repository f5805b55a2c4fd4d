-- Line by line.
use Rattle.calm_runs.proofs.Soaks.{soak_calm}
use Rattle.calm_runs.proofs.laws.soaks_are_calm.Goals as goal

pub returns : goal.returns
returns c = record { calm = soak_calm }
