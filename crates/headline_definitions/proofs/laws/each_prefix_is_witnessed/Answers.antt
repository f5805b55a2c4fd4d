-- Step by step.
use Rattle.headline_definitions.proofs.Prefixes.{runs_through}
use Rattle.headline_definitions.proofs.laws.each_prefix_is_witnessed.Goals as goal

pub returns : goal.returns
returns c = record { through = runs_through }
