-- Step by step.
use Rattle.core_laws.proofs.Ended.{nothing_follows}
use Rattle.core_laws.proofs.steps.nothing_follows_the_end.Goals as goal

pub returns : goal.returns
returns c = record { last = nothing_follows }
