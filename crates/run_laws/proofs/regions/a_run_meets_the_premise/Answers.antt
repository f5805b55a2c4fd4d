-- The run, worked out: no server is up.
use Rattle.run_laws.proofs.Elsewhere.{begins}
use Rattle.run_laws.proofs.regions.a_run_meets_the_premise.Goals as goal

pub returns : goal.returns
returns c = begins
