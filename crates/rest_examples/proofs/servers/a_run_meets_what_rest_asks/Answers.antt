-- By the run.
use Rattle.rest_examples.proofs.Rest.{run_meets}
use Rattle.rest_examples.proofs.servers.a_run_meets_what_rest_asks.Goals as goal

pub returns : goal.returns
returns c = record { run = run_meets }
