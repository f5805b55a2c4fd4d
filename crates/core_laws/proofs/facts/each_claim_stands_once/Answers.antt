-- The locks are those of a table after calls.
use Rattle.core_laws.proofs.Keeping.{locks_of_run}
use Rattle.core_laws.proofs.facts.each_claim_stands_once.Goals as goal

pub returns : goal.returns
returns c = record { once = λ setting disk s run server. ((locks_of_run setting disk s run).claims server).ordered }
