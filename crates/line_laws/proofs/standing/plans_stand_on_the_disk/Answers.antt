-- Operation by operation.
use Rattle.line_laws.proofs.Operations.{all_stand}
use Rattle.line_laws.proofs.standing.plans_stand_on_the_disk.Goals as goal

pub returns : goal.returns
returns c = record { stands = all_stand }
