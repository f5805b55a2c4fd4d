-- Lines that ascend are apart, and the host's are barriers.
use Rattle.soak_laws.proofs.Soaking.{script_numbered}
use Rattle.soak_laws.proofs.script.soak_scripts_are_numbered.Goals as goal

pub returns : goal.returns
returns c = record { numbered = script_numbered }
