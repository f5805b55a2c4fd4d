-- Number by number.
use Rattle.soak_laws.proofs.Soaking.{script_ascends}
use Rattle.soak_laws.proofs.script.soak_scripts_ascend.Goals as goal

pub returns : goal.returns
returns c = record { ascend = script_ascends }
