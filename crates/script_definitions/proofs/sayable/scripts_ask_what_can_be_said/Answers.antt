use Rattle.script_definitions.proofs.SayableScripts.{script_sayable}
use Rattle.script_definitions.proofs.sayable.scripts_ask_what_can_be_said.Goals as goal

pub returns : goal.returns
returns c = λ bytes script e. script_sayable bytes script e
