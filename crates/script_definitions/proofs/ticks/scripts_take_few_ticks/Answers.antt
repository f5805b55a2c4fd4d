use Rattle.script_definitions.proofs.TicksLaws.{few_ticks}
use Rattle.script_definitions.proofs.ticks.scripts_take_few_ticks.Goals as goal

pub returns : goal.returns
returns c = λ bytes script e. few_ticks bytes script e
