-- The lines of a script that was read ascend from the first number on.
use Rattle.script_places.proofs.Ascending.{read_ascends}
use Rattle.script_places.proofs.order.read_scripts_ascend.Goals as goal

pub returns : goal.returns
returns c = read_ascends
