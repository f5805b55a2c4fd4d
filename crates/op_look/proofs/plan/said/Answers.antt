-- As the look ends.
use Rattle.op_look.proofs.plan.said.Goals as goal

pub returns : goal.returns
returns c h birth when held = c.look.ensures.says h birth when held
