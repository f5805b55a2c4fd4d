use Rattle.script_definitions.proofs.SayableHistories.{fresh_sayable, history_sayable, live_sayable}
use Rattle.script_definitions.proofs.sayable.histories_leave_what_can_be_said.Goals as goal

pub returns-clause-fresh : goal.returns-clause-fresh
returns-clause-fresh c = λ segments. fresh_sayable segments

pub returns-clause-tree : goal.returns-clause-tree
returns-clause-tree c = λ opening history h k. history_sayable opening history h k

pub returns-clause-live : goal.returns-clause-live
returns-clause-live c = λ script run saids h k. live_sayable script run saids h k
