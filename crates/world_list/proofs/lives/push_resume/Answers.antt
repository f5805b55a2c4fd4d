-- One event, if it may happen.
use Rattle.std.proofs.lemmas.Result.{on_ok_weaker}
use Rattle.world_list.proofs.OneEach.{resume_row}
use Rattle.world_list.proofs.lives.push_resume.Goals as goal

pub returns : goal.returns
returns c = on_ok_weaker c.push_if.result (resume_row c.args.world.now c.args.a.0 c.may_resume.result c.args.list.now.items c.push_if.new.list.items c.may_resume.ensures) c.push_if.ensures
