-- Stage by stage.
use Rattle.std.proofs.Common.{◌∙◌}
use Rattle.line_stages.proofs.StageWords.{asked_is}
use Rattle.line_stages.proofs.asking.asked_next.Goals as goal

pub returns : goal.returns
returns c plan at is = c.lock_asked.ensures ∙ asked_is plan c.args.server.now.server c.args.table.now.locks c.args.server.now.id c.args.stage.now at is
