-- What is read off is the definition's.
use Rattle.std.proofs.Common.{sym, subst}
use Rattle.core_definitions.specs.Servers.{stage_of}
use Rattle.line_stages.specs.Stages.{IsStage}
use Rattle.line_stages.proofs.Staged.{stage_reads}
use Rattle.line_stages.proofs.stage.stage_of.Goals as goal

pub returns-clause-is : goal.returns-clause-is
returns-clause-is c setting wants is =
    let locks = c.args.table.now.locks in
    let number = c.args.server.now.id in
    let server = c.args.server.now.server in
    subst (λ code. IsStage c.args.plan.now server code (stage_of setting locks number server)) (sym c.read_stage.ensures) (stage_reads setting locks number server c.args.plan.now wants is)
