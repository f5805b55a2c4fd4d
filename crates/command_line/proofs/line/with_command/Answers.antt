-- The line with one command more.
use Rattle.std.proofs.Common.{◌∙◌, ap}
use Rattle.std.proofs.lemmas.Result.{IfOk-weaker}
use Rattle.clap.specs.Words.{App}
use Rattle.clap.specs.Simple.{with_subcommand}
use Rattle.clap.specs.Words.{app_of}
use Rattle.command_line.proofs.line.with_command.Goals as goal

pub returns : goal.returns
returns c =
    IfOk-weaker c.subcommand.result _ _
    (λ more adds. adds.shape c.in_ok-command.ensures.local ∙ ap (λ (a : App). with_subcommand (app_of c.args.line) a.top) c.in_ok-command.ensures.app)
    c.subcommand.ensures
