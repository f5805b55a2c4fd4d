-- The line by its settings, and then its commands.
use Rattle.std.proofs.Common.{◌≡◌, ◌∙◌, true, ap, codes}
use Rattle.std.proofs.lemmas.Result.{IfOk-weaker}
use Rattle.clap.specs.Simple.{app_of_fields}
use Rattle.clap.specs.Words.{App, app_of}
use Rattle.clap.specs.declared.builder.command.Command.{Command}
use Rattle.clap.specs.declared.builder.command.Command.TheOpen.{Command-F}
use Rattle.command_line.specs.Line.{bare_line, with_command}
use Rattle.command_line.proofs.line.command_line.Goals as goal

abbrev with_settings : App → App
with_settings a = record a {
  top = record a.top {
    no_binary_name = true;
    disable_help_flag = true;
    disable_help_subcommand = true;
    subcommand_required = true;
  };
}

abbrev Fields : Type 0
Fields = Command-F Command

pub returns : goal.returns
returns c =
    let settings = c.subcommand_required-bare.ensures
    ∙ ap (λ (f : Fields). record f { subcommand_required = true }) (c.disable_help_subcommand.ensures
    ∙ ap (λ (f : Fields). record f { disable_help_subcommand = true }) (c.disable_help_flag.ensures
    ∙ ap (λ (f : Fields). record f { disable_help_flag = true }) c.no_binary_name.ensures)) in
    let bare : app_of c.subcommand_required-bare.result ≡ bare_line = ap app_of_fields settings ∙ ap with_settings c.new.ensures.app in
    let fsck : app_of c.in_ok-fsck.fsck ≡ with_command (with_command (with_command (with_command (with_command bare_line (codes "run")) (codes "recover")) (codes "tree")) (codes "log")) (codes "fsck") =
    c.in_ok-fsck.ensures
    ∙ ap (λ (a : App). with_command a (codes "fsck")) (c.in_ok-log.ensures
    ∙ ap (λ (a : App). with_command a (codes "log")) (c.in_ok-tree.ensures
    ∙ ap (λ (a : App). with_command a (codes "tree")) (c.in_ok-recover.ensures
    ∙ ap (λ (a : App). with_command a (codes "recover")) (c.in_ok-run.ensures ∙ ap (λ (a : App). with_command a (codes "run")) bare)))) in
    IfOk-weaker c.with_command-6.result _ _ (λ line is. is ∙ ap (λ (a : App). with_command a (codes "soak")) fsck) c.with_command-6.ensures
