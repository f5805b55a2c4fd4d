-- The command with one argument more.
use Rattle.std.proofs.Common.{◌≡◌, ◌∙◌, ◌||◌, false, rules, ap, ap₂}
use Rattle.std.proofs.lemmas.Result.{IfOk-weaker}
use Rattle.clap.specs.Words.{app_of, rule_of, with_rule}
use Rattle.command_line.specs.Line.{option_rule}
use Rattle.command_line.proofs.line.with_option.Goals as goal

pub returns-clause-app : goal.returns-clause-app
returns-clause-app c =
    let option_is : rule_of c.action-option.result ≡ option_rule c.args.name.now = search rules in
    let own : c.action-option.result.global ≡ false = search rules in
    IfOk-weaker c.arg.result _ _ (λ command adds. adds.shape own ∙ ap (with_rule (app_of c.args.command)) option_is) c.arg.ensures

pub returns-clause-local : goal.returns-clause-local
returns-clause-local c =
    let own : c.action-option.result.global ≡ false = search rules in
    IfOk-weaker c.arg.result _ _ (λ command adds. adds.globals ∙ ap₂ ◌||◌ c.requires own) c.arg.ensures
