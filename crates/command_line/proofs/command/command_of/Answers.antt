-- By what the reader answers.
use Rattle.std.proofs.Common.{◌≡◌, ◌∙◌, sym, ap, subst, map, List}
use Rattle.std.specs.Prelude.{string_bytes}
use Rattle.clap.specs.Walk.{Text}
use Rattle.clap.specs.Kinds.{HasKind}
use Rattle.clap.specs.Words.{App, app_of, fault_of, is_simple, is_simple_and_free, subcommand_of, subcommand_rows_of}
use Rattle.command_line.specs.Line.{line_app}
use Rattle.command_line.proofs.Whole.{are_texts, err_asks, is_fit, is_plain_line, ok_asks}
use Rattle.command_line.proofs.command.command_of.Goals as goal

pub returns-in-Ok-clause-is : goal.returns-in-Ok-clause-is
returns-in-Ok-clause-is c =
    let words : List Text = map string_bytes c.args.words.now in
    let line : app_of c.in_ok-line.line ≡ line_app = c.in_ok-line.ensures in
    let fine = sym (ap (λ (a : App). fault_of a words) line) ∙ c.in-Ok.ensures.kinds (ap is_simple_and_free line ∙ is_fit) in
    let held = (c.in-Ok.ensures.matches (ap is_simple line ∙ is_plain_line)).1 ∙ ap (λ (a : App). subcommand_of a words) line in
    c.asked_in.ensures.is ∙ ok_asks words (subcommand_rows_of c.in-Ok.matches) (are_texts c.args.words.now) fine held

pub returns-in_ok-no_want-in-Err-clause-is : goal.returns-in_ok-no_want-in-Err-clause-is
returns-in_ok-no_want-in-Err-clause-is c =
    let words : List Text = map string_bytes c.args.words.now in
    let line : app_of c.in_ok-line.line ≡ line_app = c.in_ok-line.ensures in
    err_asks words c.in-Err.error (are_texts c.args.words.now) (λ want. c.in_ok-no_want-in-Err.ensures (c.kind.ensures ∙ want))
    (subst (λ (a : App). HasKind (fault_of a words) c.in-Err.error) line (c.in-Err.ensures.kinds (ap is_simple_and_free line ∙ is_fit)))
