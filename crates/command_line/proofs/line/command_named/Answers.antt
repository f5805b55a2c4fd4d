-- The command by its arguments, one after the other.
use Rattle.std.proofs.Common.{◌≡◌, ◌∙◌, rules, ap, ap₂, codes}
use Rattle.std.proofs.lemmas.Result.{IfOk-weaker}
use Rattle.clap.specs.Words.{App, rule_of, with_rule}
use Rattle.command_line.specs.Line.{many_rule, option_rule}
use Rattle.command_line.proofs.line.command_named.Goals as goal

pub returns-clause-app : goal.returns-clause-app
returns-clause-app c =
    let places_is : rule_of c.action-places.result ≡ many_rule (codes "places") = search rules in
    let places = c.in_ok-with_places.ensures.shape (search rules) ∙ ap₂ with_rule c.new-2.ensures.app places_is in
    let segments = c.in_ok-with_segments.ensures.app ∙ ap (λ (a : App). with_rule a (option_rule (codes "segments"))) places in
    let image = c.in_ok-with_image.ensures.app ∙ ap (λ (a : App). with_rule a (option_rule (codes "image"))) segments in
    let save = c.in_ok-with_save.ensures.app ∙ ap (λ (a : App). with_rule a (option_rule (codes "save"))) image in
    let order = c.in_ok-with_order.ensures.app ∙ ap (λ (a : App). with_rule a (option_rule (codes "order"))) save in
    let board = c.in_ok-with_board.ensures.app ∙ ap (λ (a : App). with_rule a (option_rule (codes "board"))) order in
    IfOk-weaker c.with_option-6.result _ _ (λ command is. is ∙ ap (λ (a : App). with_rule a (option_rule (codes "board-to"))) board) c.with_option-6.ensures.app
