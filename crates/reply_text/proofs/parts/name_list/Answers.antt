-- One part more that is a name.
use Rattle.std.proofs.Common.{◌≡◌, ◌∙◌, ◌++◌, ◌∷◌, [], ap, cond, Some, None, rules}
use Rattle.std.specs.Option.{option_copied}
use Rattle.frang_base.specs.Name.{is_name}
use Rattle.frang_base.specs.PathText.{parts_left}
use Rattle.script_definitions.proofs.PartsLaws.{name_turn}
use Rattle.reply_text.proofs.parts.name_list.Goals as goal

pub loop-rest-preserved : goal.loop-rest-preserved
loop-rest-preserved c =
    let pushed : c.push.new.self ≡ c.loop-rest.names ++ c.in-Some-of.name ∷ [] = c.in_ok-push.ensures.ok in
    let of : cond (is_name c.cut.result.0.now) (Some c.cut.result.0.now) None ≡ Some c.in-Some-of.name = first_of (cc, search rules) in
    let parts : parts_left 32 (option_copied c.loop-rest.rest) ≡ c.cut.result.0.now ∷ parts_left 32 (option_copied c.cut.result.1) = ap (λ r. parts_left 32 (option_copied r)) c.in-Some.is ∙ c.cut.ensures in
    rw pushed (name_turn c.loop-rest.names c.in-Some-of.name c.cut.result.0.now _ _ of parts ∙ c.loop-rest.invariant)
