-- The set grows as the definition has it grow.
use Rattle.std.proofs.Common.{◌≡◌, Some, ℕ, sym, ap, ◌∙◌, subst}
use Rattle.set_definitions.specs.Sets.{next_segment}
use Rattle.core_definitions.specs.Servers.{stage_of}
use Rattle.line_stages.specs.Agains.{IsAgainAt}
use Rattle.line_stages.specs.Growing.{line_grown}
use Rattle.line_stages.specs.Reading.{path_line, stage_read}
use Rattle.line_stages.specs.declared.stage.Stage.TheVariants as stages
use Rattle.line_stages.proofs.Lines.{sorted_there}
use Rattle.line_stages.proofs.Regrowing.{stage_grows}
use Rattle.line_stages.proofs.again.ready_again.Goals as goal

pub returns-in_ok-again-in-Some-Growing-clause-is : goal.returns-in_ok-again-in-Some-Growing-clause-is
returns-in_ok-again-in-Some-Growing-clause-is c setting few wants is =
    let locks = c.args.table.now.locks in
    let number = c.args.server.now.id in
    let server = c.args.server.now.server in
    let plan = c.args.plan.now in
    let reads : stage_read locks number server plan ≡ Some stages.Growing = sym c.in-Some-Growing.ensures.reads ∙ ap Some c.in-Some-Growing.field-0-is in
    subst (IsAgainAt server (stage_of setting locks number server))
    (sym (c.in_ok-again-in-Some-Growing.ensures ∙ ap (λ (n : ℕ). line_grown (next_segment n locks number) plan (path_line server)) (sym few)))
    (stage_grows setting locks number server plan is (sorted_there server.under c.see_order.ensures) reads)
