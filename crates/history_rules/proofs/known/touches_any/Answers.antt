-- The first of the nodes that are left is touched or not.
use Rattle.std.proofs.Common.{◌+◌, ◌||◌, drop, sym, ◌∙◌, ap}
use Rattle.std.specs.List.{list_any}
use Rattle.std.proofs.lemmas.List.{at_drop_more}
use Rattle.tree_definitions.specs.Touched.{touches}
use Rattle.history_rules.proofs.known.touches_any.Goals as goal

pub returns-then-branch : goal.returns-then-branch
returns-then-branch c =
    let test = touches c.args.tree.now c.args.entry.now in
    let nodes = c.args.nodes.now in
    let i = c.loop-birth.birth-index in
    let first = at_drop_more (list_any test) nodes i 0 c.loop-birth-test.true in
    sym (sym c.loop-birth.invariant ∙ first ∙ ap (λ b. b || list_any test (drop (i + 1) nodes)) (sym c.in_ok-touches.ensures ∙ c.if-branch.true))

pub loop-birth-preserved : goal.loop-birth-preserved
loop-birth-preserved c =
    let test = touches c.args.tree.now c.args.entry.now in
    let nodes = c.args.nodes.now in
    let i = c.loop-birth.birth-index in
    let first = at_drop_more (list_any test) nodes i 0 c.loop-birth-test.true in
    ap (λ b. b || list_any test (drop (i + 1) nodes)) (sym c.if-branch.false ∙ c.in_ok-touches.ensures) ∙ sym first ∙ c.loop-birth.invariant
