use Rattle.std.proofs.Common.{◌≡◌, Some, None, sym, ◌∙◌, ap, not, rules}
use Rattle.tree_definitions.specs.Tree.{node_at}
use Rattle.tree_model.proofs.Comparing.{differs_shape}
use Rattle.tree_model.proofs.compare.shapes_differ.Goals as goal

pub returns-in-Some-Some : goal.returns-in-Some-Some
returns-in-Some-Some c =
    let old : node_at c.args.old.now c.args.birth ≡ Some c.in-Some-Some.a.now = first_of (search rules, cc) in
    let new : node_at c.args.new.now c.args.birth ≡ Some c.in-Some-Some.b.now = first_of (search rules, cc) in
    ap not c.same_shape.ensures ∙ sym (differs_shape c.args.old.now c.args.new.now c.args.birth _ _ old new)

pub returns-in-None-None : goal.returns-in-None-None
returns-in-None-None c =
    let old : node_at c.args.old.now c.args.birth ≡ None = first_of (search rules, cc) in
    let new : node_at c.args.new.now c.args.birth ≡ None = first_of (search rules, cc) in
    sym (differs_shape c.args.old.now c.args.new.now c.args.birth _ _ old new)

pub returns-in-Some-None : goal.returns-in-Some-None
returns-in-Some-None c =
    let old : node_at c.args.old.now c.args.birth ≡ Some c.in-Some-None.field-0-0.now = first_of (search rules, cc) in
    let new : node_at c.args.new.now c.args.birth ≡ None = first_of (search rules, cc) in
    sym (differs_shape c.args.old.now c.args.new.now c.args.birth _ _ old new)

pub returns-in-Some-None-2 : goal.returns-in-Some-None-2
returns-in-Some-None-2 c =
    let old : node_at c.args.old.now c.args.birth ≡ None = first_of (search rules, cc) in
    let new : node_at c.args.new.now c.args.birth ≡ Some c.in-Some-None.field-0-1.now = first_of (search rules, cc) in
    sym (differs_shape c.args.old.now c.args.new.now c.args.birth _ _ old new)
