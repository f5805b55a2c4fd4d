-- An entry over a path is done again by what its operation comes to.
use Rattle.std.proofs.Common.{◌≡◌, OnOk, true, sym, subst, ◌∙◌, ap, rules}
use Rattle.tree_definitions.specs.Perform.{Resolved}
use Rattle.tree_definitions.specs.History.{tree_after}
use Rattle.file_tree.specs.Walks.{step_by}
use Rattle.tree_model.specs.Replayed.{after_step_redo, is_within, IsPathStep}
use Rattle.tree_model.proofs.Answering.{path_step}
use Rattle.tree_model.proofs.Redoing.{redone}
use Rattle.tree_model.proofs.replay.tree_after.Goals as goal

pub redo_step-requires : goal.redo_step-requires
redo_step-requires c =
    let o = c.args.entry.now.op in
    let within : is_within o ≡ true = search rules in
    subst IsPathStep (sym (ap (λ (r : Resolved). r.step) c.in_ok-resolved.ensures)) (path_step c.args.tree.now o (sym c.is_path_op.ensures ∙ c.if-not-is_path_op.false) within)

pub returns : goal.returns
returns c =
    let tree = c.args.tree.now in
    let e = c.args.entry.now in
    let is : after_step_redo tree (step_by c.in_ok-resolved.resolved.step) e.number.0 e.when e.reply ≡ tree_after tree e =
    ap (λ (r : Resolved). after_step_redo tree r.step e.number.0 e.when e.reply) c.in_ok-resolved.ensures
    ∙ redone tree e (sym c.leaves_tree.ensures ∙ c.if-leaves_tree.false) (sym c.is_path_op.ensures ∙ c.if-not-is_path_op.false) in
    record { ok = subst (λ t. OnOk c.redo_step.result (c.redo_step.new.tree ≡ t)) is c.redo_step.ensures.ok }
