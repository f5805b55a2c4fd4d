-- What the operation comes to is over a path.
use Rattle.std.proofs.Common.{◌≡◌, rules, true, sym, subst, ap}
use Rattle.tree_definitions.specs.Perform.{Resolved}
use Rattle.tree_model.specs.Replayed.{is_within, IsPathStep}
use Rattle.tree_model.proofs.Answering.{path_step}
use Rattle.history_rules.proofs.stands.entered_path.Goals as goal

pub did_step-requires : goal.did_step-requires
did_step-requires c =
    let o = c.args.entry.now.op in
    let within : is_within o ≡ true = search rules in
    subst IsPathStep (sym (ap (λ (r : Resolved). r.step) c.in_ok-resolved.ensures)) (path_step c.args.tree.now o c.requires.path within)
