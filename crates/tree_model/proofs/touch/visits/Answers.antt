use Rattle.std.proofs.Common.{ℕ, ◌==◌, ◌++◌, ◌∙◌, ap}
use Rattle.std.specs.List.{list_any}
use Rattle.tree_definitions.specs.Perform.{Resolved}
use Rattle.tree_definitions.specs.Touched.{visited}
use Rattle.tree_model.proofs.touch.visits.Goals as goal

pub returns : goal.returns
returns c =
    c.goes_through.ensures
    ∙ ap (λ (r : Resolved). list_any {X = ℕ} (λ b. b == c.args.birth) (r.trail ++ visited c.args.tree.now r.step c.args.entry.now.reply)) c.in_ok-resolved.ensures
