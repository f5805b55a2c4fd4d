-- The list is that of the edits, exact and each thing once.
use Rattle.std.proofs.Common.{◌≡◌, List, [], sym, subst}
use Rattle.disk_definitions.specs.Moves.{moved_by}
use Rattle.plan_steps.specs.Edits.{edits_of}
use Rattle.edit_moves.specs.declared.moves.Move.{Move}
use Rattle.edit_moves.specs.Moves.{cover_in}
use Rattle.edit_moves.proofs.Exactly.{by_ok, exact}
use Rattle.edit_moves.proofs.Once.{AreOnce, all_once, none_once}
use Rattle.edit_moves.proofs.moves.moves_of.Goals as goal

pub returns-clause-exact : goal.returns-clause-exact
returns-clause-exact c =
    let edits = edits_of c.args.edits.now in
    by_ok c.moves_by_edits.result _ _ (λ moved e sector. subst (λ (list : List Move). cover_in list sector ≡ moved_by edits sector) (sym e) (exact edits sector)) c.moves_by_edits.ensures

pub returns-clause-once : goal.returns-clause-once
returns-clause-once c =
    let edits = edits_of c.args.edits.now in
    by_ok c.moves_by_edits.result _ _ (λ moved e. subst AreOnce (sym e) (all_once edits edits [] none_once)) c.moves_by_edits.ensures
