-- The moves so far, and those of the edits that are left.
use Rattle.std.proofs.Common.{◌≡◌, drop, []}
use Rattle.plan_steps.specs.Edits.{edits_of}
use Rattle.edit_moves.specs.Moves.{moves_by}
use Rattle.edit_moves.proofs.moves.moves_by_edits.Given as goal

abbrev pub invariant-loop-edit : goal.invariant-loop-edit
invariant-loop-edit l = moves_by (edits_of l.edits) (edits_of (drop l.edit-index l.edits)) l.moves.items ≡ moves_by (edits_of l.edits) (edits_of l.edits) []
