-- What the edits that are left say first is what all say first.
use Rattle.std.proofs.Common.{◌≡◌, drop}
use Rattle.disk_definitions.specs.Moves.{first_said}
use Rattle.disk_definitions.specs.Moves as moves
use Rattle.plan_steps.specs.Edits.{edits_of}
use Rattle.edit_moves.proofs.said.bit_said.Given as goal

abbrev pub invariant-loop-edit : goal.invariant-loop-edit
invariant-loop-edit l = first_said (moves.bit_said l.inode) (edits_of (drop l.edit-index l.edits)) ≡ first_said (moves.bit_said l.inode) (edits_of l.edits)
