-- The edits that are left make of the block so far what all make of the old one.
use Rattle.std.proofs.Common.{◌≡◌, fold, drop}
use Rattle.plan_steps.specs.Edits.{edits_of}
use Rattle.edit_writing.specs.Sectors.{edited_at}
use Rattle.edit_writing.proofs.changes.edited.Given as goal

abbrev pub invariant-loop-edit : goal.invariant-loop-edit
invariant-loop-edit l = fold (edited_at l.sector.0) l.block (edits_of (drop l.edit-index l.edits)) ≡ fold (edited_at l.sector.0) l.fn.old (edits_of l.edits)
