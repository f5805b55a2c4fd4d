-- One of the edits that are left does so where one of all does.
use Rattle.std.proofs.Common.{◌≡◌, drop}
use Rattle.std.specs.List.{list_any}
use Rattle.disk_definitions.specs.Written.{dates}
use Rattle.plan_steps.specs.Edits.{edits_of}
use Rattle.edit_writing.proofs.dated.is_dated.Given as goal

abbrev pub invariant-loop-edit : goal.invariant-loop-edit
invariant-loop-edit l = list_any (dates l.sector.0) (edits_of (drop l.edit-index l.edits)) ≡ list_any (dates l.sector.0) (edits_of l.edits)
