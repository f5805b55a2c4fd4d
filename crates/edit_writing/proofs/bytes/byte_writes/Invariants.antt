-- The writes so far, and then those of the edits that are left, are all.
use Rattle.std.proofs.Common.{◌≡◌, ◌++◌, map, drop}
use Rattle.disk_definitions.specs.Written as written
use Rattle.dir_lookup.specs.Planned.{write_by}
use Rattle.plan_steps.specs.Edits.{edits_of}
use Rattle.edit_writing.proofs.bytes.byte_writes.Given as goal

abbrev pub invariant-loop-edit : goal.invariant-loop-edit
invariant-loop-edit l = l.writes.items ++ map write_by (written.byte_writes (edits_of (drop l.edit-index l.edits))) ≡ map write_by (written.byte_writes (edits_of l.edits))
