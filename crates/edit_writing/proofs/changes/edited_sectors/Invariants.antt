-- The sectors so far, and then those of the edits that are left, are all.
use Rattle.std.proofs.Common.{◌≡◌, fold, drop, []}
use Rattle.std.specs.List.{filter_map}
use Rattle.disk_definitions.specs.Written.{metadata_sector, with_number}
use Rattle.plan_steps.specs.Edits.{edits_of}
use Rattle.edit_writing.proofs.changes.edited_sectors.Given as goal

abbrev pub invariant-loop-edit : goal.invariant-loop-edit
invariant-loop-edit l = fold with_number l.numbers.entries (filter_map metadata_sector (edits_of (drop l.edit-index l.edits))) ≡ fold with_number [] (filter_map metadata_sector (edits_of l.edits))
