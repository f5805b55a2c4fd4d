-- The sectors so far, and then those that are left, are all.
use Rattle.std.proofs.Common.{◌≡◌, ◌++◌, drop, map}
use Rattle.std.specs.Map.{keys_of}
use Rattle.disk_definitions.specs.Written as written
use Rattle.dir_lookup.specs.Planned.{sector_by}
use Rattle.plan_steps.specs.Edits.{edits_of}
use Rattle.edit_writing.proofs.freed.freed_sectors.Given as goal

abbrev pub invariant-loop-number : goal.invariant-loop-number
invariant-loop-number l = l.sectors.items ++ map sector_by (keys_of (drop l.number-index l.number-items)) ≡ map sector_by (written.freed_sectors (edits_of l.edits))
