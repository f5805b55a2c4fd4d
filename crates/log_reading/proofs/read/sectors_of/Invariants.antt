use Rattle.std.proofs.Common.{◌≡◌, [], map}
use Rattle.std.specs.Prelude.{slice_index_or}
use Rattle.tree_definitions.specs.Numbers.{below}
use Rattle.disk_definitions.specs.LogSectors.{log_sector_in}
use Rattle.log_reading.proofs.read.sectors_of.Given as goal

abbrev pub invariant-loop-slot : goal.invariant-loop-slot
invariant-loop-slot l = l.sectors.items ≡ map (λ slot. log_sector_in slot (slice_index_or l.slots slot [])) (below l.slot)
