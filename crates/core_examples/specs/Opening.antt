-- The disk on which the run with a clear begins, and its opening.
use Rattle.std.specs.Prelude.{codes, List, [], ◌∷◌}
use Rattle.frang_base.specs.declared.script.Line.{Line}
use Rattle.sector_bytes.specs.Sectors.{Sectors, sectors_of}
use Rattle.disk_definitions.specs.Regions.{sector_of}
use Rattle.disk_definitions.specs.declared.region.Region.TheVariants as region
use Rattle.core_definitions.specs.Runs.{State}
use Rattle.core_examples.specs.Driving.{parameters, segment_block, inode_block, entries_block, entry, opening_on}

-- one whose root has an empty directory, which line 2 of run 1 made: it has no block yet
abbrev pub directory_disk : Sectors
directory_disk = sectors_of ((0, parameters 2) ∷ (sector_of (region.Segment 0), segment_block 2 3 3) ∷ (sector_of (region.Inode 0), inode_block 2 2 1 1 0 (0 ∷ []))
    ∷ (sector_of (region.Inode 1), inode_block 1 2 1 0 4294967298 []) ∷ (sector_of (region.Small 0 0), entries_block 1 (entry 1 2 (codes "d") ∷ [])) ∷ [])

abbrev pub directory_opening : List Line → State
directory_opening script = opening_on directory_disk 2 script
