-- The faults of a segment's own sector, of its inodes, of the parts of its small blocks, as what a disk's flags tell.
use Rattle.std.specs.Prelude.{ℕ, Bool, List}
use Rattle.disk_reading.specs.Marks.{flag_at}
use Rattle.disk_reading.specs.Seen.{store_in}
use Rattle.report_definitions.specs.Sums.{Fault}
use Rattle.report_definitions.specs.Report.{segment_faults}
use Rattle.report_rules.specs.Seen.{view_in}
use Rattle.disk_check.specs.PartsTold.{blocks_of, inodes_of}

unfoldable pub segment_part : ℕ → ℕ → List (ℕ × List ℕ) → List Bool → ℕ → List Fault
segment_part most segments disk reached k = segment_faults (view_in most segments disk) (flag_at reached) k

unfoldable pub inode_part : ℕ → List (ℕ × List ℕ) → List Bool → ℕ → List Fault
inode_part segments disk reached k = inodes_of segments (store_in segments disk) (flag_at reached) k

unfoldable pub block_part : ℕ → ℕ → List (ℕ × List ℕ) → List Bool → ℕ → List Fault
block_part most segments disk reached k = blocks_of (view_in most segments disk) (flag_at reached) k
