-- What the host has read of the tree and said of it, and the words of the core on it, each closed, so that no proof goes through the places of a sector.
use Rattle.std.specs.Prelude.{ℕ, Bool, List}
use Rattle.frang_base.specs.declared.said.Said.{Said}
use Rattle.sector_bytes.specs.Blocks.{Block}
use Rattle.sector_bytes.specs.Sectors.{sectors_of}
use Rattle.disk_definitions.specs.Regions.{region_of}
use Rattle.disk_definitions.specs.Store.{Store, store_of}
use Rattle.core_definitions.specs.Trees.{TreeRead, needed_sectors, read_lines, shown_by}

-- the sectors of a tree of so many segments that were read, and whether there is room for one more
pub record SectorsRead : Type 0 where
  pub segments : ℕ
  pub read : TreeRead
  pub has_room : Bool

-- these, how many lines of the tree are said, and whether the next one is made
pub record HostReading : Type 0 where
  pub segments : ℕ
  pub read : TreeRead
  pub has_room : Bool
  pub shown : ℕ
  pub is_made : Bool

-- the sectors that are needed and not read yet, ascending
unfoldable pub needed : ℕ → TreeRead → List ℕ
needed segments read = needed_sectors segments read

-- the sectors that are needed by this block of a sector
unfoldable pub needed_by : ℕ → ℕ → Block → List ℕ
needed_by segments sector block = shown_by (region_of segments sector) block

-- what the sectors that were read say, all others being zeros
unfoldable pub store_read : ℕ → TreeRead → Store
store_read segments read = store_of segments (sectors_of read)

-- the lines of the tree
unfoldable pub all_lines : ℕ → TreeRead → List Said
all_lines segments read = read_lines segments read
