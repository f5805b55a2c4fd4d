-- What a history of lines asks of its first disk, of each opening: covers go by a naming of its nodes, what may have a version has one, and known are the bytes of blocks that files have.
use Rattle.std.specs.Prelude.{◌≡◌, ◌<◌, ◌+◌, ℕ, Bool, true, false, Option, Some, None, List, [], length}
use Rattle.frang_base.specs.declared.limits.TheConstants.{RUN_VERSIONS_MAX}
use Rattle.frang_base.specs.declared.lock.LockId.{LockId}
use Rattle.frang_base.specs.declared.lock.LockId.TheVariants as lock
use Rattle.tree_definitions.specs.History.{Opening}
use Rattle.tree_definitions.specs.Tree.{FileTree}
use Rattle.sector_bytes.specs.Sectors.{Sectors}
use Rattle.sector_world.specs.World.{World, start}
use Rattle.disk_definitions.specs.Ask.{Sector, InodeAt, DirectoryAt, SegmentAt, BytesAt, LargeAt}
use Rattle.disk_definitions.specs.Covers.{cover_of}
use Rattle.disk_definitions.specs.Naming.{Naming}
use Rattle.disk_definitions.specs.Numbered.{sector_at}
use Rattle.disk_definitions.specs.Store.{Store, Use}
use Rattle.disk_definitions.specs.Store.Use.{Fresh, Bytes, Empty, Entries}
use Rattle.line_histories.specs.Following.{Follows}
use Rattle.line_histories.specs.LinePlans.{store_on}
use Rattle.line_histories.specs.Standing.{StandsNumbered}
use Rattle.stop_laws.specs.FreshDisks.{is_versioned_at}
use Rattle.stop_laws.specs.Known.{KnowsCells}
use Rattle.headline_definitions.specs.Beginning.{IsOpening}

-- the lock that covers the sector with this number, by a naming; of numbers that no such sector has it doesn't matter
abbrev pub cover_in : Naming → Option Sector → LockId
cover_in naming None = lock.Segment 0
cover_in naming (Some sector) = cover_of naming sector

abbrev pub opened_home : ℕ → Naming → ℕ → LockId
opened_home segments naming number = cover_in naming (sector_at segments number)

-- the sectors with versions
abbrev pub opened_logged : ℕ → Sectors → ℕ → Bool
opened_logged segments disk number = is_versioned_at (store_on segments disk) (sector_at segments number)

-- a block in use for bytes
abbrev pub is_for_bytes : Use → Bool
is_for_bytes Fresh = false
is_for_bytes Bytes = true
is_for_bytes Empty = false
is_for_bytes Entries = false

-- the sector is of such a block
abbrev pub is_of_file : Store → Option Sector → Bool
is_of_file store None = false
is_of_file store (Some (InodeAt inode)) = false
is_of_file store (Some (SegmentAt segment)) = false
is_of_file store (Some (DirectoryAt block part)) = is_for_bytes (store.use_of block)
is_of_file store (Some (BytesAt block part)) = is_for_bytes (store.use_of block)
is_of_file store (Some (LargeAt large part)) = store.large_bit large

-- the sectors of blocks that files have
abbrev pub opened_files : ℕ → Sectors → ℕ → Bool
opened_files segments disk number = is_of_file (store_on segments disk) (sector_at segments number)

-- so many servers over such a disk, of which none is mounted
abbrev pub opened_world : (servers segments : ℕ) → Naming → Sectors → World
opened_world servers segments naming disk = start servers disk (opened_logged segments disk) (opened_files segments disk) (opened_home segments naming)

-- the first disk of servers stands for the tree, with versions left for so many operations; what their history says of covers, kinds, free and written sectors is so; cells are known; and the
-- parameters count as a sector with a version
pub record IsFirstDisk (segments : ℕ) (numbers : List ℕ) (tree : FileTree) (w : World) : Type 0 where
  pub stands : StandsNumbered segments w.opening (record { tree = tree; numbers = numbers })
  pub follows : Follows segments w.opening w.home w.logged w.first []
  pub known : KnowsCells segments w.opening w.logged w.first tree []
  pub parameters : w.logged 0 ≡ true

-- so it is of each opening, by the naming under which its disk stands for its tree
abbrev pub OpeningsAreFirstDisks : Type 0
OpeningsAreFirstDisks =
    (opening : Opening) (disk : Sectors) (is : IsOpening opening disk) (servers : ℕ) (numbers : List ℕ) → 1 + length numbers < RUN_VERSIONS_MAX →
    IsFirstDisk opening.tree.segments numbers opening.tree (opened_world servers opening.tree.segments is.stands.naming disk)
