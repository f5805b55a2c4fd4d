-- What lines are planned over: one disk, of which all is that any server has cached, and which stands for a tree.
use Rattle.std.specs.Prelude.{◌≡◌, ◌<◌, ◌==◌, ℕ, true, if◌then◌else◌, List, [], Some, length}
use Rattle.frang_base.specs.declared.limits.TheConstants.{SECTOR_BYTES}
use Rattle.frang_base.specs.declared.lock.LockId.TheVariants.{Segment}
use Rattle.tree_definitions.specs.Tree.{FileTree}
use Rattle.tree_definitions.specs.Touched.{shape_of}
use Rattle.sector_bytes.specs.Blocks.{Block, zero_block}
use Rattle.sector_bytes.specs.SectorMaps.{Ascend, value_at}
use Rattle.sector_bytes.specs.Sectors.{Sectors}
use Rattle.cache_definitions.specs.Caches.{Cache, CachedSector}
use Rattle.set_definitions.specs.Sets.{LockSet, has_lock}
use Rattle.disk_definitions.specs.OnDisk.{AreOfDisk, StandsBelow}
use Rattle.core_definitions.specs.Lines.{missing_bitmaps}
use Rattle.core_definitions.specs.Plans.{sight_of}
use Rattle.core_definitions.specs.Servers.{Server}
use Rattle.sector_world.specs.Histories.{settled}
use Rattle.sector_world.specs.Kinds.{Good}
use Rattle.sector_world.specs.Logged.{now_of}
use Rattle.sector_world.specs.Planned.{IsLegal}
use Rattle.sector_world.specs.Trees.{Distinct, tree_of}
use Rattle.sector_world.specs.World.{World, has_version}
use Rattle.line_histories.specs.Done.{IsWholeDisk}
use Rattle.line_histories.specs.Following.{Follows}
use Rattle.line_histories.specs.Guards.{IsDiskOf}
use Rattle.line_histories.specs.LinePlans.{sector_plan, store_on}
use Rattle.line_histories.specs.Standing.{StandsNumbered}
use Rattle.line_histories.specs.Trees.{AreTimes, MayNumber, performed}
use Rattle.core_world.specs.Ties.{AreCached}
use Rattle.core_world.specs.Sights.{AreStood, stood}
use Rattle.core_commits.specs.Zeros.{FreePagesAreZeros}

-- ---- the disk

-- a block of 512 bytes, or zeros
abbrev pub whole_block : Block → Block
whole_block block = if length block == SECTOR_BYTES then block else zero_block

-- the one disk with whole sectors: what a read shows of a sector that no server has cached may be of a server that died, and is of no account
abbrev pub whole_disk : World → Sectors
whole_disk w s = whole_block (stood w s)

-- each cached sector, of every server, is of the one disk
abbrev pub AllIsStood : Type 0
AllIsStood = (servers : ℕ → Server) (w : World) → AreCached servers w → Good w → FreePagesAreZeros w → AreStood servers w

-- and where it has 512 bytes, of that with whole sectors
abbrev pub WholeIsStood : Type 0
WholeIsStood =
    (servers : ℕ → Server) (w : World) → AreStood servers w → (a s : ℕ) (cached : CachedSector) → value_at (servers a).cache s ≡ Some cached → length cached.block ≡ SECTOR_BYTES →
    cached.block ≡ whole_disk w s

-- ---- the tree

-- The history is of lines: from sectors that stand for the shape of a tree each operation is what its line comes to, with a number of its own; and covers, kinds and free sectors are at first
-- as these sectors say. Sector 0, which no line changes, counts as one with a version
pub record IsOfLines (segments : ℕ) (when : ℕ → ℕ) (first_tree : FileTree) (numbers : List ℕ) (w : World) : Type 0 where
  pub times : AreTimes when
  pub stands : StandsNumbered segments w.opening (record { tree = first_tree; numbers = numbers })
  pub legal : IsLegal (sector_plan segments when) w
  pub distinct : Distinct (MayNumber numbers) first_tree (settled w.history)
  pub follows : Follows segments w.opening w.home w.logged w.first []
  pub parameters : w.logged 0 ≡ true

-- the tree to which the history leads
abbrev pub tree_now : (ℕ → ℕ) → FileTree → World → FileTree
tree_now when first_tree w = tree_of (performed when) first_tree (settled w.history)

-- The disk with whole sectors stands for the shape of this tree by the naming by which the logical sectors do, and has the logical sectors with versions; and covers, kinds and free sectors
-- follow what they say
pub record StandsWhole (segments : ℕ) (w : World) (tree : FileTree) : Type 0 where
  pub now : StandsBelow (now_of w) (shape_of tree)
  pub below : StandsBelow (whole_disk w) (shape_of tree)
  pub alike : below.stands.naming ≡ now.stands.naming
  pub count : tree.segments ≡ segments
  pub logical : IsDiskOf segments (now_of w) (shape_of tree) now.stands.naming
  pub whole : IsWholeDisk segments (whole_disk w) (shape_of tree) now.stands.naming
  pub same : (s : ℕ) → has_version w s ≡ true → whole_disk w s ≡ now_of w s
  pub nodes : (inode : ℕ) → (store_on segments (whole_disk w)).inode inode ≡ (store_on segments (now_of w)).inode inode
  pub uses : (block : ℕ) → (store_on segments (whole_disk w)).use_of block ≡ (store_on segments (now_of w)).use_of block
  pub follows : Follows segments w.opening w.home w.logged w.first (settled w.history)

-- so it is of each history of lines
abbrev pub TheDiskStands : Type 0
TheDiskStands =
    (segments : ℕ) (when : ℕ → ℕ) (first_tree : FileTree) (numbers : List ℕ) (w : World) → IsOfLines segments when first_tree numbers w → Good w →
    StandsWhole segments w (tree_now when first_tree w)

-- ---- a line's sight

-- the segments of the set are of the disk
abbrev pub AreSegmentsOf : ℕ → LockSet → Type 0
AreSegmentsOf segments set = (segment : ℕ) → has_lock set (Segment segment) ≡ true → segment < segments

-- each cached block has 512 bytes
abbrev pub AreWhole : Cache → Type 0
AreWhole cache = (s : ℕ) (cached : CachedSector) → value_at cache s ≡ Some cached → length cached.block ≡ SECTOR_BYTES

-- where no bitmap of its set lacks, what a line is planned over is of the one disk
abbrev pub SightsAreOfTheDisk : Type 0
SightsAreOfTheDisk =
    (segments : ℕ) (servers : ℕ → Server) (w : World) (tree : FileTree) (a : ℕ) (set : LockSet) → StandsWhole segments w tree → AreCached servers w → AreStood servers w →
    AreWhole (servers a).cache → Ascend (servers a).cache → AreSegmentsOf segments set → missing_bitmaps set (servers a).cache ≡ [] →
    let sight = sight_of segments set (servers a).cache in AreOfDisk sight.cached sight.held sight.all segments (whole_disk w)
