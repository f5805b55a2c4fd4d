-- Where histories over a fresh disk begin: which lock covers each sector, and which sectors have versions; no sector holds bytes of a file.
use Rattle.std.specs.Prelude.{ℕ, ◌≡◌, ◌≤◌, ◌<◌, ◌+◌, ◌==◌, Bool, true, false, if◌then◌else◌, Option, Some, None, List, [], length}
use Rattle.std.specs.Option.{option_and_then, unwrap_or}
use Rattle.frang_base.specs.declared.limits.TheConstants.{ROOT_INODE, RUN_VERSIONS_MAX, SEGMENTS_MAX}
use Rattle.frang_base.specs.declared.lock.LockId.{LockId}
use Rattle.frang_base.specs.declared.lock.LockId.TheVariants as lock
use Rattle.tree_definitions.specs.Tree.{fresh}
use Rattle.sector_bytes.specs.Blocks.{Block}
use Rattle.disk_definitions.specs.declared.region.Region.{Region}
use Rattle.disk_definitions.specs.declared.region.Region.TheVariants as region
use Rattle.disk_definitions.specs.Regions.{sector_of, region_of, free_cover}
use Rattle.sector_world.specs.World.{World, start}
use Rattle.disk_definitions.specs.FreshDisk.{fresh_disk}
use Rattle.line_histories.specs.Following.{Follows}
use Rattle.line_histories.specs.Standing.{StandsNumbered}

-- the lock that covers a sector of a fresh disk: the root's inode has its own, all else is free; parameters and logs have none
abbrev pub fresh_cover : ℕ → ℕ → Option LockId
fresh_cover segments number = if number == sector_of (region.Inode ROOT_INODE) then Some (lock.Node ROOT_INODE) else option_and_then free_cover (region_of segments number)

-- segments and inodes have versions from the start, and the parameters count as if they had one
abbrev pub has_version_at_first : Option Region → Bool
has_version_at_first (Some region.Param) = true
has_version_at_first (Some (region.Segment segment)) = true
has_version_at_first (Some (region.Inode inode)) = true
has_version_at_first _ = false

-- covers, versions and bytes of files are at first those of a fresh disk
pub record AreFresh (segments : ℕ) (home : ℕ → LockId) (logged : ℕ → Bool) (first : ℕ → Option Block) : Type 0 where
  pub covers : (number : ℕ) (held : LockId) → fresh_cover segments number ≡ Some held → home number ≡ held
  pub kinds : (number : ℕ) (place : Region) → region_of segments number ≡ Some place → logged number ≡ has_version_at_first (Some place)
  pub no_bytes : (number : ℕ) → first number ≡ None

-- then covers, kinds, free sectors and written ones are as the disk says, before any history
abbrev pub FreshFollows : Type 0
FreshFollows =
    (segments : ℕ) (home : ℕ → LockId) (logged : ℕ → Bool) (first : ℕ → Option Block) → 1 ≤ segments → segments ≤ SEGMENTS_MAX → AreFresh segments home logged first →
    Follows segments (fresh_disk segments) home logged first []

-- servers over a fresh disk, of which none is mounted
abbrev pub fresh_world : (servers segments : ℕ) → World
fresh_world servers segments =
    start servers (fresh_disk segments) (λ number. has_version_at_first (region_of segments number)) (λ number. false)
    (λ number. unwrap_or (fresh_cover segments number) (lock.Segment 0))

-- they meet the premises of the laws of histories, with so many numbers of operations as versions are left
pub record Begins (segments : ℕ) (numbers : List ℕ) (w : World) : Type 0 where
  pub stands : StandsNumbered segments w.opening (record { tree = fresh segments; numbers = numbers })
  pub follows : Follows segments w.opening w.home w.logged w.first []
  pub parameters : w.logged 0 ≡ true

abbrev pub FreshWorldsBegin : Type 0
FreshWorldsBegin =
    (servers segments : ℕ) (numbers : List ℕ) → 1 ≤ segments → segments ≤ SEGMENTS_MAX → 1 + length numbers < RUN_VERSIONS_MAX →
    Begins segments numbers (fresh_world servers segments)
