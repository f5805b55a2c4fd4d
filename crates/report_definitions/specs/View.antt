-- What a check sees of a disk, and what is reached on it: inode 0, and what the directories name that are reached.
use Rattle.std.specs.Prelude.{◌≡◌, ℕ, ◌*◌, Bool, true, ◌&&◌, ◌==◌, if◌then◌else◌, nat_le, nat_lt, Option, Some, None, List, [], ◌∷◌, is_some}
use Rattle.frang_base.specs.declared.limits.TheConstants.{BLOCK_ENTRIES, DIRECTORY_ENTRIES_MAX, KIND_DIRECTORY}
use Rattle.disk_definitions.specs.declared.region.Region.TheVariants as region
use Rattle.disk_definitions.specs.Regions.{sector_of}
use Rattle.disk_definitions.specs.Inodes.{inode_in}
use Rattle.sector_bytes.specs.Sectors.{Sectors}
use Rattle.disk_definitions.specs.Store.{Store, StoredNode, StoredEntry, store_of, segment_at, directory_at}
use Rattle.disk_definitions.specs.Standing.{version_at}
use Rattle.standing_laws.specs.Below.{lists}
use Rattle.standing_laws.specs.ReadTree.{place_at}
use Rattle.standing_laws.specs.Soundness.{has_kind}

-- what the sectors of so many segments say, where what isn't in its grammar says nothing; which segments and inodes are in their grammar with
-- a version that isn't too great; which parts of small blocks are in the grammar of directories, and which have a version that isn't too great
pub record View : Type 0 where
  pub segments : ℕ
  pub store : Store
  pub segment_fits : ℕ → Bool
  pub inode_fits : ℕ → Bool
  pub is_directory : ℕ → ℕ → Bool  -- by block, and part below 8
  pub is_recent : ℕ → ℕ → Bool  -- by block, and part below 8

-- the version of a sector is at most so much
abbrev pub is_recent_at : ℕ → Sectors → ℕ → Bool
is_recent_at most sectors sector = nat_le (version_at sectors sector) most

-- what is seen of the sectors, where versions are at most so much
abbrev pub view_of : ℕ → ℕ → Sectors → View
view_of most segments sectors = record {
  segments = segments;
  store = store_of segments sectors;
  segment_fits = λ k. is_some (segment_at sectors k) && is_recent_at most sectors (sector_of (region.Segment k));
  inode_fits = λ i. is_some (inode_in (sectors (sector_of (region.Inode i)))) && is_recent_at most sectors (sector_of (region.Inode i));
  is_directory = λ b p. is_some (directory_at sectors b p);
  is_recent = λ b p. is_recent_at most sectors (sector_of (region.Small b p));
}

-- the entry at a place of an inode that is a directory, of which there are 56 to a block
abbrev pub entry_in : Store → Option StoredNode → ℕ → Option StoredEntry
entry_in s None q = None
entry_in s (Some x) q = if x.kind == KIND_DIRECTORY && nat_lt q (BLOCK_ENTRIES * x.blocks) then place_at s x q else None

abbrev pub entry_of : Store → ℕ → ℕ → Option StoredEntry
entry_of s d q = entry_in s (s.inode d) q

-- the inode that an entry names, where that is in use and of the entry's kind
abbrev pub named_by : Store → Option StoredEntry → Option ℕ
named_by s None = None
named_by s (Some e) = if has_kind (s.inode e.inode) e.kind then Some e.inode else None

-- an inode that is a directory names another one
abbrev pub names : Store → ℕ → ℕ → Bool
names s d i = lists (λ q. named_by s (entry_of s d q)) DIRECTORY_ENTRIES_MAX i

-- each of these is named by the one before it, the first by an inode, and the last is another inode
abbrev pub leads : Store → ℕ → List ℕ → ℕ → Bool
leads s a [] i = a == i
leads s a (b ∷ path) i = names s a b && leads s b path i

-- the inodes that are reached: inode 0, all that a reached one names, and none to which no path leads from inode 0
pub record IsReach (s : Store) (reached : ℕ → Bool) : Type 0 where
  pub root : reached 0 ≡ true
  pub closed : (d i : ℕ) → reached d ≡ true → names s d i ≡ true → reached i ≡ true
  pub led : (i : ℕ) → reached i ≡ true → (path : List ℕ) × (leads s 0 path i ≡ true)
