-- What a disk that stands for a tree shows by itself, fact by fact, each of them a test.
use Rattle.std.specs.Prelude.{◌≡◌, ℕ, ◌+◌, ◌-◌, ◌*◌, ◌/◌, ◌%◌, Bool, true, false, not, ◌&&◌, ◌||◌, ◌==◌, if◌then◌else◌, nat_lt, Option, Some, None, length, is_some}
use Rattle.frang_base.specs.declared.limits.TheConstants.{BLOCK_ENTRIES, INODE_BLOCKS_MAX, KIND_DIRECTORY, KIND_LINK, SEGMENT_BLOCKS, SEGMENT_INODES}
use Rattle.tree_definitions.specs.Entries.{Entries, entry_at}
use Rattle.tree_definitions.specs.Tree.{FileTree, node_at}
use Rattle.tree_definitions.specs.Apply.{links_of}
use Rattle.tree_definitions.specs.WellFormed.{one_at, names_of}
use Rattle.sector_bytes.specs.Sectors.{Sectors}
use Rattle.disk_definitions.specs.Store.{Store, StoredNode, StoredEntry, Use, store_of, is_unused}
use Rattle.disk_definitions.specs.Store.Use.{Fresh, Bytes, Empty, Entries as OfEntries}
use Rattle.disk_definitions.specs.Standing.{IsInGrammar, HasVersionsUpTo, IsReached}
use Rattle.standing_laws.specs.Below.{all_below, lists, are_distinct}
use Rattle.standing_laws.specs.ReadTree.{place_at, entries_to, tree_in}

-- both or neither
abbrev pub agree : Bool → Bool → Bool
agree true b = b
agree false b = not b

-- the bit of an inode is set exactly where the inode isn't free
abbrev pub bit_agrees : Store → ℕ → Bool
bit_agrees s i = agree (s.bit i) (is_some (s.inode i))

-- the small block at an index of an inode
abbrev pub block_in : Option StoredNode → ℕ → Option ℕ
block_in None j = None
block_in (Some x) j = if nat_lt j x.blocks then Some (x.small j) else None

-- the small blocks of all inodes in a row, 16 places an inode
abbrev pub block_at : Store → ℕ → Option ℕ
block_at s t = block_in (s.inode (t / INODE_BLOCKS_MAX)) (t % INODE_BLOCKS_MAX)

-- a directory's block holds entries, a file's bytes
abbrev pub is_used_for : ℕ → Use → Bool
is_used_for kind Fresh = false
is_used_for kind Bytes = not (kind == 2)
is_used_for kind Empty = false
is_used_for kind OfEntries = kind == 2

-- the block at an index of an inode, where it has one, is used for what the inode is
abbrev pub use_agrees : Store → Option StoredNode → ℕ → Bool
use_agrees s None j = true
use_agrees s (Some x) j = if nat_lt j x.blocks then is_used_for x.kind (s.use_of (x.small j)) else true

-- a block that was a directory's has no entries
abbrev pub is_cleared : Store → ℕ → Use → Bool
is_cleared s k Fresh = true
is_cleared s k Bytes = true
is_cleared s k Empty = all_below BLOCK_ENTRIES (λ p. not (is_some (s.place k p)))
is_cleared s k OfEntries = true

-- the large block of an inode
abbrev pub large_in : Option StoredNode → Option ℕ
large_in None = None
large_in (Some x) = if nat_lt 0 x.large then Some (x.large - 1) else None

abbrev pub large_at : Store → ℕ → Option ℕ
large_at s i = large_in (s.inode i)

-- it is marked
abbrev pub is_marked : Store → Option ℕ → Bool
is_marked s None = true
is_marked s (Some g) = s.large_bit g

-- an inode in use, of this kind
abbrev pub has_kind : Option StoredNode → ℕ → Bool
has_kind None kind = false
has_kind (Some x) kind = x.kind == kind

-- an entry after those before it has another name than they, and names an inode in use of its kind
abbrev pub entry_agrees : Store → Entries → Option StoredEntry → Bool
entry_agrees s entries None = true
entry_agrees s entries (Some e) = not (is_some (entry_at entries e.name)) && has_kind (s.inode e.inode) e.kind

-- so is each entry of the first n places
abbrev pub entries_agree : Store → (ℕ → Option StoredEntry) → ℕ → Bool
entries_agree s place n = all_below n (λ q. entry_agrees s (entries_to place q) (place q))

-- a directory has as many entries as its size says
abbrev pub directory_agrees : Store → StoredNode → Bool
directory_agrees s x = entries_agree s (place_at s x) (BLOCK_ENTRIES * x.blocks) && length (entries_to (place_at s x) (BLOCK_ENTRIES * x.blocks)) == x.size

-- what a directory or a link holds is as long as its size says
abbrev pub node_agrees : Store → Option StoredNode → Bool
node_agrees s None = true
node_agrees s (Some x) = if x.kind == KIND_DIRECTORY then directory_agrees s x else (if x.kind == KIND_LINK then length x.target == x.size else true)

-- a node is named as often as it has links; the root is never named
abbrev pub links_agree : FileTree → ℕ → Bool
links_agree tree i = names_of tree i + one_at 0 i == links_of (node_at tree i)

-- what the disk says by itself
pub record IsConsistent (segments : ℕ) (s : Store) : Type 0 where
  pub bits : all_below (SEGMENT_INODES * segments) (bit_agrees s) ≡ true
  pub once : are_distinct (block_at s) (SEGMENT_BLOCKS * segments) ≡ true
  pub uses : all_below (SEGMENT_BLOCKS * segments) (λ t. use_agrees s (s.inode (t / INODE_BLOCKS_MAX)) (t % INODE_BLOCKS_MAX)) ≡ true
  pub listed : all_below (SEGMENT_BLOCKS * segments) (λ k. lists (block_at s) (SEGMENT_BLOCKS * segments) k || is_unused (s.use_of k)) ≡ true
  pub cleared : all_below (SEGMENT_BLOCKS * segments) (λ k. is_cleared s k (s.use_of k)) ≡ true
  pub large_once : are_distinct (large_at s) (SEGMENT_INODES * segments) ≡ true
  pub large_marked : all_below (SEGMENT_INODES * segments) (λ i. is_marked s (large_at s i)) ≡ true
  pub large_listed : all_below segments (λ g. lists (large_at s) (SEGMENT_INODES * segments) g || not (s.large_bit g)) ≡ true
  pub nodes : all_below (SEGMENT_INODES * segments) (λ i. node_agrees s (s.inode i)) ≡ true
  pub links : all_below (SEGMENT_INODES * segments) (links_agree (tree_in segments s)) ≡ true
  pub rooted : has_kind (s.inode 0) 2 ≡ true
  pub reached : IsReached (node_at (tree_in segments s))

-- the sectors of so many segments are in their grammar, with versions up to the most, and agree with each other
pub record IsSound (most segments : ℕ) (sectors : Sectors) : Type 0 where
  pub grammar : IsInGrammar segments sectors
  pub versions : HasVersionsUpTo most segments sectors
  pub consistent : IsConsistent segments (store_of segments sectors)
