-- All that is tested of a disk before its nodes are read.
use Rattle.std.specs.Prelude.{◌≡◌, ℕ, ◌*◌, ◌/◌, ◌%◌, Bool, true, false, not, ◌&&◌, ◌||◌, List}
use Rattle.frang_base.specs.declared.limits.TheConstants.{INODE_BLOCKS_MAX, KIND_DIRECTORY, ROOT_INODE, SEGMENT_BLOCKS, SEGMENT_INODES}
use Rattle.sector_bytes.specs.Sectors.{Sectors}
use Rattle.disk_definitions.specs.Store.{Store, store_of, is_unused}
use Rattle.standing_laws.specs.Below.{all_below, lists, are_distinct}
use Rattle.standing_laws.specs.Soundness.{bit_agrees, block_at, use_agrees, is_cleared, is_marked, large_at, has_kind, IsSound}
use Rattle.tree_definitions.specs.declared.node.Node.{Node}
use Rattle.standing_laws.specs.ReadTree.{nodes_to}
use Rattle.disk_reading.specs.Fits.{sectors_fit}

-- the sectors fit, and the bitmaps agree with the inodes
abbrev pub marks_agree : ℕ → ℕ → Store → Sectors → Bool
marks_agree most segments s sectors =
    sectors_fit most segments s sectors && all_below (SEGMENT_INODES * segments) (bit_agrees s)
    && all_below (SEGMENT_BLOCKS * segments) (λ t. use_agrees s (s.inode (t / INODE_BLOCKS_MAX)) (t % INODE_BLOCKS_MAX))
    && all_below (SEGMENT_BLOCKS * segments) (λ k. is_cleared s k (s.use_of k))
    && all_below (SEGMENT_INODES * segments) (λ i. is_marked s (large_at s i)) && has_kind (s.inode ROOT_INODE) KIND_DIRECTORY

-- no block is listed twice, and what isn't listed isn't used
abbrev pub owners_agree : ℕ → Store → Bool
owners_agree segments s =
    (are_distinct (block_at s) (SEGMENT_BLOCKS * segments) && all_below (SEGMENT_BLOCKS * segments) (λ k. lists (block_at s) (SEGMENT_BLOCKS * segments) k || is_unused (s.use_of k)))
    && (are_distinct (large_at s) (SEGMENT_INODES * segments) && all_below segments (λ g. lists (large_at s) (SEGMENT_INODES * segments) g || not (s.large_bit g)))

-- the nodes of a sound disk, or that the disk isn't sound
abbrev pub IsSoundReading : ℕ → ℕ → Sectors → List (ℕ × Node) → Bool → Type 0
IsSoundReading most segments sectors nodes true = IsSound most segments sectors × (nodes ≡ nodes_to (store_of segments sectors) (SEGMENT_INODES * segments))
IsSoundReading most segments sectors nodes false = IsSound most segments sectors → ⊥
