-- A file gets other cells and another time, with other blocks where it is longer or shorter.
use Rattle.std.specs.Prelude.{◌*◌, ◌≡◌, ℕ, zero, suc, ◌<◌, ◌≤◌, Bool, true, false, ◌==◌, ◌&&◌, if◌then◌else◌, nat_lt, Option, Some, None, List, length, is_some}
use Rattle.std.specs.List.{slice_get}
use Rattle.frang_base.specs.declared.limits.TheConstants.{BLOCK_ENTRIES, LARGE_BLOCK_SECTORS, SECTOR_BYTES, SMALL_BLOCK_BYTES, SMALL_BYTES_MAX}
use Rattle.tree_definitions.specs.declared.cells.Cell.{Cell}
use Rattle.tree_definitions.specs.declared.node.Node.TheVariants.{File}
use Rattle.tree_definitions.specs.Tree.{small_blocks_of}
use Rattle.frang_base.specs.Functions.{put}
use Rattle.disk_definitions.specs.Store.{Store, byte_at}
use Rattle.disk_definitions.specs.Store.Use.{Fresh, Bytes}
use Rattle.disk_definitions.specs.Standing.{IsMetadata}
use Rattle.disk_definitions.specs.Naming.{Naming, Nodes, Pictures, inode_of, Allows}
use Rattle.disk_definitions.specs.Namings.{is_owned_by, is_of}
use Rattle.disk_definitions.specs.ChangeLaws.{Leads, FilesFit}

-- which of the first so many blocks has this number
abbrev pub index_in : (ℕ → ℕ) → ℕ → ℕ → Option ℕ
index_in block zero k = None
index_in block (suc n) k = if block n == k then Some n else index_in block n k

-- the cells take a large block, and this is it
abbrev pub is_large_of : List Cell → ℕ → ℕ → Bool
is_large_of cells large g = nat_lt SMALL_BYTES_MAX (length cells) && g == large

-- which of the file's small blocks has this number
abbrev pub index_of : List Cell → (ℕ → ℕ) → ℕ → Option ℕ
index_of cells block = index_in block (small_blocks_of (length cells))

-- the owner of a small block that is the file's at this index, or that isn't the file's, and before had this owner
abbrev pub owner_after : ℕ → Option ℕ → Option (ℕ × ℕ) → Option (ℕ × ℕ)
owner_after b (Some j) before = Some (b, j)
owner_after b None before = if is_owned_by b before then None else before

-- file b has these blocks
abbrev pub named_resized : Naming → ℕ → List Cell → (ℕ → ℕ) → ℕ → Naming
named_resized n b cells block large = record n {
  block = put n.block b block;
  owner = λ k. owner_after b (index_of cells block k) (n.owner k);
  was = λ k. if is_owned_by b (n.owner k) then false else n.was k;
  large = put n.large b large;
  large_owner = λ g. if is_large_of cells large g then Some b else (if is_of b (n.large_owner g) then None else n.large_owner g);
}

-- blocks for the new cells: of those that the file has it keeps what it needs, and the others were free and differ
pub record HasBlocks (s : Store) (n : Naming) (b : ℕ) (old new : List Cell) (block : ℕ → ℕ) (large : ℕ) : Type 0 where
  pub kept : (j : ℕ) → j < small_blocks_of (length old) → j < small_blocks_of (length new) → block j ≡ n.block b j
  pub fresh : (j : ℕ) → small_blocks_of (length old) ≤ j → j < small_blocks_of (length new) → s.use_of (block j) ≡ Fresh
  pub apart : (i j : ℕ) → small_blocks_of (length old) ≤ i → i < small_blocks_of (length new) → small_blocks_of (length old) ≤ j → j < small_blocks_of (length new) → block i ≡ block j → i ≡ j
  pub large_kept : SMALL_BYTES_MAX < length old → SMALL_BYTES_MAX < length new → large ≡ n.large b
  pub large_free : length old ≤ SMALL_BYTES_MAX → SMALL_BYTES_MAX < length new → s.large_bit large ≡ false

-- the stores before and after a file gets other cells and another time, by their values: its inode has the new size, blocks and time, those that it has no more are
-- free, each byte is allowed by its cell, and all else is the same where it counts
pub record IsResized (s t : Store) (n : Naming) (b : ℕ) (cells : List Cell) (links when : ℕ) (block : ℕ → ℕ) (large : ℕ) : Type 0 where
  pub inode : (i : ℕ) → t.inode i ≡ put s.inode (n.inode b) (Some (inode_of (n.stamp b) block large (File cells links when))) i
  pub bit : (i : ℕ) → t.bit i ≡ s.bit i
  pub uses : (k : ℕ) → t.use_of k ≡ (if is_some (index_of cells block k) then Bytes else (if is_owned_by b (n.owner k) then Fresh else s.use_of k))
  pub large_bits : (g : ℕ) → t.large_bit g ≡ (if is_large_of cells large g then true else (if is_of b (n.large_owner g) then false else s.large_bit g))
  pub places : (k p : ℕ) → p < BLOCK_ENTRIES → IsMetadata (t.use_of k) → t.place k p ≡ s.place k p
  pub bytes : (k j : ℕ) → j < SMALL_BLOCK_BYTES → t.use_of k ≡ Bytes → index_of cells block k ≡ None → t.byte k j ≡ s.byte k j
  pub large_bytes : (g j : ℕ) → j < LARGE_BLOCK_SECTORS * SECTOR_BYTES → t.large_bit g ≡ true → is_large_of cells large g ≡ false → t.large_byte g j ≡ s.large_byte g j
  pub allowed : (j : ℕ) (c : Cell) → slice_get cells j ≡ Some c → Allows c (byte_at t block large j)

abbrev pub FilesAreResized : Type 0
FilesAreResized = (s t : Store) (at : Nodes) (n : Naming) (b links before when : ℕ) (old new : List Cell) (block : ℕ → ℕ) (large : ℕ) → Pictures s at n → FilesFit at → at b ≡ Some (File old links before) → HasBlocks s n b old new block large → IsResized s t n b new links when block large →
    Leads s t at n (named_resized n b new block large) b (Some (File new links when))

-- a file that gets no longer does with the blocks that it has
abbrev pub OwnBlocksDo : Type 0
OwnBlocksDo = (s : Store) (n : Naming) (b : ℕ) (old new : List Cell) → length new ≤ length old → HasBlocks s n b old new (n.block b) (n.large b)
