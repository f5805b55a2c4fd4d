-- The change of one thing of a store, and of several one after another.
use Rattle.std.specs.Prelude.{ℕ, ◌/◌, ◌%◌, Bool, ◌==◌, if◌then◌else◌, Option, List, [], ◌∷◌}
use Rattle.frang_base.specs.declared.limits.TheConstants.{SECTOR_BYTES}
use Rattle.frang_base.specs.Functions.{put, put2}
use Rattle.disk_definitions.specs.Store.{Store, StoredNode, StoredEntry, Use}

-- f with these 512 values in a part of k
abbrev pub put_part : (ℕ → ℕ → ℕ) → ℕ → ℕ → (ℕ → ℕ) → ℕ → ℕ → ℕ
put_part f k part bytes i j = if i == k then (if j / SECTOR_BYTES == part then bytes (j % SECTOR_BYTES) else f i j) else f i j

-- an inode, whose time goes into the change of its sector even where it stays if it is `dated`, or its bit; the use of a small block; a place for an entry; a large block's bit; 512 bytes of a small block, which has 8 parts,
-- or of a large one, which has 2,048
pub data Edit : Type 0 where
  SetInode : (i : ℕ) (x : Option StoredNode) (dated : Bool) → Edit
  SetBit : (i : ℕ) (b : Bool) → Edit
  SetUse : (k : ℕ) (u : Use) → Edit
  SetPlace : (k p : ℕ) (e : Option StoredEntry) → Edit
  SetLarge : (g : ℕ) (b : Bool) → Edit
  SetBytes : (k part : ℕ) (bytes : ℕ → ℕ) → Edit
  SetLargeBytes : (g part : ℕ) (bytes : ℕ → ℕ) → Edit

abbrev pub edited : Store → Edit → Store
edited s (SetInode i x dated) = record s { inode = put s.inode i x }
edited s (SetBit i b) = record s { bit = put s.bit i b }
edited s (SetUse k u) = record s { use_of = put s.use_of k u }
edited s (SetPlace k p e) = record s { place = put2 s.place k p e }
edited s (SetLarge g b) = record s { large_bit = put s.large_bit g b }
edited s (SetBytes k part bytes) = record s { byte = put_part s.byte k part bytes }
edited s (SetLargeBytes g part bytes) = record s { large_byte = put_part s.large_byte g part bytes }

-- the first edit first
abbrev pub edited_all : Store → List Edit → Store
edited_all s [] = s
edited_all s (e ∷ es) = edited_all (edited s e) es
