-- The bytes that edits leave in a part of a block.
use Rattle.std.specs.Prelude.{◌≡◌, ℕ, ◌/◌, ◌%◌, List, map, slice_index}
use Rattle.std.specs.List.{Contains}
use Rattle.frang_base.specs.declared.limits.TheConstants.{SECTOR_BYTES}
use Rattle.tree_definitions.specs.Numbers.{below}
use Rattle.disk_definitions.specs.Store.{Store}
use Rattle.disk_definitions.specs.Edits.{Edit, edited_all}
use Rattle.disk_definitions.specs.Edits.Edit.{SetBytes, SetLargeBytes}

-- each edit that writes this part of a small block writes these bytes
abbrev pub WriteThese : List Edit → (block part : ℕ) → List ℕ → Type 0
WriteThese edits block part stands = (bytes : ℕ → ℕ) → Contains edits (SetBytes block part bytes) → map bytes (below SECTOR_BYTES) ≡ stands

-- none writes it
abbrev pub WriteNone : List Edit → (block part : ℕ) → Type 0
WriteNone edits block part = (bytes : ℕ → ℕ) → Contains edits (SetBytes block part bytes) → ⊥

-- so of a large block
abbrev pub WriteTheseLarge : List Edit → (large part : ℕ) → List ℕ → Type 0
WriteTheseLarge edits large part stands = (bytes : ℕ → ℕ) → Contains edits (SetLargeBytes large part bytes) → map bytes (below SECTOR_BYTES) ≡ stands

abbrev pub WriteNoneLarge : List Edit → (large part : ℕ) → Type 0
WriteNoneLarge edits large part = (bytes : ℕ → ℕ) → Contains edits (SetLargeBytes large part bytes) → ⊥

-- the edited store has a byte of these
abbrev pub EditedBytesStand : Type 0
EditedBytesStand =
    (store : Store) (edits : List Edit) (block index : ℕ) (stands : List ℕ) → WriteThese edits block (index / SECTOR_BYTES) stands →
    (WriteNone edits block (index / SECTOR_BYTES) → store.byte block index ≡ slice_index stands (index % SECTOR_BYTES)) →
    (edited_all store edits).byte block index ≡ slice_index stands (index % SECTOR_BYTES)

abbrev pub EditedLargeBytesStand : Type 0
EditedLargeBytesStand =
    (store : Store) (edits : List Edit) (large index : ℕ) (stands : List ℕ) → WriteTheseLarge edits large (index / SECTOR_BYTES) stands →
    (WriteNoneLarge edits large (index / SECTOR_BYTES) → store.large_byte large index ≡ slice_index stands (index % SECTOR_BYTES)) →
    (edited_all store edits).large_byte large index ≡ slice_index stands (index % SECTOR_BYTES)
