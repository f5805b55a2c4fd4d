-- Changes of blocks, as records of a log name them: when one is well formed, and what it makes of a block.
use Rattle.std.specs.Prelude.{ℕ, ◌+◌, ◌^◌, ◌&&◌, ◌≤◌, Bool, true, List, [], ◌∷◌, ◌++◌, length, drop, nat_lt, nat_le, if◌then◌else◌}
use Rattle.frang_base.specs.declared.change.Patch.{Patch}
use Rattle.frang_base.specs.declared.change.Change.{Change}
use Rattle.frang_base.specs.declared.limits.TheConstants.{SECTOR_BYTES, SECTORS_END, VERSION_BYTES}
use Rattle.sector_bytes.specs.Blocks.{Block, version_of, spelling, patched}

-- the block with a change laid over it: the patches are made and the version is the change's
unfoldable pub changed : Block → Change → Block
changed block change = spelling 7 change.version ++ drop VERSION_BYTES (patched change.patches block)

-- the block is older than the change
abbrev pub is_older : Block → Change → Bool
is_older block change = nat_lt (version_of block) change.version

-- the block after the change is applied, which one that isn't older skips
abbrev pub applied : Block → Change → Block
applied block change = if is_older block change then changed block change else block

-- patches that begin behind the version and end within the block
abbrev pub Fit : List Patch → Type 0
Fit [] = Unit {0}
Fit (p ∷ ps) = (VERSION_BYTES ≤ p.at) × (p.at + length p.bytes ≤ SECTOR_BYTES) × Fit ps

-- the patches ascend from this place on without overlapping, each has a byte, and they end at 512 or earlier
abbrev pub are_patches : ℕ → List Patch → Bool
are_patches from [] = true
are_patches from (patch ∷ patches) =
    nat_le from patch.at && nat_lt 0 (length patch.bytes) && nat_le (patch.at + length patch.bytes) SECTOR_BYTES
    && are_patches (patch.at + length patch.bytes) patches

-- the change is one that a record may hold: it has a patch, and none before byte 8, where the version ends
abbrev pub is_change : Change → Bool
is_change change =
    nat_lt change.sector.0 SECTORS_END && nat_lt change.version (2 ^ 64) && nat_lt 0 (length change.patches)
    && are_patches VERSION_BYTES change.patches
