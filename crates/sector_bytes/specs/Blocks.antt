-- Blocks, the bytes of a sector, with a version in the first eight; and bytes laid over one.
use Rattle.std.specs.Prelude.{ℕ, zero, suc, ◌+◌, ◌/◌, ◌%◌, List, [], ◌∷◌, ◌++◌, length, take, drop}
use Rattle.frang_base.specs.declared.change.Patch.{Patch}
use Rattle.frang_base.specs.declared.limits.TheConstants.{SECTOR_BYTES, VERSION_BYTES}
use Rattle.sector_bytes.specs.Bytes.{number_at, zeros}

-- the bytes of a sector
abbrev pub Block : Type 0
Block = List ℕ

-- the block of zeros
abbrev pub zero_block : Block
zero_block = zeros SECTOR_BYTES

-- the version of a block: the number in its first eight bytes, the lowest first
abbrev pub version_of : Block → ℕ
version_of block = number_at VERSION_BYTES 0 block

-- a number in k bytes and a last one, the lowest first
abbrev pub spelling : ℕ → ℕ → List ℕ
spelling zero n = n ∷ []
spelling (suc k) n = n % 256 ∷ spelling k (n / 256)

-- the block with these bytes from a place on
abbrev pub overwritten : Block → ℕ → List ℕ → Block
overwritten block at bytes = take at block ++ bytes ++ drop (at + length bytes) block

-- the block after these patches, in their order
abbrev pub patched : List Patch → Block → Block
patched [] block = block
patched (p ∷ ps) block = patched ps (overwritten block p.at p.bytes)
