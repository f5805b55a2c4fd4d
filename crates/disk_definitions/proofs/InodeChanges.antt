-- Patches between two inodes make the new one's sector of the old one's.
use Rattle.std.proofs.Common.{◌≡◌, ◌≤◌, length, sym, ap, ◌∙◌, arith}
use Rattle.frang_base.specs.declared.change.Change.{Change}
use Rattle.sector_bytes.specs.Blocks.{patched, spelling}
use Rattle.sector_bytes.specs.Changes.{changed}
use Rattle.disk_definitions.specs.declared.inode.Inode.{Inode}
use Rattle.disk_definitions.specs.Inodes.{inode_bytes}
use Rattle.sector_bytes.specs.Patches.{patches_of}
use Rattle.disk_definitions.specs.Ranges.{InodeRange}
use Rattle.disk_definitions.proofs.InodeLaws.{length_inode_bytes}
use Rattle.sector_bytes.proofs.PatchLaws.{patches_laid, edited_by_patches, spelled_version}

same_length : (old new : Inode) → InodeRange old → InodeRange new → length (inode_bytes old) ≡ length (inode_bytes new)
same_length old new r s = length_inode_bytes old r ∙ sym (length_inode_bytes new s)

long : (x : Inode) → InodeRange x → 8 ≤ length (inode_bytes x)
long x r = let h = length_inode_bytes x r in omega arith

-- laid over the old inode's block they give the new one's, but for the version
pub inode_patched : (old new : Inode) → InodeRange old → InodeRange new → patched (patches_of (inode_bytes old) (inode_bytes new)) (inode_bytes old) ≡ inode_bytes (record new { version = old.version })
inode_patched old new r s = patches_laid (inode_bytes old) (inode_bytes new) (long old r) (same_length old new r s)

-- a change with them and with the new version makes the new one's block
pub inode_edited : (x : Change) (old new : Inode) → InodeRange old → InodeRange new → x.patches ≡ patches_of (inode_bytes old) (inode_bytes new) → x.version ≡ new.version → changed (inode_bytes old) x ≡ inode_bytes new
inode_edited x old new r s p v =
    edited_by_patches x (inode_bytes old) (inode_bytes new) (long old r) (same_length old new r s) p (ap (spelling 7) v ∙ spelled_version new.version s.version)
