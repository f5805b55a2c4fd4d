-- The laws of patches, at the bytes of sectors of directories.
use Rattle.std.proofs.Common.{◌≡◌, ◌≤◌, length, sym, ap, ◌∙◌, arith}
use Rattle.sector_bytes.specs.Blocks.{spelling}
use Rattle.disk_definitions.specs.declared.directory.DirSector.{DirSector}
use Rattle.disk_definitions.specs.Directories.{directory_bytes}
use Rattle.sector_bytes.proofs.PatchLaws.{patches_laid, edited_by_patches, spelled_version}
use Rattle.dir_block.specs.Fields.{FillsItsFields}
use Rattle.dir_block.proofs.Storable.{length_of_directory}
use Rattle.dir_block.proofs.laws.patches_make_the_new_sector.Goals as goal

same_length : (old new : DirSector) → FillsItsFields old → FillsItsFields new → length (directory_bytes old) ≡ length (directory_bytes new)
same_length old new r s = length_of_directory old r ∙ sym (length_of_directory new s)

long : (x : DirSector) → FillsItsFields x → 8 ≤ length (directory_bytes x)
long x r = let h = length_of_directory x r in omega arith

pub returns : goal.returns
returns c = record {
  laid = λ old new r s. patches_laid (directory_bytes old) (directory_bytes new) (long old r) (same_length old new r s);
  edited = λ x old new r s p v. edited_by_patches x (directory_bytes old) (directory_bytes new) (long old r) (same_length old new r s) p (ap (spelling 7) v ∙ spelled_version new.version s.0);
}
