-- The laws of patches, at the bytes of segments.
use Rattle.std.proofs.Common.{◌≡◌, ◌≤◌, ◌∷◌, length, sym, ap, ◌∙◌, arith, length-append}
use Rattle.sector_bytes.specs.Blocks.{spelling}
use Rattle.frang_base.specs.declared.bitmap.Bitmap.{Bitmap}
use Rattle.sector_bytes.specs.Bytes.{zeros}
use Rattle.disk_definitions.specs.Bitmaps.{bitmap_bytes, large_byte}
use Rattle.sector_bytes.proofs.PatchLaws.{patches_laid, edited_by_patches, spelled_version}
use Rattle.disk_definitions.proofs.WrittenFields.{length_zeros}
use Rattle.bitmap_block.specs.Fields.{FillsItsFields}
use Rattle.bitmap_block.proofs.laws.patches_make_the_new_sector.Goals as goal

length_of_segment : (x : Bitmap) → FillsItsFields x → length (bitmap_bytes x) ≡ 512
length_of_segment x h = omega (arith, length-append x.states (large_byte x.large ∷ zeros 239), length_zeros 239, h.2)

same_length : (old new : Bitmap) → FillsItsFields old → FillsItsFields new → length (bitmap_bytes old) ≡ length (bitmap_bytes new)
same_length old new r s = length_of_segment old r ∙ sym (length_of_segment new s)

long : (x : Bitmap) → FillsItsFields x → 8 ≤ length (bitmap_bytes x)
long x r = let h = length_of_segment x r in omega arith

pub returns : goal.returns
returns c = record {
  laid = λ old new r s. patches_laid (bitmap_bytes old) (bitmap_bytes new) (long old r) (same_length old new r s);
  edited = λ x old new r s p v. edited_by_patches x (bitmap_bytes old) (bitmap_bytes new) (long old r) (same_length old new r s) p (ap (spelling 7) v ∙ spelled_version new.version s.0);
}
