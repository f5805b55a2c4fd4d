-- The laws of the definition, at blocks of 512 bytes.
use Rattle.std.proofs.Common.{sym, ◌∙◌, arith}
use Rattle.sector_bytes.proofs.PatchLaws.{patches_laid, edited_by_patches, no_patches}
use Rattle.block_patches.proofs.laws.patches_make_the_new_block.Goals as goal

pub returns : goal.returns
returns c = record {
  laid = λ old new h g. patches_laid old new (omega arith) (h ∙ sym g);
  edited = λ x old new h g. edited_by_patches x old new (omega arith) (h ∙ sym g);
  none = λ old new h g. no_patches old new (omega arith) (h ∙ sym g);
}
