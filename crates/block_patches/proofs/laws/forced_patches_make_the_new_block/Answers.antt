-- The laws of the definition, at blocks of 512 bytes.
use Rattle.std.proofs.Common.{sym, ◌∙◌, arith}
use Rattle.sector_bytes.proofs.PatchLaws.{forced_patches_laid, edited_by_forced_patches, no_forced_patches}
use Rattle.block_patches.proofs.laws.forced_patches_make_the_new_block.Goals as goal

pub returns : goal.returns
returns c = record {
  laid = λ f old new h g. forced_patches_laid f old new (omega arith) (h ∙ sym g);
  edited = λ f x old new h g. edited_by_forced_patches f x old new (omega arith) (h ∙ sym g);
  none = λ f old new h g.
      let both = no_forced_patches f old new (omega arith) (h ∙ sym g) in
      (λ e. ((both.0 e).0, λ k i j. (both.0 e).1 k i (omega arith)), λ e. both.1 (e.0, λ k i j. e.1 k i (omega arith)));
}
