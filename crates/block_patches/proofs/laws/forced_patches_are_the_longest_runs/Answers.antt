-- The laws of the definition, at blocks of 512 bytes.
use Rattle.std.proofs.Common.{sym, ◌∙◌, arith}
use Rattle.sector_bytes.proofs.PatchLaws.{forced_patches_apart, forced_patches_new, forced_patched}
use Rattle.block_patches.proofs.laws.forced_patches_are_the_longest_runs.Goals as goal

pub returns : goal.returns
returns c = record {
  apart = forced_patches_apart;
  changed = λ f old new h. forced_patches_new f old new (omega arith);
  forced = λ f old new k h g i j. forced_patched f old new k (h ∙ sym g) i (omega arith);
}
