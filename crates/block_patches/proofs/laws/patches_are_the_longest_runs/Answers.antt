-- The laws of the definition, at blocks of 512 bytes.
use Rattle.std.proofs.Common.{arith}
use Rattle.sector_bytes.proofs.PatchLaws.{patches_apart, patches_new}
use Rattle.block_patches.proofs.laws.patches_are_the_longest_runs.Goals as goal

pub returns : goal.returns
returns c = record {
  apart = patches_apart;
  changed = λ old new h. patches_new old new (omega arith);
}
