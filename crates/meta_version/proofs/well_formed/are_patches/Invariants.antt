use Rattle.std.proofs.Common.{◌≡◌, drop}
use Rattle.sector_bytes.specs.Changes.{are_patches}
use Rattle.meta_version.proofs.well_formed.are_patches.Given as goal

abbrev pub invariant-loop-patch : goal.invariant-loop-patch
invariant-loop-patch l = are_patches l.from (drop l.patch-index l.patches) ≡ are_patches 8 l.patches
