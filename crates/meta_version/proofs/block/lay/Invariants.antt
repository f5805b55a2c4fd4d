use Rattle.std.proofs.Common.{◌≡◌, drop}
use Rattle.sector_bytes.specs.Blocks.{patched}
use Rattle.meta_version.proofs.BlockBytes.{FitFrom}
use Rattle.meta_version.proofs.block.lay.Given as goal

abbrev pub invariant-loop-patch : goal.invariant-loop-patch
invariant-loop-patch l = record {
  rest : patched (drop l.patch-index l.patch-items) l.block ≡ patched l.patch-items l.fn.block;
  fit : FitFrom l.patch-items l.patch-index;
}
