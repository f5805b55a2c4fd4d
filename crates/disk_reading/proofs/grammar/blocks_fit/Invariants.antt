use Rattle.std.proofs.Common.{◌≡◌}
use Rattle.sector_bytes.specs.Sectors.{sectors_of}
use Rattle.standing_laws.specs.Below.{all_below}
use Rattle.disk_reading.specs.Fits.{block_fits}
use Rattle.disk_reading.specs.Seen.{store_in}
use Rattle.disk_reading.proofs.grammar.blocks_fit.Given as goal

abbrev pub invariant-loop-block : goal.invariant-loop-block
invariant-loop-block l = l.all ≡ all_below l.block (λ k. block_fits l.most (sectors_of l.disk) ((store_in l.segments l.disk).use_of k) k)
