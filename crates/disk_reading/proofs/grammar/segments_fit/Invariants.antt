use Rattle.std.proofs.Common.{◌≡◌}
use Rattle.sector_bytes.specs.Sectors.{sectors_of}
use Rattle.standing_laws.specs.Below.{all_below}
use Rattle.disk_reading.specs.Fits.{segment_fits}
use Rattle.disk_reading.proofs.grammar.segments_fit.Given as goal

abbrev pub invariant-loop-k : goal.invariant-loop-k
invariant-loop-k l = l.all ≡ all_below l.k (segment_fits l.most (sectors_of l.disk))
