use Rattle.std.proofs.Common.{◌≡◌}
use Rattle.sector_bytes.specs.Sectors.{sectors_of}
use Rattle.standing_laws.specs.Below.{all_below}
use Rattle.disk_reading.specs.Fits.{part_fits}
use Rattle.disk_reading.proofs.grammar.parts_fit.Given as goal

abbrev pub invariant-loop-p : goal.invariant-loop-p
invariant-loop-p l = l.all ≡ all_below l.p (part_fits l.most (sectors_of l.disk) l.block)
