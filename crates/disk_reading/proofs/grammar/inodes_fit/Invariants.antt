use Rattle.std.proofs.Common.{◌≡◌}
use Rattle.sector_bytes.specs.Sectors.{sectors_of}
use Rattle.standing_laws.specs.Below.{all_below}
use Rattle.disk_reading.specs.Fits.{inode_fits}
use Rattle.disk_reading.proofs.grammar.inodes_fit.Given as goal

abbrev pub invariant-loop-i : goal.invariant-loop-i
invariant-loop-i l = l.all ≡ all_below l.i (inode_fits l.most (sectors_of l.disk))
