use Rattle.std.proofs.Common.{◌≡◌}
use Rattle.log_reading.specs.Decoded.{sector_with}
use Rattle.log_reading.proofs.Windows.{numbers_from}
use Rattle.std.specs.List.{filter_map}
use Rattle.log_reading.proofs.end.sectors_up_to.Given as goal

abbrev pub invariant-loop-k : goal.invariant-loop-k
invariant-loop-k l = l.read.items ≡ filter_map (sector_with l.sectors) (numbers_from l.end l.k)
