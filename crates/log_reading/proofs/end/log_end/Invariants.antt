use Rattle.std.proofs.Common.{◌≡◌, drop}
use Rattle.std.specs.Prelude.{max, fold}
use Rattle.std.specs.List.{filter}
use Rattle.log_reading.specs.Decoded.{end_of, is_full, numbers_of}
use Rattle.log_reading.proofs.end.log_end.Given as goal

abbrev pub invariant-loop-sector : goal.invariant-loop-sector
invariant-loop-sector l = fold max l.end (filter (is_full l.sectors) (numbers_of (drop l.sector-index l.sectors))) ≡ end_of l.sectors
