use Rattle.std.proofs.Common.{◌≡◌, true}
use Rattle.log_reading.specs.Decoded.{sector_with}
use Rattle.log_reading.proofs.Windows.{numbers_from}
use Rattle.std.specs.List.{list_all}
use Rattle.std.specs.Option.{is_some}
use Rattle.log_reading.proofs.end.is_full.Given as goal

abbrev pub invariant-loop-k : goal.invariant-loop-k
invariant-loop-k l = list_all (λ n. is_some (sector_with l.sectors n)) (numbers_from l.end l.k) ≡ true
