use Rattle.std.proofs.Common.{◌≡◌, nat_le, drop}
use Rattle.std.specs.List.{list_all}
use Rattle.log_reading.specs.Decoded.{numbers_of}
use Rattle.log_reading.proofs.end.are_up_to.Given as goal

abbrev pub invariant-loop-sector : goal.invariant-loop-sector
invariant-loop-sector l = list_all (λ n. nat_le n l.end) (numbers_of (drop l.sector-index l.sectors)) ≡ list_all (λ n. nat_le n l.end) (numbers_of l.sectors)
