use Rattle.std.proofs.Common.{◌≡◌, ◌++◌, drop}
use Rattle.disk_definitions.specs.Logs as logs
use Rattle.log_reading.proofs.records.records_among.Given as goal

abbrev pub invariant-loop-at : goal.invariant-loop-at
invariant-loop-at l = l.records.items ++ logs.records_among (drop l.at l.sectors) ≡ logs.records_among l.sectors
