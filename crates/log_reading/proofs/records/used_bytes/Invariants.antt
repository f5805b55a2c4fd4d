use Rattle.std.proofs.Common.{◌≡◌, ◌++◌, drop}
use Rattle.disk_definitions.specs.Logs as logs
use Rattle.log_reading.proofs.records.used_bytes.Given as goal

abbrev pub invariant-loop-sector : goal.invariant-loop-sector
invariant-loop-sector l = l.bytes.items ++ logs.used_bytes (drop l.sector-index l.sectors) ≡ logs.used_bytes l.sectors
