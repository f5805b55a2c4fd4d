use Rattle.std.proofs.Common.{◌≡◌, drop}
use Rattle.disk_definitions.specs.Logs as logs
use Rattle.log_reading.proofs.records.are_parts.Given as goal

abbrev pub invariant-loop-sector : goal.invariant-loop-sector
invariant-loop-sector l = record {
  place : l.part ≡ l.sector-index;
  parts : logs.are_parts l.first l.part (drop l.sector-index l.parts) ≡ logs.are_parts l.first 0 l.parts;
}
