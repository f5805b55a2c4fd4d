use Rattle.std.proofs.Common.{◌≡◌, drop, map}
use Rattle.std.specs.Prelude.{max, fold}
use Rattle.disk_definitions.specs.Logs as logs
use Rattle.log_reading.proofs.records.greatest_operation.Given as goal

abbrev pub invariant-loop-record : goal.invariant-loop-record
invariant-loop-record l = fold max l.greatest (map (λ r. r.op.0) (drop l.record-index l.records)) ≡ logs.greatest_operation l.records
