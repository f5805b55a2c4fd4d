use Rattle.std.proofs.Common.{◌≡◌, map, take}
use Rattle.serde_json.specs.View.{view}
use Rattle.fsck_report.proofs.Lines.{value_of}
use Rattle.fsck_report.proofs.line.fault_values.Given as goal

abbrev pub invariant-loop-fault : goal.invariant-loop-fault
invariant-loop-fault l = map view l.values.items ≡ map value_of (take l.fault-index l.faults)
