use Rattle.std.proofs.Common.{◌≡◌, ◌+◌, length, drop}
use Rattle.std.specs.List.{flat_map}
use Rattle.disk_definitions.specs.Records.{change_bytes, record_bytes}
use Rattle.log_record.proofs.writing.body_length.Given as goal

abbrev pub invariant-loop-change : goal.invariant-loop-change
invariant-loop-change l = l.bytes + length (flat_map change_bytes (drop l.change-index l.changes)) ≡ length (record_bytes l.changes)
