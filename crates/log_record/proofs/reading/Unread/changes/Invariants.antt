use Rattle.std.proofs.Common.{◌≡◌, ◌-◌}
use Rattle.disk_definitions.specs.Records.{all_read, change_read}
use Rattle.log_record.proofs.RecordSteps.{read_behind}
use Rattle.log_record.proofs.reading.Unread.changes.Given as goal

abbrev pub invariant-loop : goal.invariant-loop
invariant-loop l = read_behind change_read l.changes.items (l.count - l.counter) l.self.bytes.now ≡ all_read change_read l.count l.fn.self.bytes.now
