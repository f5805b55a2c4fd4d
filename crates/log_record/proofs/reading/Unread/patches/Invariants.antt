use Rattle.std.proofs.Common.{◌≡◌, ◌-◌}
use Rattle.disk_definitions.specs.Records.{all_read, patch_read}
use Rattle.log_record.proofs.RecordSteps.{read_behind}
use Rattle.log_record.proofs.reading.Unread.patches.Given as goal

abbrev pub invariant-loop : goal.invariant-loop
invariant-loop l = read_behind patch_read l.patches (l.count - l.counter) l.self.bytes.now ≡ all_read patch_read l.count l.fn.self.bytes.now
