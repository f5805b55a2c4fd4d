use Rattle.std.proofs.Common.{◌≡◌, ◌≤◌, ◌++◌, drop, true, vec_capacity}
use Rattle.std.specs.List.{AllByRecursion, flat_map}
use Rattle.sector_bytes.specs.Changes.{is_change}
use Rattle.disk_definitions.specs.Records.{change_bytes, record_bytes}
use Rattle.log_record.proofs.writing.push_record.Given as goal

abbrev pub invariant-loop-change : goal.invariant-loop-change
invariant-loop-change l = record {
  fit : AllByRecursion (λ c. is_change c ≡ true) (drop l.change-index l.changes);
  bytes : l.body.items ++ flat_map change_bytes (drop l.change-index l.changes) ≡ l.fn.body.items ++ record_bytes l.redo.changes;
  capacity : vec_capacity l.fn.body ≤ vec_capacity l.body;
}
