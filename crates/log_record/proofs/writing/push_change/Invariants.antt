use Rattle.std.proofs.Common.{◌≡◌, ◌≤◌, ◌++◌, drop, vec_capacity}
use Rattle.std.specs.List.{AllByRecursion, flat_map}
use Rattle.disk_definitions.specs.Records.{change_bytes, patch_bytes}
use Rattle.log_record.proofs.RecordBack.{IsShort}
use Rattle.log_record.proofs.writing.push_change.Given as goal

abbrev pub invariant-loop-patch : goal.invariant-loop-patch
invariant-loop-patch l = record {
  short : AllByRecursion IsShort (drop l.patch-index l.patch-items);
  bytes : l.body.items ++ flat_map patch_bytes (drop l.patch-index l.patch-items) ≡ l.fn.body.items ++ change_bytes l.change;
  capacity : vec_capacity l.fn.body ≤ vec_capacity l.body;
}
