use Rattle.std.proofs.Common.{◌≡◌, ◌+◌, length, drop}
use Rattle.std.specs.List.{flat_map}
use Rattle.disk_definitions.specs.Records.{patch_bytes}
use Rattle.log_record.proofs.writing.change_length.Given as goal

abbrev pub invariant-loop-patch : goal.invariant-loop-patch
invariant-loop-patch l = l.bytes + length (flat_map patch_bytes (drop l.patch-index l.patches)) ≡ 18 + length (flat_map patch_bytes l.patches)
