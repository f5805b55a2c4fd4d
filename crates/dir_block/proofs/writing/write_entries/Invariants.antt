-- So many entries are written, and the length stays.
use Rattle.std.proofs.Common.{◌≡◌, length, take, ◌*◌}
use Rattle.std.specs.List.{flat_map}
use Rattle.disk_definitions.specs.Directories.{entry_bytes}
use Rattle.dir_block.proofs.writing.write_entries.Given as goal

abbrev pub invariant-loop-place : goal.invariant-loop-place
invariant-loop-place l = record {
  whole : length l.to ≡ 504;
  done : take (l.place * 72) l.to ≡ flat_map entry_bytes (take l.place l.entries);
}
