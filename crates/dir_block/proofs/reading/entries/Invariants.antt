-- So many entries are read, and there are seven.
use Rattle.std.proofs.Common.{◌≡◌, length, take}
use Rattle.disk_definitions.specs.Directories.{entries_in}
use Rattle.dir_block.proofs.reading.entries.Given as goal

abbrev pub invariant-loop-place : goal.invariant-loop-place
invariant-loop-place l = record {
  seven : length l.entries ≡ 7;
  read : take l.place l.entries ≡ entries_in l.place l.from;
}
