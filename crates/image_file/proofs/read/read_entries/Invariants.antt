use Rattle.std.proofs.Common.{◌≡◌, ◌+◌, ◌<◌, ◌^◌, length}
use Rattle.image_file.specs.Images.{entries_in}
use Rattle.image_file.specs.Entries.{behind, EndsBy}
use Rattle.image_file.proofs.read.read_entries.Given as goal

-- the sectors so far and what the others give are all
abbrev pub invariant-loop-left : goal.invariant-loop-left
invariant-loop-left l = record {
  read : behind l.disk (entries_in l.segments l.last l.at l.left l.rest) ≡ behind l.fn.disk (entries_in l.segments 0 536 l.count l.bytes);
  ends : EndsBy l.last l.disk;
  fits : l.at + length l.rest < 2 ^ 64;
}

-- each turn takes an entry of the bytes, however many are counted
abbrev pub decreases-loop-left : goal.decreases-loop-left
decreases-loop-left l = length l.rest
