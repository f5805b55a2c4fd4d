use Rattle.std.proofs.Common.{◌≡◌, ◌≤◌, ◌*◌, [], length, slice_index}
use Rattle.disk_definitions.specs.Naming.{place_of}
use Rattle.host_tree.specs.Listing.{placed}
use Rattle.host_tree.specs.Reading.{store_read}
use Rattle.host_tree.proofs.directory.entries_of.Given as goal

-- the sectors so far
abbrev pub invariant-loop-j : goal.invariant-loop-j
invariant-loop-j l = record {
  are : l.entries ≡ placed [] (place_of (store_read l.sectors.segments l.sectors.read).place (slice_index l.inode.small)) (7 * l.j);
  few : length l.entries ≤ 7 * l.j;
}
