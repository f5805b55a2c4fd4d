use Rattle.std.proofs.Common.{◌≡◌, ◌≤◌, true, length}
use Rattle.disk_definitions.specs.Store.{stored}
use Rattle.standing_laws.specs.ReadTree.{place_at, entries_to}
use Rattle.standing_laws.specs.Soundness.{entries_agree}
use Rattle.disk_reading.specs.Seen.{store_in}
use Rattle.disk_reading.proofs.nodes.read_entries.Given as goal

abbrev pub invariant-loop-q : goal.invariant-loop-q
invariant-loop-q l = record {
  agree : entries_agree (store_in l.segments l.disk) (place_at (store_in l.segments l.disk) (stored l.inode)) l.q ≡ true;
  are : l.entries ≡ entries_to (place_at (store_in l.segments l.disk) (stored l.inode)) l.q;
  few : length l.entries ≤ l.q;
}
