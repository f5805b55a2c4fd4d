use Rattle.std.proofs.Common.{◌≡◌, ◌≤◌, length}
use Rattle.disk_definitions.specs.Store.{stored}
use Rattle.standing_laws.specs.Below.{lists}
use Rattle.standing_laws.specs.ReadTree.{place_at, entries_to}
use Rattle.disk_reading.specs.Reach.{AreFlaggedOn}
use Rattle.disk_reading.specs.Seen.{store_in}
use Rattle.report_rules.specs.Repeats.{repeat_at}
use Rattle.report_rules.proofs.repeats.flag_directory.Given as goal

abbrev pub invariant-loop-q : goal.invariant-loop-q
invariant-loop-q l = record {
  before : l.entries ≡ entries_to (place_at (store_in l.segments l.disk) (stored l.inode)) l.q;
  few : length l.entries ≤ l.q;
  flags : AreFlaggedOn (lists (repeat_at (place_at (store_in l.segments l.disk) (stored l.inode)) (stored l.inode).small) l.q) l.initial.repeats l.repeats;
}
