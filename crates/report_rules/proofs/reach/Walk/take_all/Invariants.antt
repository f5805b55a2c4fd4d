use Rattle.std.proofs.Common.{◌≡◌, ◌+◌, ◌*◌, length}
use Rattle.disk_reading.specs.Reach.{unflagged}
use Rattle.disk_reading.specs.Seen.{store_in}
use Rattle.report_rules.specs.Walks.{IsOnTheWay}
use Rattle.report_rules.proofs.reach.Walk.take_all.Given as goal

abbrev pub invariant-loop-d : goal.invariant-loop-d
invariant-loop-d l = record {
  long : length l.self.reached ≡ 64 * l.segments;
  on : IsOnTheWay (store_in l.segments l.disk) l.self.reached l.self.later.items;
}

abbrev pub decreases-loop-d : goal.decreases-loop-d
decreases-loop-d l = unflagged l.self.reached + length l.self.later.items
