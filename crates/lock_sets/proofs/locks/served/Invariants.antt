-- So many are held, and of the locks that are left those from the first on.
use Rattle.std.proofs.Common.{◌≡◌, ◌+◌, drop}
use Rattle.std.specs.List.{prefix_len}
use Rattle.set_definitions.specs.Sets.{is_served}
use Rattle.lock_sets.proofs.locks.served.Given as goal

abbrev pub invariant-loop-need : goal.invariant-loop-need
invariant-loop-need l = record {
  count : l.count ≡ l.need-index;
  all : prefix_len (is_served l.table.locks l.server.0) l.locks ≡ l.count + prefix_len (is_served l.table.locks l.server.0) (drop l.need-index l.locks);
}
