-- One of the locks that are left lacks where one of all does.
use Rattle.std.proofs.Common.{◌≡◌, drop}
use Rattle.std.specs.List.{list_any}
use Rattle.set_definitions.specs.Sets.{lacks}
use Rattle.lock_sets.proofs.set.LockSet.lacks_any.Given as goal

abbrev pub invariant-loop-need : goal.invariant-loop-need
invariant-loop-need l = list_any (lacks l.self) (drop l.need-index l.needs) ≡ list_any (lacks l.self) l.needs
