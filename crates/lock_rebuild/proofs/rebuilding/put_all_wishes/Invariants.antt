-- With the rest, it is with all; the rest is a list of servers.
use Rattle.std.proofs.Common.{◌≡◌, drop}
use Rattle.lock_rebuild.specs.Rebuilt.{AreServers}
use Rattle.lock_rebuild.specs.Steps.{with_all_wishes}
use Rattle.lock_rebuild.proofs.rebuilding.put_all_wishes.Given as goal

abbrev pub invariant-loop-clerk : goal.invariant-loop-clerk
invariant-loop-clerk l = record {
  wishes : with_all_wishes l.table.locks (drop l.clerk-index l.clerks) ≡ with_all_wishes l.fn.table.locks l.clerks;
  servers : AreServers (drop l.clerk-index l.clerks);
}
