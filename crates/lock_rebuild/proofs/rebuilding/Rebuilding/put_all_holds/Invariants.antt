-- With the rest, it is with all; the rest is a list of servers, and where its numbers are those of bytes all are.
use Rattle.std.proofs.Common.{◌≡◌, drop}
use Rattle.lock_rebuild.specs.Rebuilt.{AreServers}
use Rattle.lock_rebuild.specs.Steps.{with_all_holds, AreNumbered}
use Rattle.lock_rebuild.proofs.rebuilding.Rebuilding.put_all_holds.Given as goal

abbrev pub invariant-loop-clerk : goal.invariant-loop-clerk
invariant-loop-clerk l = record {
  holds : with_all_holds l.self (drop l.clerk-index l.clerks) ≡ with_all_holds l.fn.self l.clerks;
  servers : AreServers (drop l.clerk-index l.clerks);
  numbered : AreNumbered (drop l.clerk-index l.clerks) → AreNumbered l.clerks;
}
