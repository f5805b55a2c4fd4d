-- With the rest, it is with all.
use Rattle.std.proofs.Common.{◌≡◌, drop}
use Rattle.lock_rebuild.specs.Steps.{with_all_logs}
use Rattle.lock_rebuild.proofs.rebuilding.Rebuilding.put_all_logs.Given as goal

abbrev pub invariant-loop-clerk : goal.invariant-loop-clerk
invariant-loop-clerk l = with_all_logs l.self (drop l.clerk-index l.clerks) ≡ with_all_logs l.fn.self l.clerks
