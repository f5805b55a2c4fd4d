-- Whether one of the servers so far is silent.
use Rattle.std.proofs.Common.{◌≡◌}
use Rattle.lock_definitions.specs.Servers.{any_below}
use Rattle.lock_rebuild.specs.Guard.{is_silent}
use Rattle.lock_rebuild.proofs.guarded.Guarded.is_any_silent.Given as goal

abbrev pub invariant-loop-server : goal.invariant-loop-server
invariant-loop-server l = l.some ≡ any_below (is_silent l.self) l.server
