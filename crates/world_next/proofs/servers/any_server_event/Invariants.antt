-- None of the servers so far does anything.
use Rattle.std.proofs.Common.{◌<◌, ℕ}
use Rattle.host_tree.specs.Reading.{HostReading}
use Rattle.world_next.specs.NoEvents.{NoneOfServer}
use Rattle.world_next.specs.Over.{core_over}
use Rattle.world_next.proofs.servers.any_server_event.Given as goal

abbrev pub invariant-loop-a : goal.invariant-loop-a
invariant-loop-a l = (tree : HostReading) (b : ℕ) → b < l.a → NoneOfServer (core_over l.world tree) b
