-- The bits of the servers so far.
use Rattle.std.proofs.Common.{◌≡◌}
use Rattle.lock_definitions.specs.Servers.{bits_below}
use Rattle.lock_rebuild.specs.Guard.{is_silent}
use Rattle.lock_rebuild.proofs.guarded.Guarded.silent_bits.Given as goal

abbrev pub invariant-loop-server : goal.invariant-loop-server
invariant-loop-server l = l.bits ≡ bits_below (is_silent l.self) l.server
