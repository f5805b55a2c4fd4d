-- The servers so far are listed.
use Rattle.std.proofs.Common.{◌≡◌, map}
use Rattle.std.specs.List.{range_with_len}
use Rattle.known_locks.specs.Listed.{clerk_of}
use Rattle.known_locks.proofs.known.KnownLocks.clerks.Given as goal

abbrev pub invariant-loop-server : goal.invariant-loop-server
invariant-loop-server l = l.clerks.items ≡ map (clerk_of l.self.locks) (range_with_len 0 l.server)
