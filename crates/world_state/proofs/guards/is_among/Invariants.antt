-- The lock is among those that are left where it is among all.
use Rattle.std.proofs.Common.{◌≡◌, drop}
use Rattle.set_definitions.specs.Sets.{has_lock}
use Rattle.world_state.proofs.guards.is_among.Given as goal

abbrev pub invariant-loop-need : goal.invariant-loop-need
invariant-loop-need l = has_lock (drop l.need-index l.locks) l.lock ≡ has_lock l.locks l.lock
