-- The locks at the places so far may not be given.
use Rattle.core_definitions.specs.WriteGuards.{may_give}
use Rattle.lock_definitions.specs.Calls.{revokes}
use Rattle.world_state.specs.States.{core_at}
use Rattle.world_asks.proofs.Places.{ArePassed}
use Rattle.world_asks.proofs.gives.given_next.Given as goal

abbrev pub invariant-loop-place : goal.invariant-loop-place
invariant-loop-place l = ArePassed (may_give (core_at l.world) l.a.0) (revokes l.world.locks.locks l.a.0) l.place
