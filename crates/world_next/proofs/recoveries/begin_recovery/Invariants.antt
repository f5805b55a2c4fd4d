-- No log of a server so far may be recovered by the taker.
use Rattle.std.proofs.Common.{◌≡◌, ◌<◌, ℕ, false}
use Rattle.core_definitions.specs.EndGuards.{may_recover}
use Rattle.world_state.specs.States.{core_at}
use Rattle.world_next.proofs.recoveries.begin_recovery.Given as goal

abbrev pub invariant-loop-dead : goal.invariant-loop-dead
invariant-loop-dead l = (dead : ℕ) → dead < l.dead → may_recover (core_at l.world) dead l.by.0 ≡ false
