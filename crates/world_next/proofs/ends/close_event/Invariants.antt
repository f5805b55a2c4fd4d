-- No server so far may be closed.
use Rattle.std.proofs.Common.{◌≡◌, ◌<◌, ℕ, false}
use Rattle.core_definitions.specs.EndGuards.{may_close}
use Rattle.world_state.specs.States.{core_at}
use Rattle.world_next.proofs.ends.close_event.Given as goal

abbrev pub invariant-loop-a : goal.invariant-loop-a
invariant-loop-a l = (a : ℕ) → a < l.a → may_close (core_at l.world) a ≡ false
