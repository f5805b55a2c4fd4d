-- The core is the same, and the servers so far are fresh.
use Rattle.std.proofs.Common.{◌≡◌, ◌<◌, ℕ}
use Rattle.world_state.specs.States.{core_at}
use Rattle.world_asks.specs.Fresh.{IsFreshAt}
use Rattle.world_asks.proofs.refreshing.refresh_all.Given as goal

abbrev pub invariant-loop-a : goal.invariant-loop-a
invariant-loop-a l = record {
  core : core_at l.world ≡ core_at l.fn.world;
  fresh : (b : ℕ) → b < l.a → IsFreshAt l.world b;
}
