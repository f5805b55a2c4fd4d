-- No server so far is up.
use Rattle.std.proofs.Common.{◌≡◌, false}
use Rattle.std.specs.List.{list_any}
use Rattle.core_definitions.specs.Servers.{is_up}
use Rattle.tree_definitions.specs.Numbers.{below}
use Rattle.world_state.specs.States.{core_at}
use Rattle.world_next.proofs.recoveries.first_taker.Given as goal

abbrev pub invariant-loop-a : goal.invariant-loop-a
invariant-loop-a l = list_any (λ a. is_up ((core_at l.world).servers a).phase) (below l.a) ≡ false
