-- No ticket is given meanwhile, and there are fewer each time.
use Rattle.std.proofs.Common.{◌≡◌, length}
use Rattle.world_state.proofs.ends.lose_all.Given as goal

abbrev pub invariant-loop-ticket : goal.invariant-loop-ticket
invariant-loop-ticket l = l.flights.next ≡ l.initial.flights.next

abbrev pub decreases-loop-ticket : goal.decreases-loop-ticket
decreases-loop-ticket l = length l.flights.flying
