-- By the sectors that come under other locks.
use Rattle.server_core.specs.Outcomes.{moves_of}
use Rattle.kept_plans.proofs.Outcomes.{committed_so}
use Rattle.kept_plans.proofs.laws.outcomes_are_committed.Goals as goal

pub returns : goal.returns
returns c = record {
  committed = committed_so;
  moves = λ flights server outcome of_core is. c.moved_writes_are_the_cores.ensures.made flights server of_core (moves_of outcome.moves.items) is.moved;
}
