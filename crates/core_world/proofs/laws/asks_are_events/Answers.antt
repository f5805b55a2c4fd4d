-- By the answer.
use Rattle.core_world.proofs.Asking.{asks_so}
use Rattle.core_world.proofs.laws.asks_are_events.Goals as goal

pub returns : goal.returns
returns c = record { ask = asks_so }
