-- Operation by operation, and step by step.
use Rattle.standing_laws.proofs.Applied.{apply_keeps_reached}
use Rattle.standing_laws.proofs.Steps.{fresh_reached, step_reached, steps_reached}
use Rattle.standing_laws.proofs.reach.each_node_stays_reached.Goals as goal

pub returns : goal.returns
returns c = record { fresh = fresh_reached; apply = apply_keeps_reached; step = step_reached; steps = steps_reached }
