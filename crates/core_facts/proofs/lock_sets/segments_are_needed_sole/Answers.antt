-- By what a line grows by, step by step.
use Rattle.core_facts.proofs.Soling.{segments_sole}
use Rattle.core_facts.proofs.lock_sets.segments_are_needed_sole.Goals as goal

pub returns : goal.returns
returns c = record { sole = segments_sole }
