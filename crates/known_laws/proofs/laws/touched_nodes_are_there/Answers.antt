-- The law.
use Rattle.known_laws.proofs.Changed.{changed_are_there_or_new}
use Rattle.known_laws.proofs.There.{touched_are_there}
use Rattle.known_laws.proofs.laws.touched_nodes_are_there.Goals as goal

pub returns : goal.returns
returns c = record { touched = touched_are_there; changed = changed_are_there_or_new }
