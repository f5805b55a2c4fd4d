-- By the recursions along the rest of the list.
use Rattle.tree_laws.proofs.SeeingLaws.{seen_has_a_witness, a_witness_has_seen}
use Rattle.tree_laws.proofs.histories.an_entry_is_seen_by_another_server.Goals as goal

pub returns-clause-has : goal.returns-clause-has
returns-clause-has c = seen_has_a_witness

pub returns-clause-sees : goal.returns-clause-sees
returns-clause-sees c = a_witness_has_seen
