-- By the laws on trees.
use Rattle.sector_world.specs.Trees.{Related}
use Rattle.sector_world.proofs.Trees.{distinct_step, stand_good}
use Rattle.sector_world.proofs.world.every_tree_event.Goals as goal

pub returns-clause-numbers : goal.returns-clause-numbers
returns-clause-numbers g c = λ number_of new_to first w e n d. distinct_step (Related number_of new_to) first w e n d

pub returns-clause-stand : goal.returns-clause-stand
returns-clause-stand g c = λ plan disk_of tree_of apply number_of new_to meets first w begins l d good. stand_good plan (Related disk_of tree_of) apply (Related number_of new_to) meets first w begins l d good
