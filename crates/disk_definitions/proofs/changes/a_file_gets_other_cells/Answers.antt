-- By the lemmas over plain variables.
use Rattle.disk_definitions.proofs.Resize.{files_are_resized, own_blocks_do}
use Rattle.disk_definitions.proofs.changes.a_file_gets_other_cells.Goals as goal

pub returns-clause-values : goal.returns-clause-values
returns-clause-values c = files_are_resized

pub returns-clause-own : goal.returns-clause-own
returns-clause-own c = own_blocks_do
