-- By the naming under which the disk stands for the tree.
use Rattle.opening_laws.proofs.Opened.{openings_are_first_disks}
use Rattle.opening_laws.proofs.an_opening_begins_histories.Goals as goal

pub returns : goal.returns
returns c = record { first = openings_are_first_disks }
