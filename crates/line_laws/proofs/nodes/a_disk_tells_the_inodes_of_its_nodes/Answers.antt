-- By names from the root.
use Rattle.line_laws.proofs.Told.{namings_agree}
use Rattle.line_laws.proofs.nodes.a_disk_tells_the_inodes_of_its_nodes.Goals as goal

pub returns : goal.returns
returns c = record { agree = namings_agree }
