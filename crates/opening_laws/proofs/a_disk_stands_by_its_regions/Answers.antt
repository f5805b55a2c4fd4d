-- By what the sectors of the regions say.
use Rattle.opening_laws.proofs.Framed.{regions_stand}
use Rattle.opening_laws.proofs.a_disk_stands_by_its_regions.Goals as goal

pub returns : goal.returns
returns c = record { stands = regions_stand }
