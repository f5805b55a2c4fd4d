-- What stands for the tree lies there.
use Rattle.headline_histories.proofs.Standing.{disks_stand}
use Rattle.headline_histories.proofs.a_disk_stands_behind_its_logs.Goals as goal

pub returns : goal.returns
returns c = record { stands = disks_stand }
