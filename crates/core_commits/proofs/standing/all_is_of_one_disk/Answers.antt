-- One disk.
use Rattle.core_commits.proofs.OneDisk.{all_stood, whole_stood}
use Rattle.core_commits.proofs.standing.all_is_of_one_disk.Goals as goal

pub returns : goal.returns
returns c = record { stood = all_stood; whole = whole_stood }
