-- By the laws of the definition.
use Rattle.disk_definitions.proofs.DirectoryLaws.{directory_back, directory_read, directory_found, directory_once}
use Rattle.dir_block.proofs.Storable.{storable}
use Rattle.dir_block.proofs.laws.what_is_written_reads_back.Goals as goal

pub returns-clause-back : goal.returns-clause-back
returns-clause-back c x h = directory_back x (storable x h)

pub returns-clause-read : goal.returns-clause-read
returns-clause-read c = directory_read

pub returns-clause-found : goal.returns-clause-found
returns-clause-found c block x h = directory_found block x (storable x h)

pub returns-clause-once : goal.returns-clause-once
returns-clause-once c block x y h g = directory_once block x y (storable x h) (storable y g)
