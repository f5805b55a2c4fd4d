-- By the numbers of bytes.
use Rattle.sector_bytes.proofs.ChangeLaws.{spelling_is}
use Rattle.sector_bytes.proofs.versions_are_little_endian.Goals as goal

pub returns-clause-written : goal.returns-clause-written
returns-clause-written c = spelling_is
