-- A change that was applied finds the block no longer older.
use Rattle.sector_bytes.proofs.ChangeLaws.{reached, rises, applied-applied}
use Rattle.sector_bytes.proofs.applied_twice_is_once.Goals as goal

pub returns-clause-once : goal.returns-clause-once
returns-clause-once c = applied-applied

pub returns-clause-reached : goal.returns-clause-reached
returns-clause-reached c = reached

pub returns-clause-rises : goal.returns-clause-rises
returns-clause-rises c = rises
