-- One lemma for each event and each part of what holds.
use Rattle.sector_world.proofs.Every.{good_start, good_step}
use Rattle.sector_world.proofs.Holding.{holds_good}
use Rattle.sector_world.proofs.OneDisk.{orderly_good, one_disk_good}
use Rattle.sector_world.proofs.Quiet.{quiet_good}
use Rattle.sector_world.proofs.Legal.{legal_step, legal_good}
use Rattle.sector_world.proofs.world.every_event.Goals as goal

pub returns-clause-start : goal.returns-clause-start
returns-clause-start c = good_start

pub returns-clause-step : goal.returns-clause-step
returns-clause-step c = good_step

pub returns-clause-holds : goal.returns-clause-holds
returns-clause-holds c = holds_good

pub returns-clause-orderly : goal.returns-clause-orderly
returns-clause-orderly c = orderly_good

pub returns-clause-one_disk : goal.returns-clause-one_disk
returns-clause-one_disk c = one_disk_good

pub returns-clause-quiet : goal.returns-clause-quiet
returns-clause-quiet c = quiet_good

pub returns-clause-legal : goal.returns-clause-legal
returns-clause-legal c = legal_step

pub returns-clause-left : goal.returns-clause-left
returns-clause-left c = legal_good
