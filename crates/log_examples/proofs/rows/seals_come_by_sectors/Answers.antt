-- The rows.
use Rattle.log_examples.proofs.Seals.{seals_come}
use Rattle.log_examples.proofs.rows.seals_come_by_sectors.Goals as goal

pub returns : goal.returns
returns c = let laws = c.good_logs_stay_good.ensures in seals_come laws.begin laws.step laws.reads c.sealing_leaves_the_log.ensures.sealed
