-- The rows.
use Rattle.log_examples.proofs.Deaths.{five_deaths}
use Rattle.log_examples.proofs.rows.five_deaths_leave_nothing.Goals as goal

pub returns : goal.returns
returns c = let laws = c.good_logs_stay_good.ensures in five_deaths laws.begin laws.step laws.reads
