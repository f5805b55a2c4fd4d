-- The rows.
use Rattle.log_examples.proofs.Torn.{shared_end, torn_not_read}
use Rattle.log_examples.proofs.rows.torn_records_are_not_read.Goals as goal

pub returns : goal.returns
returns c =
    let laws = c.good_logs_stay_good.ensures in record { torn = torn_not_read laws.begin laws.step laws.reads; shared = shared_end laws.begin laws.step laws.reads }
