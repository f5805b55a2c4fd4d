-- The rows.
use Rattle.log_examples.proofs.WrongRules.{by_first_sector, number_too_few, without_last_write}
use Rattle.log_examples.proofs.rows.wrong_rules_miss.Goals as goal

pub returns : goal.returns
returns c = let laws = c.good_logs_stay_good.ensures in record { seal = without_last_write; number = number_too_few laws.begin laws.step laws.reads; sector = by_first_sector }
