-- By the law.
use Rattle.core_log_marks.proofs.Meeting.{a_last_record_is_read}
use Rattle.core_log_marks.proofs.examples.a_last_record_is_read.Goals as goal

pub returns : goal.returns
returns c = a_last_record_is_read c.good_logs_stay_good.ensures.begin c.good_logs_stay_good.ensures.step c.a_log_has_one_end.ensures.zeros c.last_records_are_read.ensures
