-- From the last slot read on.
use Rattle.core_log_marks.proofs.Reports.{reports_begin, reports_stay}
use Rattle.core_log_marks.proofs.keeping.reports_are_of_journals.Goals as goal

pub returns : goal.returns
returns c = record { begin = reports_begin; stay = reports_stay c.leases_last.ensures.end c.slots_read_are_the_disks.ensures.recovery }
