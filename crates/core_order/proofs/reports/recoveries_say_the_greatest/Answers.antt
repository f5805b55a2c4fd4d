-- Step by step.
use Rattle.core_order.proofs.Saying.{prefixes_say, runs_say}
use Rattle.core_order.proofs.reports.recoveries_say_the_greatest.Goals as goal

pub returns : goal.returns
returns c =
    let reports = c.recoveries_report_the_log_as_it_stood.ensures.reports in
    record { runs = runs_say reports; prefixes = prefixes_say reports c.each_prefix_is_witnessed.ensures.through }
