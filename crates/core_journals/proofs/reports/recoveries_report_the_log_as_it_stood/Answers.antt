-- Step by step.
use Rattle.core_journals.proofs.Reporting.{all_began, redos_stood, reports_stood, slots_stood}
use Rattle.core_journals.proofs.reports.recoveries_report_the_log_as_it_stood.Goals as goal

pub returns : goal.returns
returns c =
    let ends = c.leases_last.ensures.end in
    record {
      began = all_began;
      reads = λ script segments run disk s by dead b. slots_stood ends script segments run disk s by dead b;
      replays = λ script segments run disk s by dead b. redos_stood ends script segments run disk s by dead b;
      reports = λ script segments run disk s by dead b. reports_stood ends script segments run disk s by dead b;
    }
