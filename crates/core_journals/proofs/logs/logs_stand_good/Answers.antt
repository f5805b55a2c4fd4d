-- Step by step.
use Rattle.core_journals.proofs.Standing.{log_begins, log_goes_on, log_stands, opened_fits, opened_rests}
use Rattle.core_journals.proofs.logs.logs_stand_good.Goals as goal

pub returns : goal.returns
returns c =
    let ends = c.leases_last.ensures.end in
    let zero = c.the_opening_puts_the_disk.ensures.logs in
    record {
      begin = log_begins;
      step = λ script segments run disk s v. log_goes_on ends script segments run disk s v;
      stand = λ script segments run disk a. log_stands ends script segments run disk a;
      opening = λ start is a. opened_rests zero start is a;
      first = λ start is a. opened_fits zero start is a;
    }
