-- By the keys of faults, which rise.
use Rattle.report_definitions.proofs.Rising.{faults_ascend}
use Rattle.report_definitions.proofs.faults_are_told_in_order.Goals as goal

pub returns : goal.returns
returns c = record { ascend = faults_ascend }
