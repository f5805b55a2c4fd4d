-- By the case of a step.
use Rattle.core_log_steps.proofs.Standing.{logs_go_on, standing_open}
use Rattle.core_log_steps.proofs.steps.logs_go_on.Goals as goal

pub returns : goal.returns
returns c = record {
  step = logs_go_on c.leases_last.ensures.end c.each_line_is_answered_once.ensures.next c.read_scripts_have_own_numbers.ensures;
  opened = standing_open c.logs_are_open.ensures;
}
