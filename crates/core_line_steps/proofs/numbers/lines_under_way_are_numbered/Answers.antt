-- By the next line of each server.
use Rattle.core_line_steps.proofs.Numbered.{under_way_is_numbered}
use Rattle.core_line_steps.proofs.numbers.lines_under_way_are_numbered.Goals as goal

pub returns : goal.returns
returns c = record { numbered = under_way_is_numbered c.each_line_is_answered_once.ensures.next c.read_scripts_have_own_numbers.ensures c.read_scripts_ascend.ensures }
