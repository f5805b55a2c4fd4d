-- At first, by an operation, and by the rest.
use Rattle.core_line_steps.proofs.Numbered.{first_are_numbered, numbers_stay, operations_are_numbered}
use Rattle.core_line_steps.proofs.numbers.numbers_stay_new.Goals as goal

pub returns : goal.returns
returns c = record {
  first = first_are_numbered;
  operation = operations_are_numbered c.each_line_is_answered_once.ensures.next c.read_scripts_have_own_numbers.ensures c.read_scripts_ascend.ensures;
  stay = numbers_stay;
}
