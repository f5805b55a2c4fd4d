-- Step by step.
use Rattle.core_facts.proofs.Marking.{marked_last}
use Rattle.core_facts.proofs.marks.marks_are_of_the_log.Goals as goal

pub returns : goal.returns
returns c = record { marks = marked_last }
