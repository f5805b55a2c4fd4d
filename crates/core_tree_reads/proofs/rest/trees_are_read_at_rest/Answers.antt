-- Step by step.
use Rattle.core_tree_reads.proofs.Reading.{rest_of_run}
use Rattle.core_tree_reads.proofs.rest.trees_are_read_at_rest.Goals as goal

pub returns : goal.returns
returns c = record { rest = λ setting disk s own run read. rest_of_run c.each_line_is_answered_once.ensures.next setting disk own s run read }
