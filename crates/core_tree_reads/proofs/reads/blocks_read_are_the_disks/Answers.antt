-- Step by step.
use Rattle.core_tree_reads.proofs.Reading.{blocks_of_run, stay_read}
use Rattle.core_tree_reads.proofs.reads.blocks_read_are_the_disks.Goals as goal

pub returns : goal.returns
returns c = record { disk = λ setting disk s own run. blocks_of_run c.each_line_is_answered_once.ensures.next setting disk own s run; stay = stay_read }
