-- Event by event, and step by step.
use Rattle.core_tree_reads.proofs.Reading.{later_only, only_reading_of_run}
use Rattle.core_tree_reads.proofs.rest.nothing_is_done_while_reading.Goals as goal

pub returns : goal.returns
returns c = record {
  only = λ setting disk s event heard own run read makes. only_reading_of_run c.each_line_is_answered_once.ensures.next setting disk own s event heard run read makes;
  later = λ setting disk s v own run more read. later_only c.each_line_is_answered_once.ensures.next setting disk own s v run more read;
}
