-- Three events, computed.
use Rattle.core_tree_reads.proofs.Example.{reads_the_tree}
use Rattle.core_tree_reads.proofs.examples.an_empty_script_reads_the_tree.Goals as goal

pub returns : goal.returns
returns c = record { reads = reads_the_tree }
