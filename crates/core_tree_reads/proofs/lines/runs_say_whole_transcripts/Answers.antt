-- Line by line.
use Rattle.core_tree_reads.specs.Lines.{RunsSayWholeTranscripts}
use Rattle.core_tree_reads.proofs.Whole.{read_scripts_say_whole, runs_say_whole}
use Rattle.core_tree_reads.proofs.lines.runs_say_whole_transcripts.Goals as goal

pub returns : goal.returns
returns c =
    let whole : RunsSayWholeTranscripts =
    runs_say_whole c.records_are_transcripts.ensures.transcripts c.the_lines_said_are_the_trees.ensures.lines c.the_lines_said_are_read.ensures.lines c.read_scripts_are_numbered.ensures.own in
    record { whole = whole; read = read_scripts_say_whole c.read_scripts_are_numbered.ensures.numbered whole }
