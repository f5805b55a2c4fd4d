-- Line by line.
use Rattle.core_transcripts.proofs.Reading.{read_numbers}
use Rattle.core_transcripts.proofs.answers.read_scripts_have_own_numbers.Goals as goal

pub returns : goal.returns
returns c = read_numbers
