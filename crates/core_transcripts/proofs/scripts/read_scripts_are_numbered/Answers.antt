-- Line by line.
use Rattle.std.proofs.Common.{false}
use Rattle.std.specs.Str.Lines.{lines}
use Rattle.core_transcripts.proofs.Apart.{apart_is_own, apart_of_own}
use Rattle.core_transcripts.proofs.Hosted.{lines_hosted}
use Rattle.core_transcripts.proofs.scripts.read_scripts_are_numbered.Goals as goal

pub returns : goal.returns
returns c = record {
  numbered = λ bytes script e. record {
    apart = apart_of_own script (c.read_scripts_have_own_numbers.ensures bytes script e);
    hosted = lines_hosted 1 false (lines bytes) script (c.what_is_read_is_in_the_grammar.ensures bytes script e).1;
  };
  own = apart_is_own;
}
