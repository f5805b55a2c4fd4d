-- It has no lines.
use Rattle.opening_examples.proofs.Begins.{may_begin}
use Rattle.opening_examples.proofs.runs.an_empty_script_may_begin.Goals as goal

pub returns : goal.returns
returns c = record { may = may_begin c.each_start_is_an_opening.ensures.bytes }
