-- Line by line.
use Rattle.headline_runs.proofs.Asked.{may_be_asked}
use Rattle.headline_runs.proofs.read_scripts_may_be_asked.Goals as goal

pub returns : goal.returns
returns c = record { asked = may_be_asked c.what_is_read_is_in_the_grammar.ensures c.scripts_ask_what_can_be_said.ensures c.scripts_take_few_ticks.ensures }
