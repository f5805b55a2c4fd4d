-- Line by line.
use Rattle.core_histories.proofs.Stalls.{who_owes}
use Rattle.core_histories.proofs.answers.who_owes_has_stalled.Goals as goal

pub returns : goal.returns
returns c = record { stalled = who_owes c.read_scripts_are_numbered.ensures.numbered c.who_rests_has_nothing.ensures.landed }
