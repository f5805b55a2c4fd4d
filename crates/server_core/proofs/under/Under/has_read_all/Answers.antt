-- Without slots none is read.
use Rattle.std.proofs.Common.{ap, sym, ◌∙◌}
use Rattle.log_slots.specs.Reading.{are_all_read}
use Rattle.server_core.specs.States.{slots_in}
use Rattle.server_core.proofs.NothingRead.{none_is_all}
use Rattle.server_core.proofs.under.Under.has_read_all.Goals as goal

pub returns-in-None : goal.returns-in-None
returns-in-None c = none_is_all ∙ ap (λ slots. are_all_read (slots_in slots)) (sym c.in-None.is) ∙ ap (λ u. are_all_read u.under.slots) c.self.view_is
