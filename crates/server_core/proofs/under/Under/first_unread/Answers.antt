-- Without slots none is read.
use Rattle.std.proofs.Common.{ap, sym, ◌∙◌}
use Rattle.std.specs.List.{slice_get}
use Rattle.log_slots.specs.Reading.{unread_slots}
use Rattle.server_core.specs.States.{slots_in}
use Rattle.server_core.proofs.NothingRead.{first_is_first}
use Rattle.server_core.proofs.under.Under.first_unread.Goals as goal

pub returns-in-None : goal.returns-in-None
returns-in-None c = first_is_first ∙ ap (λ slots. slice_get (unread_slots (slots_in slots)) 0) (sym c.in-None.is) ∙ ap (λ u. slice_get (unread_slots u.under.slots) 0) c.self.view_is
