-- Without slots each is unread.
use Rattle.std.proofs.Common.{ap, sym, arith, ◌∙◌}
use Rattle.frang_base.specs.Functions.{member}
use Rattle.log_slots.specs.Reading.{unread_slots}
use Rattle.server_core.specs.States.{slots_in}
use Rattle.server_core.proofs.NothingRead.{each_is_unread}
use Rattle.server_core.proofs.under.Under.is_unread.Goals as goal

pub returns-in-None : goal.returns-in-None
returns-in-None c =
    each_is_unread c.args.slot (omega (arith, c.ranges.slot)) ∙ ap (λ slots. member c.args.slot (unread_slots (slots_in slots))) (sym c.in-None.is)
    ∙ ap (λ u. member c.args.slot (unread_slots u.under.slots)) c.self.view_is
