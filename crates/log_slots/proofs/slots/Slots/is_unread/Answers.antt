-- A slot that is kept as unread is one of the definition's.
use Rattle.std.proofs.Common.{is_some, sym, ap, ◌∙◌}
use Rattle.frang_base.specs.Functions.{member}
use Rattle.log_slots.specs.Reading.{unread_slots}
use Rattle.log_slots.proofs.Maps.{keys_member}
use Rattle.log_slots.proofs.UnreadSlots.{unread_is}
use Rattle.log_slots.proofs.slots.Slots.is_unread.Goals as goal

pub returns-in-Some : goal.returns-in-Some
returns-in-Some c =
    ap is_some c.in-Some.ensures ∙ sym (keys_member c.self.inside.unread.entries c.args.slot)
    ∙ ap (member c.args.slot) (unread_is c.self.inside.unread.entries c.self.inside.blocks.entries c.self.invariant) ∙ ap (λ slots. member c.args.slot (unread_slots slots.entries)) c.self.view_is

pub returns-in-None : goal.returns-in-None
returns-in-None c =
    ap is_some c.in-None.ensures ∙ sym (keys_member c.self.inside.unread.entries c.args.slot)
    ∙ ap (member c.args.slot) (unread_is c.self.inside.unread.entries c.self.inside.blocks.entries c.self.invariant) ∙ ap (λ slots. member c.args.slot (unread_slots slots.entries)) c.self.view_is
