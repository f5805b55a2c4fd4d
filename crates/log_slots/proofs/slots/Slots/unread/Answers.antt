-- The slots that are kept as unread are the definition's.
use Rattle.std.proofs.Common.{ap, ◌∙◌}
use Rattle.std.specs.Map.{keys_of}
use Rattle.log_slots.specs.Reading.{unread_slots}
use Rattle.log_slots.proofs.UnreadSlots.{unread_is}
use Rattle.log_slots.proofs.slots.Slots.unread.Goals as goal

pub returns : goal.returns
returns c = ap keys_of c.chunks.ensures ∙ unread_is c.self.inside.unread.entries c.self.inside.blocks.entries c.self.invariant ∙ ap (λ slots. unread_slots slots.entries) c.self.view_is
