-- The slot is left where the sector is.
use Rattle.std.proofs.Common.{◌≡◌, Option, Some, None, subst, ◌∙◌}
use Rattle.world_asks.specs.Fetches.{IsSlotAt}
use Rattle.world_asks.proofs.UnreadSectors.{left_where, not_left}
use Rattle.world_asks.proofs.slots.is_left.Goals as goal

pub returns-in-Some : goal.returns-in-Some
returns-in-Some c =
    c.is_unread.ensures ∙ left_where c.args.a.0 c.in-Some.slot c.args.sector.0 c.args.under.now.under.slots (subst (IsSlotAt c.args.a.0 c.args.sector.0) c.in-Some.is c.slot_at.ensures)

pub returns-in-None : goal.returns-in-None
returns-in-None c = not_left c.args.a.0 c.args.sector.0 c.args.under.now.under.slots (subst (IsSlotAt c.args.a.0 c.args.sector.0) c.in-None.is c.slot_at.ensures)
