-- It is needed, or its mount hasn't read it.
use Rattle.std.proofs.Common.{sym, ◌∙◌}
use Rattle.world_asks.specs.Asking.{stage_in}
use Rattle.world_asks.proofs.LineStages.{staged}
use Rattle.world_asks.proofs.NeededSectors.{fetches_down, fetches_up}
use Rattle.world_asks.proofs.asking.Asking.may_fetch.Goals as goal

pub returns-else-is_up : goal.returns-else-is_up
returns-else-is_up c =
    c.is_unread.ensures ∙ sym (fetches_down c.args.self.now c.party.result.now c.party.ensures (sym c.is_up.ensures ∙ c.if-is_up.false) c.args.sector.0)
